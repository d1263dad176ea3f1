-- Reading as a function gives exactly the well-formed message that has the bytes.
-- Assumes nothing.
use Rattle.std.proofs.Common.{◌≡◌, ℕ, Bool, true, false, ◌&&◌, eqb, ltb, List, [], ◌∷◌, length, take, Some, None, Ok, Err, Option, Result, sym, refl, ap, ◌∙◌, subst, arith}
use Rattle.std.proofs.lemmas.Bool.{cond-true, cond_both, and_parts, and_from, eqb-true, eq-eqb, ltb-true, lt-ltb}
use Rattle.part.specs.Bytes.{Named}
use Rattle.message.specs.declared.form.Malformed.{Malformed}
use Rattle.message.specs.declared.form.Message.{Message}
use Rattle.message.specs.Format.{Msg, Ask, Loan, Write, In, Void, Recall, Back, said, carried, layout, WellFormed, Decoded}
use Rattle.message.specs.Reading.{guess, named, formed, same_bytes, read, heard}
use Rattle.message.specs.Laws.{ReadsExactly}
use Rattle.message.proofs.Unique.{back, cut_short}

same_refl : (xs : List ℕ) → same_bytes xs xs ≡ true
unfolding same_bytes
same_refl [] = refl
same_refl (x ∷ xs) = and_from (eqb x x) (same_bytes xs xs) (eq-eqb x x refl) (same_refl xs)

same_true : (xs ys : List ℕ) → same_bytes xs ys ≡ true → xs ≡ ys
unfolding same_bytes
same_true [] [] e = refl
same_true [] (y ∷ ys) e = let z : ◌≡◌ {A = Bool} false true = e in cc
same_true (x ∷ xs) [] e = let z : ◌≡◌ {A = Bool} false true = e in cc
same_true (x ∷ xs) (y ∷ ys) e =
    let p = and_parts (eqb x y) (same_bytes xs ys) e in
    let a = eqb-true x y p.0 in
    let b = same_true xs ys p.1 in
    cc

named_true : (w q n : ℕ) → named w q n ≡ true → Named w q n
named_true w q n e =
    let a = and_parts (ltb w 32) (ltb q 16384 && ltb n 4294967296) e in
    let b = and_parts (ltb q 16384) (ltb n 4294967296) a.1 in
    (ltb-true w 32 a.0, ltb-true q 16384 b.0, ltb-true n 4294967296 b.1)

true_named : (w q n : ℕ) → Named w q n → named w q n ≡ true
true_named w q n h =
    and_from (ltb w 32) (ltb q 16384 && ltb n 4294967296) (lt-ltb w 32 h.0)
    (and_from (ltb q 16384) (ltb n 4294967296) (lt-ltb q 16384 h.1) (lt-ltb n 4294967296 h.2))

formed_true : (m : Msg) → formed m ≡ true → WellFormed m
formed_true (Ask w q n k l) e = let p = and_parts (named w q n) (ltb l 4294967296) e in (named_true w q n p.0, ltb-true l 4294967296 p.1)
formed_true (Loan w q n k v) e = let p = and_parts (named w q n) (eqb (length v) 1024) e in (named_true w q n p.0, eqb-true (length v) 1024 p.1)
formed_true (Write w q n v) e = let p = and_parts (named w q n) (eqb (length v) 1024) e in (named_true w q n p.0, eqb-true (length v) 1024 p.1)
formed_true (In w q n) e = named_true w q n e
formed_true (Void w q n) e = named_true w q n e
formed_true (Recall w q) e = let p = and_parts (ltb w 32) (ltb q 16384) e in (ltb-true w 32 p.0, ltb-true q 16384 p.1)
formed_true (Back w q n) e = named_true w q n e

true_formed : (m : Msg) → WellFormed m → formed m ≡ true
true_formed (Ask w q n k l) h = and_from (named w q n) (ltb l 4294967296) (true_named w q n h.0) (lt-ltb l 4294967296 h.1)
true_formed (Loan w q n k v) h = and_from (named w q n) (eqb (length v) 1024) (true_named w q n h.0) (eq-eqb (length v) 1024 h.1)
true_formed (Write w q n v) h = and_from (named w q n) (eqb (length v) 1024) (true_named w q n h.0) (eq-eqb (length v) 1024 h.1)
true_formed (In w q n) h = true_named w q n h
true_formed (Void w q n) h = true_named w q n h
true_formed (Recall w q) h = and_from (ltb w 32) (ltb q 16384) (lt-ltb w 32 h.0) (lt-ltb q 16384 h.1)
true_formed (Back w q n) h = true_named w q n h

-- the bytes of a well-formed message are read as that message
pub read_layout : (m : Msg) → WellFormed m → read (layout m) ≡ Some m
unfolding read
read_layout m f =
    let g = back m f in
    cond-true (formed (guess (layout m)) && same_bytes (layout (guess (layout m))) (layout m)) _ _
    (subst (λ (n : Msg). (formed n && same_bytes (layout n) (layout m)) ≡ true) (sym g) (and_from _ _ (true_formed m f) (same_refl (layout m))))
    ∙ ap (λ (n : Msg). Some n) g

-- what is read is well-formed, and has the bytes
pub read_some : (xs : List ℕ) (m : Msg) → read xs ≡ Some m → WellFormed m × (layout m ≡ xs)
unfolding read
read_some xs m =
    cond_both (formed (guess xs) && same_bytes (layout (guess xs)) xs) (Some (guess xs)) None (λ (o : Option Msg). o ≡ Some m → WellFormed m × (layout m ≡ xs))
    (λ t e.
    let p = and_parts (formed (guess xs)) (same_bytes (layout (guess xs)) xs) t in
    let i : guess xs ≡ m = cc in
    subst (λ (n : Msg). WellFormed n × (layout n ≡ xs)) i (formed_true (guess xs) p.0, same_true (layout (guess xs)) xs p.1))
    (λ t e. let z : ◌≡◌ {A = ℕ} 0 1 = cc in absurd (omega arith))

pub read_none : (xs : List ℕ) → ((m : Msg) → WellFormed m → layout m ≡ xs → ⊥) → read xs ≡ None
unfolding read
read_none xs h =
    cond_both (formed (guess xs) && same_bytes (layout (guess xs)) xs) (Some (guess xs)) None (λ (o : Option Msg). o ≡ None)
    (λ t. let p = and_parts (formed (guess xs)) (same_bytes (layout (guess xs)) xs) t in absurd (h (guess xs) (formed_true (guess xs) p.0) (same_true (layout (guess xs)) xs p.1)))
    (λ t. refl)

pub reads : (xs : List ℕ) (r : Result Message Malformed) → Decoded xs r → heard xs r ≡ read xs
reads xs (Ok m) (f, e) = sym (ap read (sym e) ∙ read_layout (said (carried xs) m) f)
reads xs (Err x) none = sym (read_none xs none)

pub reads_exactly : ReadsExactly
reads_exactly = (read_layout, read_some, λ m f n l. read_none (take n (layout m)) (λ k g e. cut_short m f n l k g e))
