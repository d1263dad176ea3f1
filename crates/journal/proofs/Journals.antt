-- The records that some bytes begin with.
-- Assumes nothing.
use Rattle.std.proofs.Common.{◌≡◌, ℕ, zero, suc, ◌-◌, ◌<◌, ltb, List, [], ◌∷◌, ◌++◌, length, get_or, take, drop, sym, refl, ap, ◌∙◌, subst, arith}
use Rattle.std.proofs.lemmas.List.{append_assoc, append-nil, drop_at, take_at, take_all, length-take-le}
use Rattle.std.proofs.lemmas.List.Prefix.{front_rest}
use Rattle.std.proofs.lemmas.Bool.{cond_both, ltb-true, ltb-false}
use Rattle.journal.specs.declared.record.Owner.{Owner}
use Rattle.journal.specs.Records.{Rec, tag, body, layout, Sound, AllSound, bytes_of, announced, Torn, NoRecord, Found, whole, torn, malformed, found, after, records_from, records_of}
use Rattle.journal.specs.Laws.{ReadBack, AppendRead, TornLeaves, StopLeaves, FrontIsRecords}
use Rattle.journal.proofs.Parses.{long, front, Shown, shown, torn_none}

ahead : (o : Owner) (n : ℕ) (ys : List ℕ) → records_from o n ys ≡ records_of o (drop n ys)
unfolding records_of records_from
ahead o zero [] = refl
ahead o (suc n) [] = refl
ahead o zero (t ∷ ys) = refl
ahead o (suc n) (t ∷ ys) = ahead o n ys

-- a record in front is the first of them
pub step : (o : Owner) (r : Rec) → Sound o r → (more : List ℕ) → records_of o (layout r ++ more) ≡ r ∷ records_of o more
unfolding records_of records_from
step o r f more =
    let n : ℕ = announced o (tag r) - 1 in
    let l : length (body r) ≡ n = omega (arith, long o r f) in
    ap (λ (fd : Found). after fd (records_from o n (body r ++ more))) (front o r f more)
    ∙ ap (λ (rs : List Rec). r ∷ rs) (ahead o n (body r ++ more) ∙ ap (records_of o) (drop_at (body r) more n l))

malformed_none : (o : Owner) (xs : List ℕ) → found o xs ≡ malformed → NoRecord o xs
malformed_none o xs e r f more q =
    let h : found o xs ≡ whole r = ap (found o) (sym q) ∙ front o r f more in
    let z : ◌≡◌ {A = ℕ} 0 1 = cc in
    omega arith

-- some bytes, the records that they begin with, and what follows, in which no record is in front
abbrev Parted : Owner → List ℕ → List Rec → Type 0
Parted o bs rs = AllSound o rs × (rest : List ℕ) × (bytes_of rs ++ rest ≡ bs) × NoRecord o rest

drop_first : (k n t : ℕ) (ys : List ℕ) → n ≡ suc k → drop n (t ∷ ys) ≡ drop (n - 1) ys
drop_first k n t ys e = let f : n - 1 ≡ k = omega arith in ap (λ (m : ℕ). drop m (t ∷ ys)) e ∙ ap (λ (m : ℕ). drop m ys) (sym f)

parted_first : (o : Owner) (t : ℕ) (ys : List ℕ) (rs : List Rec) (fd : Found) → found o (t ∷ ys) ≡ fd → Shown o (t ∷ ys) fd
    → Parted o (drop (announced o t - 1) ys) rs → Parted o (t ∷ ys) (after fd rs)
parted_first o t ys rs (whole r) e (f, h) (g, rest, i, k) =
    let a : tag r ≡ t = ap (λ (q : List ℕ). get_or q 0 0) h in
    let b : announced o t ≡ suc (length (body r)) = sym (ap (announced o) a) ∙ sym (long o r f) in
    let d : drop (announced o t) (t ∷ ys) ≡ bytes_of rs ++ rest = drop_first (length (body r)) (announced o t) t ys b ∙ sym i in
    ((f, g), rest, append_assoc (layout r) (bytes_of rs) rest ∙ ap (λ (q : List ℕ). layout r ++ q) (sym d) ∙ h, k)
parted_first o t ys rs torn e h p = (tt, t ∷ ys, refl, torn_none o (t ∷ ys) h)
parted_first o t ys rs malformed e h p = (tt, t ∷ ys, refl, malformed_none o (t ∷ ys) e)

parted_from : (o : Owner) (n : ℕ) (ys : List ℕ) → Parted o (drop n ys) (records_from o n ys)
unfolding records_from
parted_from o zero [] = (tt, [], refl, torn_none o [] tt)
parted_from o (suc n) [] = (tt, [], refl, torn_none o [] tt)
parted_from o (suc n) (t ∷ ys) = parted_from o n ys
parted_from o zero (t ∷ ys) = parted_first o t ys _ (found o (t ∷ ys)) refl (shown o (t ∷ ys)) (parted_from o (announced o t - 1) ys)

parted : (o : Owner) (bs : List ℕ) → Parted o bs (records_of o bs)
unfolding records_of
parted o bs = parted_from o 0 bs

pub front_is_records : FrontIsRecords
front_is_records o bs =
    let p = parted o bs in
    let rs : List Rec = records_of o bs in
    let rest : List ℕ = p.1 in
    let P : List ℕ → Type 0 = NoRecord o in (
      p.0,
      ap (λ (q : List ℕ). take (length (bytes_of rs)) q) (sym p.2) ∙ take_at (bytes_of rs) rest _ refl,
      subst P (sym (front_rest bs (bytes_of rs) rest (sym p.2))) p.3,
    )

-- where no record is in front there are none
pub none : (o : Owner) (xs : List ℕ) → NoRecord o xs → records_of o xs ≡ []
none o xs h = go (records_of o xs) (parted o xs)
  where
    go : (rs : List Rec) → Parted o xs rs → rs ≡ []
    go [] p = refl
    go (r ∷ rs) (f, rest, e, k) = absurd (h r f.0 (bytes_of rs ++ rest) (sym (append_assoc (layout r) (bytes_of rs) rest) ∙ e))

pub read_back : ReadBack
read_back o [] f t = refl
read_back o (r ∷ rs) f t =
    ap (records_of o) (append_assoc (layout r) (bytes_of rs) t) ∙ step o r f.0 (bytes_of rs ++ t)
    ∙ ap (λ (q : List Rec). r ∷ q) (read_back o rs f.1 t)

pub append_read : AppendRead
append_read o rs f r g =
    let e : records_of o (layout r) ≡ r ∷ [] =
    ap (records_of o) (sym (append-nil (layout r))) ∙ step o r g [] ∙ ap (λ (q : List Rec). r ∷ q) (none o [] (torn_none o [] tt)) in
    read_back o rs f (layout r) ∙ ap (λ (q : List Rec). rs ++ q) e

-- a proper first part of a record
torn_part : (o : Owner) (r : Rec) → Sound o r → (k : ℕ) → k < length (layout r) → Torn o (take k (layout r))
torn_part o r f zero l = tt
torn_part o r f (suc k) l = omega (arith, long o r f, length-take-le (suc k) (layout r) (omega arith))

-- the records before a torn end
pub torn_end : (o : Owner) (rs : List Rec) → AllSound o rs → (t : List ℕ) → Torn o t → records_of o (bytes_of rs ++ t) ≡ rs
torn_end o rs f t h = read_back o rs f t ∙ ap (λ (q : List Rec). rs ++ q) (none o t (torn_none o t h)) ∙ append-nil rs

pub torn_leaves : TornLeaves
torn_leaves o rs f r g k l =
    let t = torn_part o r g k l in
    (torn_end o rs f (take k (layout r)) t, t)

pub stop_leaves : StopLeaves
stop_leaves o rs f r g k =
    cond_both (ltb k (length (layout r))) rs (rs ++ (r ∷ [])) (λ q. records_of o (bytes_of rs ++ take k (layout r)) ≡ q)
    (λ e. (torn_leaves o rs f r g k (ltb-true k (length (layout r)) e)).0)
    (λ e. ap (λ (q : List ℕ). records_of o (bytes_of rs ++ q)) (take_all k (layout r) (ltb-false k (length (layout r)) e)) ∙ append_read o rs f r g)
