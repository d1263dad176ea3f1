-- The layout read back, and its length by its first byte.
-- Assumes nothing.
use Rattle.std.proofs.Common.{◌≡◌, ℕ, ◌+◌, ◌*◌, ◌/◌, ◌%◌, ◌<◌, ◌≤◌, cond, eqb, List, length, get_or, take, Ok, Err, sym, refl, ap, ◌∙◌, arith, lit≤}
use Rattle.std.proofs.lemmas.List.{length-take, get_or-take}
use Rattle.part.proofs.Numbers.{number_back}
use Rattle.message.specs.declared.kind.Kind.{Kind}
use Rattle.message.specs.declared.kind.Kind.TheVariants.{Reading, Writing}
use Rattle.message.specs.declared.form.Message.{Message}
use Rattle.message.specs.declared.form.Message.TheVariants as code
use Rattle.message.specs.Kinds.{kind_byte}
use Rattle.message.specs.Format.{Msg, Ask, Loan, Write, In, Void, Recall, Back, said, carried, tag, layout, WellFormed, size_of}
use Rattle.message.specs.Reading.{kind, guess}
use Rattle.message.specs.Laws.{Distinct, Exact, CutRefused}

kind_back : (k : Kind) → kind (kind_byte k) ≡ k
kind_back Reading = refl
kind_back Writing = refl

place_back : (q : ℕ) → q / 256 * 256 + q % 256 ≡ q
place_back q = omega arith

pub back : (m : Msg) → WellFormed m → guess (layout m) ≡ m
back (Ask w q n k l) f = let e = kind_back k in let g = number_back n f.0.2 in let h = number_back l f.1 in let p = place_back q in cc
back (Loan w q n k v) f = let e = kind_back k in let g = number_back n f.0.2 in let p = place_back q in cc
back (Write w q n v) f = let g = number_back n f.0.2 in let p = place_back q in cc
back (In w q n) f = let g = number_back n f.2 in let p = place_back q in cc
back (Void w q n) f = let g = number_back n f.2 in let p = place_back q in cc
back (Recall w q) f = let p = place_back q in cc
back (Back w q n) f = let g = number_back n f.2 in let p = place_back q in cc

-- the length by the first byte
abbrev size_by : ℕ → ℕ
size_by t = cond (eqb t 1) 13 (cond (eqb t 2) 1033 (cond (eqb t 3) 1032 (cond (eqb t 6) 4 8)))

pub long : (m : Msg) → WellFormed m → length (layout m) ≡ size_by (tag m)
long (Ask w q n k l) f = refl
long (Loan w q n k v) f = omega arith
long (Write w q n v) f = omega arith
long (In w q n) f = refl
long (Void w q n) f = refl
long (Recall w q) f = refl
long (Back w q n) f = refl

-- the size of a message of the code
pub sized : (v : List ℕ) (m : Message) → length v ≡ 1024 → size_of m ≡ length (layout (said v m))
sized v (code.Ask a) e = refl
sized v (code.Loan h k) e = omega arith
sized v (code.Write h) e = omega arith
sized v (code.In h) e = refl
sized v (code.Void h) e = refl
sized v (code.Recall w p) e = refl
sized v (code.Back h) e = refl

pub most : (m : Message) → size_of m ≤ 1033
most (code.Ask a) = lit≤ tt
most (code.Loan h k) = lit≤ tt
most (code.Write h) = lit≤ tt
most (code.In h) = lit≤ tt
most (code.Void h) = lit≤ tt
most (code.Recall w p) = lit≤ tt
most (code.Back h) = lit≤ tt

pub distinct : Distinct
distinct m n f g e = sym (back m f) ∙ ap guess e ∙ back n g

pub exact : Exact
exact m f (Ok x) (g, e) = distinct (said (carried (layout m)) x) m g f e
exact m f (Err x) none = none m f refl

-- a proper first part of a message is no message
pub cut_short : (m : Msg) → WellFormed m → (n : ℕ) → n < length (layout m) → (k : Msg) → WellFormed k → layout k ≡ take n (layout m) → ⊥
cut_short m f n l k g e =
    let a = long k g in
    let b = long m f in
    let d : length (layout k) ≤ n = omega (arith, ap length e, length-take n (layout m)) in
    let pos : 0 < n = omega arith in
    let t : tag k ≡ tag m = ap (λ (q : List ℕ). get_or q 0 0) e ∙ get_or-take n (layout m) 0 0 pos in
    let s : size_by (tag k) ≡ size_by (tag m) = ap size_by t in
    omega arith

pub cut : CutRefused
cut m f n l (Ok x) (g, e) = cut_short m f n l (said (carried (take n (layout m))) x) g e
cut m f n l (Err x) none = tt
