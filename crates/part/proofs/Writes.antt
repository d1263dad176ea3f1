-- What writes at a place leave: of some bytes, and of the parts of the files.
-- Assumes nothing.
use Rattle.std.proofs.Common.{◌≡◌, ℕ, ◌+◌, ◌-◌, ◌<◌, ◌≤◌, Bool, cond, eqb, leb, List, [], ◌∷◌, ◌++◌, length, take, drop, set, sym, refl, ap, ◌∙◌, add-one, arith}
use borrow.Rule.Slice.PartMut.{put_mid}
use Rattle.std.proofs.lemmas.List.{drop_at, take_at, drop-drop, set_split, append_assoc}
use Rattle.std.proofs.lemmas.Bool.{eq-eqb, ne_eqb, cond-true, cond-false, le-leb}
use Rattle.part.specs.Bytes.{placed}
use Rattle.part.specs.Parts.{at_1}

-- what a write to a slice of some bytes leaves
pub put_mid_is : (a k : ℕ) (xs ys zs : List ℕ) → ys ≡ zs → length zs ≡ k → put_mid a k xs ys ≡ placed a zs xs
put_mid_is a k xs ys zs e l = rw (e, drop-drop, ← l)

-- one byte written
pub put_one : (i : ℕ) (xs : List ℕ) (b : ℕ) → i < length xs → set xs i b ≡ placed i (b ∷ []) xs
put_one i xs b l = set_split xs i b l ∙ rw add-one refl

placed_on : (k : ℕ) (f ys zs : List ℕ) → length f ≡ k → placed k zs (f ++ drop k ys) ≡ (f ++ zs) ++ drop (k + length zs) ys
placed_on k f ys zs l =
    let a = take_at f (drop k ys) k l in
    let b : drop (k + length zs) (f ++ drop k ys) ≡ drop (k + length zs) ys =
    sym (drop-drop (length zs) k (f ++ drop k ys)) ∙ ap (λ (q : List ℕ). drop (length zs) q) (drop_at f (drop k ys) k l)
    ∙ drop-drop (length zs) k ys in
    rw (a, b) (sym (append_assoc f zs (drop (k + length zs) ys)))

-- a second write straight after the first: k bytes f stand at the front, and j bytes zs come behind them
pub next : (k j : ℕ) (f out ys zs was : List ℕ) → length f ≡ k → length zs ≡ j → was ≡ f ++ drop k ys → out ≡ placed k zs was
    → out ≡ (f ++ zs) ++ drop (k + j) ys
next k j f out ys zs was l m e o = o ∙ ap (λ (q : List ℕ). placed k zs q) e ∙ placed_on k f ys zs l ∙ rw m refl

-- what was written in front, as it is cut out again
pub front_is : (n : ℕ) (out lay rest : List ℕ) → n ≡ length lay → out ≡ lay ++ rest → take (n - 0) out ≡ lay
front_is n out lay rest l e = ap (λ (q : List ℕ). take (n - 0) q) e ∙ take_at lay rest (n - 0) (omega arith)

-- a write that has room is done
pub there : {X : Type 0} (r : Bool) (m n : ℕ) (y a b : X) → r ≡ leb m n → m ≤ n → y ≡ cond r a b → y ≡ a
there r m n y a b e l h = h ∙ cond-true r a b (e ∙ le-leb m n l)

-- a function with another value at one place, read there and elsewhere
pub at_1_here : {X : Type 0} (q : ℕ) (v : X) (f : ℕ → X) → at_1 q v f q ≡ v
at_1_here q v f = cond-true (eqb q q) v (f q) (eq-eqb q q refl)

-- and every other is as it was
pub at_1_other : {X : Type 0} (q : ℕ) (v : X) (f : ℕ → X) (p : ℕ) → (p ≡ q → ⊥) → at_1 q v f p ≡ f p
at_1_other q v f p ne = cond-false (eqb p q) v (f p) (ne_eqb p q ne)
