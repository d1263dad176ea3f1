-- The recalls that are still to be sent, borrower after borrower, by anything that goes through messages one after another.
-- Assumes nothing.
use Rattle.std.proofs.Common.{◌≡◌, ℕ, ◌+◌, ◌<◌, ◌≤◌, Bool, true, false, List, [], ◌∷◌, ◌++◌, length, drop, get_or, cond, refl, sym, ap, ◌∙◌, append_assoc, append-nil}
use Rattle.std.proofs.lemmas.List.{drop_more, drop_all}
use native.Mathlib.Numerals.{add-one}
use Rattle.message.specs.Format.{Msg, Recall}
use Rattle.lender.specs.Rules.{recalls}

-- h is what comes of messages, f what comes of one
module _ {X : Type 0} (h : List Msg → List X) (f : Msg → List X) (none : h [] ≡ []) (more : (m : Msg) (ms : List Msg) → h (m ∷ ms) ≡ f m ++ h ms) where
  -- from the borrower i on
  abbrev pub left : (q i : ℕ) → List Bool → List X
  left q i bs = h (recalls q i (drop i bs))

  head_is : (q i : ℕ) (bs : List Bool) (b : Bool) → i < length bs → get_or bs i false ≡ b → left q i bs ≡ cond b (f (Recall i q) ++ left q (i + 1) bs) (left q (i + 1) bs)
  head_is q i bs b l e =
      ap (λ (xs : List Bool). h (recalls q i xs)) (drop_more bs i false l ∙ ap (λ (x : Bool). x ∷ drop (i + 1) bs) e) ∙ go b
    where
      go : (b : Bool) → h (recalls q i (b ∷ drop (i + 1) bs)) ≡ cond b (f (Recall i q) ++ left q (i + 1) bs) (left q (i + 1) bs)
      go true = rw add-one (more (Recall i q) _)
      go false = rw add-one refl

  pub marked : (q i : ℕ) (bs : List Bool) (xs ys zs : List X) → i < length bs → get_or bs i false ≡ true → zs ≡ xs ++ f (Recall i q) → xs ++ left q i bs ≡ ys → zs ++ left q (i + 1) bs ≡ ys
  marked q i bs xs ys zs l e z inv =
      ap (λ (t : List X). t ++ left q (i + 1) bs) z ∙ append_assoc xs (f (Recall i q)) (left q (i + 1) bs)
      ∙ ap (λ (t : List X). xs ++ t) (sym (head_is q i bs true l e)) ∙ inv

  pub unmarked : (q i : ℕ) (bs : List Bool) (xs ys : List X) → i < length bs → get_or bs i false ≡ false → xs ++ left q i bs ≡ ys → xs ++ left q (i + 1) bs ≡ ys
  unmarked q i bs xs ys l e inv = ap (λ (t : List X). xs ++ t) (sym (head_is q i bs false l e)) ∙ inv

  pub all_sent : (q i : ℕ) (bs : List Bool) (xs ys : List X) → length bs ≤ i → xs ++ left q i bs ≡ ys → xs ≡ ys
  all_sent q i bs xs ys l inv = sym (ap (λ (t : List Bool). xs ++ h (recalls q i t)) (drop_all i bs l) ∙ ap (λ (t : List X). xs ++ t) none ∙ append-nil xs) ∙ inv
