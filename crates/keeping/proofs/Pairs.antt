-- The numbers by part and borrower after a write to one of them.
-- Assumes nothing.
use Rattle.std.proofs.Common.{◌≡◌, ℕ, ◌<◌, List, length, get_or, set, refl, ap, ◌∙◌, inl, inr}
use mathlib.Core.Path.{fun_ext}
use Rattle.std.proofs.lemmas.List.{get_or-set_same, get_or-set_other}
use Rattle.std.proofs.lemmas.Bool.{cases_eq, eq-eqb, ne_eqb}
use Rattle.keeping.specs.declared.numbers.Counts.{Counts}
use Rattle.keeping.specs.declared.numbers.Numbers.{Numbers}
use Rattle.keeping.specs.Numbering.{no_counts, no_numbers, counts_at}
use Rattle.keeping.specs.Rules.{at_2}

-- f reads one of a borrower's two numbers; the part at q has these counts at the borrower i now
module _ (f : Counts → ℕ) (rows : List Numbers) (q i : ℕ) (c : Counts) (was : Numbers) (row : was ≡ get_or rows q no_numbers)
    (inside : q < length rows) (among : i < length was.counts) where
  pub pair_put : ◌≡◌ {A = ℕ → ℕ → ℕ} (λ p w. f (counts_at (get_or (set rows q (record { counts = set was.counts i c })) p no_numbers) w))
      (at_2 q i (f c) (λ p w. f (counts_at (get_or rows p no_numbers) w)))
  pair_put =
      fun_ext (λ p. fun_ext (λ w. elim (cases_eq p q) [
        | inl pe ↦ elim (cases_eq w i) [
          | inl we ↦ simp (pe, we, get_or-set_same rows q (record { counts = set was.counts i c }) no_numbers inside, get_or-set_same was.counts i c no_counts among, eq-eqb q q refl, eq-eqb i i refl)
          | inr wn ↦ simp (pe, get_or-set_same rows q (record { counts = set was.counts i c }) no_numbers inside, get_or-set_other was.counts i w c no_counts wn, eq-eqb q q refl, ne_eqb w i wn) (ap (λ (k : Numbers). f (counts_at k w)) row)
        ]
        | inr pn ↦ simp (get_or-set_other rows q p (record { counts = set was.counts i c }) no_numbers pn, ne_eqb p q pn)
      ]))

  pub pair_keep : f c ≡ f (counts_at was i) → ◌≡◌ {A = ℕ → ℕ → ℕ} (λ p w. f (counts_at (get_or (set rows q (record { counts = set was.counts i c })) p no_numbers) w))
      (λ p w. f (counts_at (get_or rows p no_numbers) w))
  pair_keep same =
      fun_ext (λ p. fun_ext (λ w. elim (cases_eq p q) [
        | inl pe ↦ elim (cases_eq w i) [
          | inl we ↦ simp (pe, we, get_or-set_same rows q (record { counts = set was.counts i c }) no_numbers inside, get_or-set_same was.counts i c no_counts among)
              (same ∙ ap (λ (k : Numbers). f (counts_at k i)) row)
          | inr wn ↦ simp (pe, get_or-set_same rows q (record { counts = set was.counts i c }) no_numbers inside, get_or-set_other was.counts i w c no_counts wn) (ap (λ (k : Numbers). f (counts_at k w)) row)
        ]
        | inr pn ↦ simp (get_or-set_other rows q p (record { counts = set was.counts i c }) no_numbers pn)
      ]))
