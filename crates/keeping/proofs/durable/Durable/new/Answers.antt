use Rattle.std.proofs.Common.{◌≡◌, ℕ, List, get_or, replicate, vec_items, ap, ◌∙◌, inl, inr}
use mathlib.Core.Path.{fun_ext}
use Rattle.std.proofs.lemmas.List.{get_or-replicate, get_or_past, length-replicate}
use Rattle.std.proofs.lemmas.Bool.{cases_lt}
use Rattle.keeping.specs.declared.numbers.Counts.{Counts}
use Rattle.keeping.specs.declared.numbers.Numbers.{Numbers}
use Rattle.keeping.specs.Numbering.{no_counts, no_numbers, counts_at}
use Rattle.keeping.proofs.Durables.{same_durable}
use Rattle.keeping.proofs.durable.Durable.new.Goals as goal

-- what is read of as many of the same, past their end too
same_at : {X : Type 0} (n w : ℕ) (x : X) → get_or (replicate n x) w x ≡ x
same_at n w x = elim (cases_lt w n) [ inl h ↦ get_or-replicate n w x x h | inr h ↦ get_or_past (replicate n x) w x (rw length-replicate h) ]

pub returns : goal.returns
returns c =
    let rows : List Numbers = vec_items c.in_ok-from_elem.field-0 in
    let all : rows ≡ replicate 16384 no_numbers = c.in_ok-from_elem.ensures.items_if_clones_equal (λ y h. h) ∙ ap (replicate 16384) c.none.ensures in
    let at : (p w : ℕ) → counts_at (get_or rows p no_numbers) w ≡ no_counts =
    λ p w. ap (λ (ks : List Numbers). counts_at (get_or ks p no_numbers) w) all ∙ ap (λ (k : Numbers). counts_at k w) (same_at 16384 p no_numbers) ∙ same_at 32 w no_counts in
    same_durable _ _
    (fun_ext (λ p. fun_ext (λ w. ap (λ (k : Counts). k.done) (at p w))))
    (fun_ext (λ p. fun_ext (λ w. ap (λ (k : Counts). k.voided) (at p w))))
    c.in_ok-new.ensures
