use Rattle.std.proofs.Common.{◌≡◌, ℕ, List, get_or, replicate, rules, refl, ap, ◌∙◌, subst, inl, inr, arith}
use mathlib.Core.Path.{fun_ext}
use Rattle.std.proofs.lemmas.List.{get_or_past, get_or-replicate, length-replicate}
use Rattle.std.proofs.lemmas.Bool.{cases_lt}
use Rattle.borrower.specs.declared.tablet.Kept.{Kept}
use Rattle.borrower.specs.Tablets.{no_part, no_numbers}
use Rattle.borrower.proofs.tablet.Tablet.new.Goals as goal

all_same : (n : ℕ) (x : Kept) (q : ℕ) → get_or (replicate n x) q x ≡ x
all_same n x q =
    elim (cases_lt q n) [
      | inl h ↦ get_or-replicate n q x x h
      | inr h ↦ get_or_past (replicate n x) q x (simp length-replicate (omega arith))
    ]

pub returns : goal.returns
returns c =
    let none : Kept = record { part = no_part; filed = no_numbers } in
    let first : c.default.result ≡ none = search rules in
    let all : c.in_ok-kept.kept.items ≡ replicate 16384 none = subst (λ (k : Kept). c.in_ok-kept.kept.items ≡ replicate 16384 k) first (c.in_ok-kept.ensures.items_if_clones_equal (λ y e. e)) in
    record {
      parts = fun_ext (λ q. ap (λ (xs : List Kept). (get_or xs q none).part) all ∙ ap (λ (k : Kept). k.part) (all_same 16384 none q));
      filed = fun_ext (λ q. ap (λ (xs : List Kept). (get_or xs q none).filed) all ∙ ap (λ (k : Kept). k.filed) (all_same 16384 none q));
      copies = c.in_ok-copies.ensures;
      short = refl;
      who = refl;
    }
