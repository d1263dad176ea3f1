-- The bytes that go with a record are those that the part has then.
-- Assumes nothing.
use Rattle.std.proofs.Common.{◌≡◌, ℕ, List, refl, ap, ◌∙◌}
use Rattle.part.proofs.Writes.{at_1_here}
use Rattle.lender.specs.declared.answer.WriteAnswer.{WriteAnswer}
use Rattle.lender.specs.declared.answer.WriteAnswer.TheVariants.{Applied, Again, Void, Passed, Quiet}
use Rattle.lender.specs.Rules.{parts_after}
use Rattle.lender.specs.Replies.{write_effect}

pub same_effect : (i q n : ℕ) (v : List ℕ) (f g : ℕ → List ℕ) (a : WriteAnswer) → g ≡ parts_after q v a f → write_effect i q n (g q) a ≡ write_effect i q n v a
same_effect i q n v f g Applied e = ap (λ (x : List ℕ). write_effect i q n x Applied) (ap (λ (h : ℕ → List ℕ). h q) e ∙ at_1_here q v f)
same_effect i q n v f g Again e = refl
same_effect i q n v f g Void e = refl
same_effect i q n v f g Passed e = refl
same_effect i q n v f g Quiet e = refl
