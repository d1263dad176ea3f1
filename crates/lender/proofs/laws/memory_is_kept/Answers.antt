use Rattle.lender.proofs.Kept.{kept}
use Rattle.lender.proofs.laws.memory_is_kept.Goals as goal

pub returns : goal.returns
returns c = kept
