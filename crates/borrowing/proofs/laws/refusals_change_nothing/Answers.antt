use Rattle.borrowing.proofs.Refusals.{refusals}
use Rattle.borrowing.proofs.laws.refusals_change_nothing.Goals as goal

pub returns : goal.returns
returns c = refusals
