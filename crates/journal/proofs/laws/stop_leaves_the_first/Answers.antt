use Rattle.journal.proofs.Stops.{stop_leaves_first}
use Rattle.journal.proofs.laws.stop_leaves_the_first.Goals as goal

pub returns : goal.returns
returns c = stop_leaves_first
