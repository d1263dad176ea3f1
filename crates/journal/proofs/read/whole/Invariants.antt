use Rattle.std.proofs.Common.{◌-◌, length}
use Rattle.journal.proofs.Readers.{Reached}
use Rattle.journal.proofs.read.whole.Given as goal

abbrev pub invariant-loop-entry : goal.invariant-loop-entry
invariant-loop-entry l = Reached l.owner l.bytes l.at

abbrev pub decreases-loop-entry : goal.decreases-loop-entry
decreases-loop-entry l = length l.bytes - l.at
