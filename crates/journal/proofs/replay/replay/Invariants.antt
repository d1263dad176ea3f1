use Rattle.std.proofs.Common.{◌-◌, length}
use Rattle.journal.proofs.Turns.{Leading}
use Rattle.journal.proofs.replay.replay.Given as goal

abbrev pub invariant-loop-entry : goal.invariant-loop-entry
invariant-loop-entry g l = Leading g.R.Journaled.becomes l.owner l.bytes l.initial.into l.at l.into

abbrev pub decreases-loop-entry : goal.decreases-loop-entry
decreases-loop-entry g l = length l.bytes - l.at
