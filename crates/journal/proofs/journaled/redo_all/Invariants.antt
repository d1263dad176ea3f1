use Rattle.std.proofs.Common.{◌≡◌, ◌-◌, length}
use Rattle.journal.proofs.Passes.{Passing}
use Rattle.journal.proofs.journaled.redo_all.Given as goal

abbrev pub invariant-loop-entry : goal.invariant-loop-entry
invariant-loop-entry g l = record {
  passing : Passing g.R.Journaled.redo l.owner l.bytes (g.R.Journaled.state l.initial.into) l.at (g.R.Journaled.state l.into);
  fixed : g.R.Journaled.fixed l.into ≡ g.R.Journaled.fixed l.initial.into;
}

abbrev pub decreases-loop-entry : goal.decreases-loop-entry
decreases-loop-entry g l = length l.bytes - l.at
