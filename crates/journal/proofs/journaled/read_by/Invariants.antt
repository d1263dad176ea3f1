use Rattle.std.proofs.Common.{◌≡◌}
use Rattle.journal.specs.Windows.{left}
use Rattle.journal.proofs.Blockwise.{Ahead}
use Rattle.journal.proofs.journaled.read_by.Given as goal

abbrev pub invariant-loop : goal.invariant-loop
invariant-loop g l = record {
  all : g.S.Source.all l.from ≡ g.S.Source.all l.initial.from;
  fixed : g.R.Journaled.fixed l.into ≡ g.R.Journaled.fixed l.initial.into;
  ahead : Ahead g.R.Journaled.redo l.owner (g.S.Source.had l.initial.from) (g.R.Journaled.state l.initial.into) (g.S.Source.had l.from) (g.R.Journaled.state l.into) l.size (left l.window);
}
