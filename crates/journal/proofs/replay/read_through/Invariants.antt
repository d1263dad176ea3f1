use Rattle.std.proofs.Common.{◌≡◌}
use Rattle.journal.specs.Blocks.{left}
use Rattle.journal.proofs.Through.{Ahead}
use Rattle.journal.proofs.replay.read_through.Given as goal

abbrev pub invariant-loop : goal.invariant-loop
invariant-loop g l =
    (g.S.Source.all l.from ≡ g.S.Source.all l.initial.from)
    × Ahead g.R.Journaled.becomes l.owner (g.S.Source.had l.initial.from) (g.S.Source.had l.from) l.initial.into l.into l.size (left l.block)
