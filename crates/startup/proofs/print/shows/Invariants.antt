use Rattle.std.proofs.Common.{◌≡◌, ◌++◌, map, take}
use Rattle.lines.specs.Outputs.{printed}
use Rattle.machine.specs.Effects.{place_at}
use Rattle.startup.specs.Prints.{shows_text}
use Rattle.startup.proofs.print.shows.Given as goal

abbrev pub invariant-loop-at : goal.invariant-loop-at
invariant-loop-at g l =
    printed l.out ≡ printed l.initial.out ++ shows_text (g.P.Program.copies l.machine) (map place_at (take l.at-index l.places))
