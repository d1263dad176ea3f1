use Rattle.std.proofs.Common.{◌≡◌, ◌++◌, map, take}
use Rattle.lines.specs.Outputs.{printed}
use Rattle.machine.specs.Effects.{note_of}
use Rattle.startup.specs.Prints.{tells_text}
use Rattle.startup.proofs.print.tells.Given as goal

abbrev pub invariant-loop-told : goal.invariant-loop-told
invariant-loop-told l = printed l.out ≡ printed l.initial.out ++ tells_text (map note_of (take l.told-index l.notices))
