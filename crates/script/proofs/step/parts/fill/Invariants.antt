use Rattle.std.proofs.Common.{◌≡◌}
use Rattle.lines.specs.Words.{rest_words}
use Rattle.script.specs.Scripts.{fill_of}
use Rattle.script.proofs.Filling.{filled}
use Rattle.script.proofs.step.parts.fill.Given as goal

abbrev pub invariant-loop-slot : goal.invariant-loop-slot
invariant-loop-slot l =
    filled l.out l.slot-index (rest_words l.rest) ≡ fill_of (rest_words l.initial.rest) l.initial.out
