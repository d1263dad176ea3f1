use Rattle.std.proofs.Common.{ap, ◌∙◌, arith}
use Rattle.lines.specs.Words.{rest_words}
use Rattle.script.proofs.Filling.{filled_step}
use Rattle.script.proofs.step.parts.fill.Goals as goal

pub loop-slot-preserved : goal.loop-slot-preserved
loop-slot-preserved c =
    filled_step c.loop-slot.out c.loop-slot.slot-index _ _ (rest_words c.loop-slot.rest) (rest_words c.split.result.1) (omega arith)
    (ap rest_words c.in-Some.is ∙ c.split.ensures) c.in_ok-slot.ensures ∙ c.loop-slot.invariant
