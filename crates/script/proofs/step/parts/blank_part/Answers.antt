use Rattle.std.proofs.Common.{refl}
use Rattle.script.specs.Scripts.{zeros}
use Rattle.script.proofs.step.parts.blank_part.Goals as goal

pub returns : goal.returns
unfolding zeros
returns c = refl
