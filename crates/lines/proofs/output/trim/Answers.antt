use Rattle.std.proofs.Common.{arith}
use Rattle.lines.proofs.Prints.{zeros_all, zeros_stop}
use Rattle.lines.proofs.output.trim.Goals as goal

pub returns-in_default : goal.returns-in_default
returns-in_default c = zeros_all _ _ c.in_default.len_below c.loop-rest.invariant

pub returns-in_default-2 : goal.returns-in_default-2
returns-in_default-2 c = zeros_stop _ _ c.in_default.len_at_least (λ e. omega arith) c.loop-rest.invariant
