use Rattle.std.proofs.Common.{length}
use Rattle.lines.proofs.Prints.{Zeros}
use Rattle.lines.proofs.output.trim.Given as goal

abbrev pub invariant-loop-rest : goal.invariant-loop-rest
invariant-loop-rest l = Zeros l.bytes l.rest

abbrev pub decreases-loop-rest : goal.decreases-loop-rest
decreases-loop-rest l = length l.rest
