use Rattle.lines.specs.Inputs.{rest}
use Rattle.lines.proofs.Handing.{Reading}
use Rattle.lines.proofs.input.Input.next_line.Given as goal

abbrev pub invariant-loop : goal.invariant-loop
invariant-loop g l = Reading (rest l.initial.self) (rest l.self) (g.R.Read.remaining l.initial.from) (g.R.Read.remaining l.from) l.seen
