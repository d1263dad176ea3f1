use Rattle.lines.specs.Inputs.{rest}
use Rattle.lines.specs.Outputs.{printed}
use Rattle.startup.proofs.Loops.{SoFar, Idle}
use Rattle.startup.proofs.serve.serve_lines.Given as goal

abbrev pub invariant-loop : goal.invariant-loop
invariant-loop g l =
    (g.A.Answers.keeps l.initial.to → g.A.Answers.keeps l.to)
    × SoFar g.A.Answers.does g.A.Answers.settles g.A.Answers.settled l.initial.to l.to (g.R.Read.remaining l.initial.stdin) (g.R.Read.remaining l.stdin) (g.W.Write.contents l.initial.stdout) (g.W.Write.contents l.stdout) (rest l.input) (printed l.out)
    × Idle (rest l.input) (printed l.out)
