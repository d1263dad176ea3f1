use Rattle.std.proofs.Common.{ℕ, List, ◌++◌, Option, subst, inl, inr, rules}
use Rattle.lines.specs.declared.input.Line.{Line}
use Rattle.lines.specs.Inputs.{rest, line_of, Handed, HandedOut}
use Rattle.lines.specs.Outputs.{printed}
use Rattle.startup.proofs.Loops.{handed, gone, over, on_ok}
use Rattle.startup.proofs.serve.serve_lines.Goals as goal
use Rattle.startup.proofs.serve.serve_lines.Goals.{then-is_err+in_ok-settle+in_ok-leave, else-is_err+else-not-has_line+else-len-ge-BATCH}

pub loop-preserved : goal.loop-preserved
loop-preserved g c =
    let D = g.A.Answers.does in let S = g.A.Answers.settles in let R = g.A.Answers.settled in
    let f = c.in_ok-line.ensures in
    let i = c.loop.invariant in
    let left : List ℕ = rest c.loop.input in
    let now : List ℕ = printed c.hand_on-done.new.out in
    let H : Option Line → Type 0 = λ o. Handed o (left ++ f.0) (line_of c.next_line.new.self) (rest c.next_line.new.self) in
    let did = on_ok c.hand_on-done.result c.in_ok-done.field-0 _ c.hand_on-done.ensures.done c.in_ok-done.was in
    let kept = on_ok c.hand_on-done.result c.in_ok-done.field-0 _ c.hand_on-done.ensures.kept c.in_ok-done.was in
    let mid = handed D S R c.args.to.now c.loop.to _ _ _ _ left (printed c.loop.out) i.1 c.hand_on-done.new.to _ c.in-Some.line f.0 _ c.line.result.now _ now
    (subst H c.in-Some.is f.1) c.line.ensures did f.2 in
    elim c.if-is_err.branch [
      | then-is_err+in_ok-settle+in_ok-leave w ↦ rw (w.to-is, w.stdout-is, w.out-is) (
        λ k. w.in_ok-settle.ensures.kept (kept (i.0 k)),
        gone D S R c.args.to.now c.hand_on-done.new.to _ _ _ _ (rest c.next_line.new.self) now mid w.settle.new.self _ _ w.in_ok-settle.ensures.settled w.in_ok-settle.ensures.safe w.in_ok-leave.ensures.gone w.in_ok-leave.ensures.left,
        inl w.in_ok-leave.ensures.left,
      )
      | else-is_err+else-not-has_line+else-len-ge-BATCH w ↦ rw (w.to-is, w.stdout-is, w.out-is) (
        λ k. kept (i.0 k),
        mid,
        inr (search rules),
      )
    ]

pub returns-in_default-clause-served : goal.returns-in_default-clause-served
returns-in_default-clause-served g c =
    let i = c.loop.invariant in
    let H : Option Line → Type 0 = λ o. HandedOut o (rest c.loop.input) (g.R.Read.remaining c.loop.stdin) (g.R.Read.remaining c.next_line.new.from) (line_of c.next_line.new.self) (rest c.next_line.new.self) in
    over g.A.Answers.does g.A.Answers.settles g.A.Answers.settled c.args.to.now c.loop.to _ _ _ _ _ (rest c.loop.input) (printed c.loop.out) (line_of c.next_line.new.self) (rest c.next_line.new.self) i.1 i.2 (subst H c.in_default.is c.in_ok-line.ensures)
