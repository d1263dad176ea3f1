use Rattle.std.proofs.Common.{sym, ◌∙◌, arith}
use Rattle.std.proofs.lemmas.List.{at_drop_all}
use Rattle.std.proofs.lemmas.Bool.{eqb-true, eqb-false}
use Rattle.lines.proofs.Numerals.{read_on, read_step, read_number, no_number}
use Rattle.lines.proofs.decimal.number.Goals as goal

pub returns-then-is_empty : goal.returns-then-is_empty
returns-then-is_empty c = sym (no_number _ (eqb-true _ _ (sym c.if-is_empty.ensures)))

pub loop-b-preserved : goal.loop-b-preserved
loop-b-preserved c = read_step _ _ _ c.loop-b.b-index (omega arith) c.in_ok-sum.ensures ∙ c.loop-b.invariant

pub returns-in_err-sum : goal.returns-in_err-sum
returns-in_err-sum c =
    c.from_residual.ensures
    ∙ read_step _ _ _ c.loop-b.b-index (omega arith) c.in_err-sum.ensures ∙ c.loop-b.invariant ∙ read_number _ (omega arith)

pub returns : goal.returns
returns c =
    sym (at_drop_all (read_on c.loop-b.sum) _ c.loop-b.b-index (omega arith)) ∙ c.loop-b.invariant ∙ read_number _ (omega (arith, eqb-false _ _ (sym c.if-is_empty.ensures)))
