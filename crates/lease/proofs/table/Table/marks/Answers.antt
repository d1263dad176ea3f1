use Rattle.std.proofs.Common.{◌∙◌, sym}
use Rattle.lease.proofs.Marks.{seen_none, seen_no, seen_yes, seen_beyond, seen_some, seen_marks}
use Rattle.lease.proofs.table.Table.marks.Goals as goal
use Rattle.lease.proofs.table.Table.marks.Goals.{then-bars+then-w-lt32, then-bars+else-w-lt32, else-bars}

pub loop-l-init : goal.loop-l-init
loop-l-init c = seen_none _ _

pub loop-l-preserved : goal.loop-l-preserved
loop-l-preserved c =
    elim c.if-bars.branch [
      | then-bars+then-w-lt32 w ↦
          rw (w.marks-is, w.barred-is) (seen_yes c.loop-l-test.true (sym c.bars.ensures ∙ w.if-bars.true) w.if-w-lt32.true c.loop-l.invariant)
      | then-bars+else-w-lt32 w ↦
          rw (w.marks-is, w.barred-is) (seen_beyond c.loop-l-test.true (sym c.bars.ensures ∙ w.if-bars.true) w.if-w-lt32.false c.loop-l.invariant)
      | else-bars w ↦
          rw (w.marks-is, w.barred-is) (seen_no c.loop-l-test.true (sym c.bars.ensures ∙ w.if-bars.false) c.loop-l.invariant)
    ]

pub returns-then-barred : goal.returns-then-barred
returns-then-barred c =
    (sym (seen_some c.loop-l-test.false c.loop-l.invariant) ∙ c.if-barred.true, seen_marks c.loop-l-test.false c.loop-l.invariant)

pub returns-else-barred : goal.returns-else-barred
returns-else-barred c = sym (seen_some c.loop-l-test.false c.loop-l.invariant) ∙ c.if-barred.false
