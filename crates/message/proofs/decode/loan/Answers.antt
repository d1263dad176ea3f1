use Rattle.std.proofs.Common.{◌≡◌, length, refl, arith}
use Rattle.message.proofs.Bodies.{headless, kind_is, ends, loan_ends, carried_long}
use Rattle.message.proofs.decode.loan.Goals as goal

pub returns-in_err-head : goal.returns-in_err-head
returns-in_err-head c = rw c.from_residual.ensures (headless _ _ c.in_err-head.ensures.none (omega arith))

pub returns : goal.returns
returns c =
    let h = c.in_ok-head.ensures in
    let l : length c.args.body.now ≡ 1032 = omega arith in (
      (h.named, carried_long c.args.body.now (omega arith)),
      refl,
      ends _ _ _ _ _ h.is (loan_ends c.args.body.now _ l (kind_is _ _ _ c.try_from.ensures c.in_ok-kind.ensures.value)),
    )
