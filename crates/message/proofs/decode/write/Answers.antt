use Rattle.std.proofs.Common.{◌≡◌, length, refl, arith}
use Rattle.message.proofs.Bodies.{headless, ends, write_ends, carried_long}
use Rattle.message.proofs.decode.write.Goals as goal

pub returns-in_err-head : goal.returns-in_err-head
returns-in_err-head c = rw c.from_residual.ensures (headless _ _ c.in_err-head.ensures.none (omega arith))

pub returns : goal.returns
returns c =
    let h = c.in_ok-head.ensures in
    let l : length c.args.body.now ≡ 1031 = omega arith in (
      (h.named, carried_long c.args.body.now (omega arith)),
      refl,
      ends _ _ _ _ _ h.is (write_ends c.args.body.now l),
    )
