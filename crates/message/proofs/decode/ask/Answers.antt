use Rattle.std.proofs.Common.{◌≡◌, length, refl, arith}
use Rattle.message.proofs.Bodies.{headless, kind_is, ends, ask_ends}
use Rattle.message.proofs.decode.ask.Goals as goal

pub returns-in_err-head : goal.returns-in_err-head
returns-in_err-head c = rw c.from_residual.ensures (headless _ _ c.in_err-head.ensures.none (omega arith))

pub returns : goal.returns
returns c =
    let h = c.in_ok-head.ensures in
    let n = c.in_ok-written.ensures in
    let l : length c.args.body.now ≡ 12 = omega arith in (
      (h.named, n.small),
      refl,
      ends _ _ _ _ _ h.is (ask_ends c.args.body.now _ _ l (kind_is _ _ _ c.try_from.ensures c.in_ok-kind.ensures.value) n.bytes),
    )
