use Rattle.std.proofs.Common.{◌≡◌, length, refl, rules}
use Rattle.message.proofs.Bodies.{recall_is}
use Rattle.message.proofs.decode.recall.Goals as goal

pub returns : goal.returns
returns c =
    let l : length c.args.body.now ≡ 3 = search rules in (
      (c.in_ok-who.who.small, c.in_ok-place.place.within),
      refl,
      recall_is c.args.body.now _ _ l c.in_ok-who.ensures c.in_ok-place.ensures (c.type_inv.body 2).fits,
    )
