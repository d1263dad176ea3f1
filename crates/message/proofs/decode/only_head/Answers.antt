use Rattle.std.proofs.Common.{arith}
use Rattle.std.proofs.lemmas.List.{drop_all}
use Rattle.message.proofs.Bodies.{ends}
use Rattle.message.proofs.decode.only_head.Goals as goal

pub returns-then-body-eq7 : goal.returns-then-body-eq7
returns-then-body-eq7 c =
    let h = c.in_ok-head.ensures in
    (h.named, ends _ _ _ _ _ h.is (drop_all 7 c.args.body.now (omega arith)))
