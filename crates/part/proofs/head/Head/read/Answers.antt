use Rattle.part.proofs.Numbers.{head_is}
use Rattle.part.proofs.head.Head.read.Goals as goal

pub returns : goal.returns
returns c =
    let n = c.in_ok-number_at.ensures in
    record {
      named = (c.in_ok-new.field-0.small, c.in_ok-new-2.field-0.within, n.small);
      is = head_is c.args.bytes.now _ _ _ n.inside c.in_ok-new.ensures c.in_ok-new-2.ensures (c.type_inv.bytes 2).fits n.bytes;
    }
