use Rattle.std.proofs.Common.{arith}
use Rattle.journal.proofs.Readers.{part_long, applied_is}
use Rattle.journal.proofs.read.applied.Goals as goal

pub returns : goal.returns
returns c =
    let ys = c.args.body.now in
    let h = rw c.in_ok-head.ensures.ok_part at c.read.ensures in
    let l = part_long ys (omega arith) in
    record { sound = ((h.named, l), tt); long = omega arith; is = applied_is ys _ _ _ (omega arith) h.is }
