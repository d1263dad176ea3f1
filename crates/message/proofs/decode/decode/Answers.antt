use Rattle.std.proofs.Common.{Err, rules}
use Rattle.message.specs.Format.{Decoded}
use Rattle.message.proofs.Bodies.{decoded}
use Rattle.message.proofs.Reading.{reads}
use Rattle.message.proofs.decode.decode.Goals as goal

pub returns-in_default-clause-reads : goal.returns-in_default-clause-reads
returns-in_default-clause-reads c = reads c.args.bytes.now (Err (record {})) (search rules)

pub returns : goal.returns
returns c =
    let d : Decoded c.args.bytes.now c.ok_or.result = rw c.ok_or.ensures.value (decoded c.args.bytes.now _ (search rules) c.after_first.ensures) in
    record { exact = d; reads = reads c.args.bytes.now c.ok_or.result d }
