use Rattle.capi.proofs.Wholes.{whole}
use Rattle.capi.proofs.handle.whole_part.Goals as goal

pub returns : goal.returns
returns c = whole c.first_chunk.result c.args.bytes.now c.if-bytes-ne1024.false c.first_chunk.ensures.cases
