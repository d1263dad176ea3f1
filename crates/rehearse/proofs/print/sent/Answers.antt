use Rattle.std.proofs.Common.{replicate}
use Rattle.rehearse.proofs.Carries.{reads_beside}
use Rattle.rehearse.proofs.print.sent.Goals as goal

pub returns-in-None : goal.returns-in-None
returns-in-None c =
    rw (reads_beside c.in-Ok.sent c.args.bytes.now (replicate 1024 0) c.in-None.ensures c.in-Ok.ensures.exact.0 c.in-Ok.ensures.reads) c.numbered-in-None.ensures
