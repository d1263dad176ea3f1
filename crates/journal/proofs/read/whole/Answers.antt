use Rattle.journal.proofs.Readers.{reached_more, reached_torn, reached_malformed, refused_of}
use Rattle.journal.proofs.read.whole.Goals as goal

pub loop-entry-preserved : goal.loop-entry-preserved
loop-entry-preserved c = reached_more _ c.args.bytes.now _ _ _ c.loop-entry.invariant (rw c.in-Some.is at c.in_ok-entry.ensures)

pub returns : goal.returns
returns c = reached_torn _ c.args.bytes.now _ c.loop-entry.invariant (rw c.in_default.is at c.in_ok-entry.ensures)

pub returns-in_err-entry : goal.returns-in_err-entry
returns-in_err-entry c =
    let m = c.in_err-entry.ensures in
    refused_of _ c.args.bytes.now _ c.from_residual.ensures.0 (reached_malformed _ c.args.bytes.now _ c.loop-entry.invariant m.0 m.1)
