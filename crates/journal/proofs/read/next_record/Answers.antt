use Rattle.journal.proofs.Readers.{whole_at}
use Rattle.journal.proofs.read.next_record.Goals as goal

pub returns : goal.returns
returns c = whole_at _ c.args.bytes.now c.args.at _ _ (rw c.in-Some.is at c.in_ok-entry.ensures)
