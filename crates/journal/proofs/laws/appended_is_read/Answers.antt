use Rattle.journal.proofs.Journals.{append_read}
use Rattle.journal.proofs.laws.appended_is_read.Goals as goal

pub returns : goal.returns
returns c = append_read
