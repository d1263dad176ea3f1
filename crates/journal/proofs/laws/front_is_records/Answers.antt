use Rattle.journal.proofs.Journals.{front_is_records}
use Rattle.journal.proofs.laws.front_is_records.Goals as goal

pub returns : goal.returns
returns c = front_is_records
