use Rattle.journal.proofs.Journals.{read_back}
use Rattle.journal.proofs.laws.records_are_read_back.Goals as goal

pub returns : goal.returns
returns c = read_back
