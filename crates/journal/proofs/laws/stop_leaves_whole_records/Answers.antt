use Rattle.journal.proofs.Journals.{stop_leaves}
use Rattle.journal.proofs.laws.stop_leaves_whole_records.Goals as goal

pub returns : goal.returns
returns c = stop_leaves
