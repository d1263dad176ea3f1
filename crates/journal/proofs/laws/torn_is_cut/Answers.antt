use Rattle.journal.proofs.Readers.{torn_is_cut}
use Rattle.journal.proofs.laws.torn_is_cut.Goals as goal

pub returns : goal.returns
returns c = torn_is_cut
