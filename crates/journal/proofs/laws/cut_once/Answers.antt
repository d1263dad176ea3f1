use Rattle.journal.proofs.Readers.{cut_once}
use Rattle.journal.proofs.laws.cut_once.Goals as goal

pub returns : goal.returns
returns c = cut_once
