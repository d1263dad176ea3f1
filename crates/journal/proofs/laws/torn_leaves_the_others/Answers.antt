use Rattle.journal.proofs.Journals.{torn_leaves}
use Rattle.journal.proofs.laws.torn_leaves_the_others.Goals as goal

pub returns : goal.returns
returns c = torn_leaves
