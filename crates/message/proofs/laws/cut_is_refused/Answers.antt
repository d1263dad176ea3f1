use Rattle.message.proofs.Unique.{cut}
use Rattle.message.proofs.laws.cut_is_refused.Goals as goal

pub returns : goal.returns
returns c = cut
