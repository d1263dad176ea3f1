use Rattle.message.proofs.Unique.{exact}
use Rattle.message.proofs.laws.reading_is_exact.Goals as goal

pub returns : goal.returns
returns c = exact
