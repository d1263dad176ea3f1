use Rattle.keeping.proofs.Promises.{refused_same}
use Rattle.keeping.proofs.laws.refusals_change_nothing.Goals as goal

pub returns : goal.returns
returns c = refused_same
