use Rattle.keeping.proofs.Promises.{never_clashing}
use Rattle.keeping.proofs.laws.leases_never_clash.Goals as goal

pub returns : goal.returns
returns c = never_clashing
