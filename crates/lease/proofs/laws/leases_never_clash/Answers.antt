use Rattle.lease.proofs.Exclusion.{never_clash}
use Rattle.lease.proofs.laws.leases_never_clash.Goals as goal

pub returns : goal.returns
returns c = never_clash
