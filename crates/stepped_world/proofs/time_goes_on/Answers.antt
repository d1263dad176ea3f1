use Rattle.stepped_world.proofs.Time.{time_goes_on}
use Rattle.stepped_world.proofs.time_goes_on.Goals as goal

pub returns : goal.returns
returns c = time_goes_on
