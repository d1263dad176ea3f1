use Rattle.stepped_world.proofs.Whole.{whole}
use Rattle.stepped_world.proofs.keeps_promise.Goals as goal

pub returns : goal.returns
returns c = whole
