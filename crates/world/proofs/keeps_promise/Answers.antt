use Rattle.world.proofs.Whole.{whole}
use Rattle.world.proofs.keeps_promise.Goals as goal

pub returns : goal.returns
returns c = whole
