use Rattle.world.proofs.Batches.{batches}
use Rattle.world.proofs.batches_keep_promise.Goals as goal

pub returns : goal.returns
returns c = batches
