use Rattle.stepped_world.proofs.Batches.{batches}
use Rattle.stepped_world.proofs.batches_keep_promise.Goals as goal

pub returns : goal.returns
returns c = batches
