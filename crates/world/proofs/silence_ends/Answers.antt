use Rattle.world.proofs.Whole.{silence}
use Rattle.world.proofs.silence_ends.Goals as goal

pub returns : goal.returns
returns c = silence
