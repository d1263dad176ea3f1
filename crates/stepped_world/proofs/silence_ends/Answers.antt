use Rattle.stepped_world.proofs.Whole.{silence}
use Rattle.stepped_world.proofs.silence_ends.Goals as goal

pub returns : goal.returns
returns c = silence
