use Rattle.message.proofs.Reading.{reads_exactly}
use Rattle.message.proofs.laws.reads_exactly.Goals as goal

pub returns : goal.returns
returns c = reads_exactly
