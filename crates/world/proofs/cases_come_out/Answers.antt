use Rattle.world.proofs.Cases.{all_come}
use Rattle.world.proofs.cases_come_out.Goals as goal

pub returns : goal.returns
returns c = all_come
