use Rattle.stepped_world.proofs.Cases.{all_come}
use Rattle.stepped_world.proofs.cases_come_out.Goals as goal

pub returns : goal.returns
returns c = all_come
