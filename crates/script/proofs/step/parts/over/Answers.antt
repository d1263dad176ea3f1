use Rattle.script.proofs.Filling.{over_is}
use Rattle.script.proofs.step.parts.over.Goals as goal

pub returns : goal.returns
returns c = over_is c.args.rest c.is_none.result c.is_none.ensures
