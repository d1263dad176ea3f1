use Rattle.startup.proofs.Lines.{came}
use Rattle.startup.proofs.said.came.Goals as goal

pub returns : goal.returns
returns c = came c.args.word.now c.args.buffer.now _ _ _ c.requires c.in_ok-size.ensures.count c.decode.ensures.after c.min.ensures
