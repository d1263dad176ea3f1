use Rattle.std.proofs.Common.{arith}
use Rattle.lender.specs.Replay.{nothing}
use Rattle.site.proofs.OneBorrower.{zeros}
use Rattle.site.proofs.OnePart.{went}
use Rattle.site.proofs.keeper_node.steps.written.Goals as goal

pub returns : goal.returns
returns c = went _ _ c.replay.new.into nothing (zeros c.args.place.at (omega arith)) c.in_ok-replay.ensures.1
