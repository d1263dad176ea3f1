use Rattle.std.proofs.Common.{arith}
use Rattle.journal.proofs.Blocks.{passed}
use Rattle.journal.proofs.block.Block.pass.Goals as goal

pub returns : goal.returns
returns c =
    passed c.args.self.now.bytes _ c.args.self.now.held c.args.size c.copy_within.ensures.after (omega arith) c.requires
