use Rattle.std.proofs.Common.{arith}
use Rattle.journal.proofs.Blocks.{passed}
use Rattle.journal.proofs.window.Window.pass.Goals as goal

pub returns : goal.returns
returns c =
    passed c.args.self.now.bytes.items _ c.args.self.now.held c.args.size c.copy_within.ensures.items (omega arith) c.requires
