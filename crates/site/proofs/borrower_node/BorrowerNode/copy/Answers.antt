use Rattle.std.proofs.Common.{arith}
use Rattle.site.proofs.OneBorrower.{zeros}
use Rattle.site.proofs.borrower_node.BorrowerNode.copy.Goals as goal

pub returns-in-None : goal.returns-in-None
returns-in-None c = rw c.in-None.is (zeros c.args.place.at (omega arith))
