use Rattle.std.proofs.Common.{arith}
use Rattle.site.proofs.FourBorrowers.{heard_torn}
use Rattle.site.proofs.borrowers.Borrowers.hear_torn.Goals as goal

pub returns-clause-is : goal.returns-clause-is
returns-clause-is c = heard_torn c.args.self.now _ _ c.index-self-index.result _ c.index.ensures.here c.index.ensures.within (omega arith) c.args.bytes.now c.args.left c.in_ok-was_up.was_up c.in_ok-was_up.ensures.is
