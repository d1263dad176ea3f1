use Rattle.std.proofs.Common.{arith}
use Rattle.site.proofs.FourBorrowers.{called_torn}
use Rattle.site.proofs.borrowers.Borrowers.call_torn.Goals as goal

pub returns-clause-is : goal.returns-clause-is
returns-clause-is c = called_torn c.args.self.now _ _ c.index-self-index.result _ c.index.ensures.here c.index.ensures.within (omega arith) c.args.clock c.args.place.at c.args.call c.args.left c.in_ok-was_up.was_up c.in_ok-was_up.ensures.is
