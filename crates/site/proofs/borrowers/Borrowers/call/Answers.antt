use Rattle.std.proofs.Common.{arith}
use Rattle.site.proofs.FourBorrowers.{called}
use Rattle.site.proofs.borrowers.Borrowers.call.Goals as goal

pub returns-clause-is : goal.returns-clause-is
returns-clause-is c = called c.args.self.now _ _ c.index-self-index.result _ c.index.ensures.here c.index.ensures.within (omega arith) c.args.clock c.args.place.at c.args.call c.in_ok-outcome.outcome c.in_ok-outcome.ensures.is
