use Rattle.std.proofs.Common.{arith}
use Rattle.site.proofs.FourBorrowers.{heard}
use Rattle.site.proofs.borrowers.Borrowers.hear.Goals as goal

pub returns-clause-is : goal.returns-clause-is
returns-clause-is c = heard c.args.self.now _ _ c.index-self-index.result _ c.index.ensures.here c.index.ensures.within (omega arith) c.args.bytes.now c.in_ok-outcome.outcome c.in_ok-outcome.ensures.is
