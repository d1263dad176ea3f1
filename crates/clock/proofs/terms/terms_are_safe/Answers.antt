use Rattle.clock.proofs.Safe.{terms_safe}
use Rattle.clock.proofs.terms.terms_are_safe.Goals as goal

pub returns : goal.returns
returns c = terms_safe
