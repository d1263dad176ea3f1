use Rattle.std.proofs.Common.{rules}
use Rattle.clock.specs.Hands.{none}
use Rattle.clock.proofs.Standing.{begins}
use Rattle.clock.proofs.clocks.Clocks.new.Goals as goal

pub returns-clause-stands : goal.returns-clause-stands
returns-clause-stands c =
    let h = c.map.ensures.items in
    begins c.args.terms c.map.result h.long (λ j lt. let made = (h.at j 0 none lt).2 in search rules)
