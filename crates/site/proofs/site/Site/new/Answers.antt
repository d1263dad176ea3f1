use Rattle.std.proofs.Common.{rules}
use Rattle.site.proofs.Onward.{at_first}
use Rattle.site.proofs.site.Site.new.Goals as goal

pub returns-clause-led : goal.returns-clause-led
returns-clause-led c = at_first _ c.args.terms _ (search rules) c.new.ensures.terms c.new.ensures.stands
