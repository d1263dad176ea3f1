use Rattle.site.proofs.Shows.{promise}
use Rattle.site.proofs.site.Site.keeps_promise.Goals as goal

pub returns : goal.returns
returns c = promise c.args.self.now
