use Rattle.std.proofs.Common.{refl}
use Rattle.site.proofs.Onward.{ticked}
use Rattle.site.proofs.site.Site.tick.Goals as goal

pub returns-clause-onward : goal.returns-clause-onward
returns-clause-onward c = ticked c.args.self.now _ c.args.time c.args.by.now c.pass.result refl c.pass.ensures
