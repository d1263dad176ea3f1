use Rattle.site.proofs.Onward.{onward}
use Rattle.site.proofs.site.Site.play.Goals as goal

pub returns-clause-onward : goal.returns-clause-onward
returns-clause-onward c =
    let p = c.in_ok-seen.ensures in
    onward c.args.self.now c.happen.new.self c.args.event.now p.world p.clocks
