use Rattle.std.proofs.Common.{[], refl, ap, ◌∙◌, arith}
use Rattle.borrower.specs.Outcomes.{sent_by}
use Rattle.site.specs.declared.seen.Seen.{Seen}
use Rattle.site.specs.Nodes.{borrower_number}
use Rattle.site.specs.Worlds.{world_of}
use Rattle.site.proofs.Played.{few, called_torn}
use Rattle.site.proofs.site.Site.call_torn.Goals as goal

pub returns : goal.returns
returns c =
    let w = world_of c.args.self.now in
    let h = rw c.reading-clock.ensures at c.in_ok-was_up.ensures.is in
    let t = called_torn w (borrower_number c.args.who) c.args.place.at c.args.call c.args.bytes.now (few c.args.who) (omega arith) c.told-bytes c.args.left _ _ c.in_ok-was_up.was_up c.call_torn.ensures.short h in
    record {
      world = t.0;
      clocks = refl;
      answer = ap (λ (s : Seen). s.answer) c.only.ensures ∙ c.stopped.ensures ∙ t.1;
      told = ap (λ (s : Seen). sent_by [] s.told) c.only.ensures;
    }
