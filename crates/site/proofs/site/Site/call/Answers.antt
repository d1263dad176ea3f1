use Rattle.std.proofs.Common.{[], ◌++◌, map, refl, ap, ◌∙◌, arith}
use Rattle.message.specs.Format.{layout}
use Rattle.borrower.specs.Outcomes.{Effect, sent_by}
use Rattle.site.specs.declared.seen.Seen.{Seen}
use Rattle.site.specs.Nodes.{borrower_number}
use Rattle.site.specs.Worlds.{world_of}
use Rattle.site.proofs.Played.{few, called, answered}
use Rattle.site.proofs.site.Site.call.Goals as goal

pub returns : goal.returns
returns c =
    let w = world_of c.args.self.now in
    let i = borrower_number c.args.who in
    let q = c.args.place.at in
    let x = c.args.call in
    let v = c.args.bytes.now in
    let h = rw (c.in-Some.is, c.reading-clock.ensures) at c.in_ok-outcome.ensures.is in
    record {
      world = called w i q x v (few c.args.who) (omega arith) c.told-bytes h.0 _ _ _ c.call.ensures.short (h.2 v)
          (c.in_ok-send_from_borrower.ensures ∙ ap (λ (e : Effect). w.sent ++ map layout e.sends) (h.1 v));
      clocks = refl;
      answer = ap (λ (s : Seen). s.answer) c.only-2.ensures ∙ answered w i q x v (few c.args.who) (omega arith) c.told-bytes h.0 _ (ap (λ (e : Effect). e.answer) (h.1 v));
      told = ap (λ (s : Seen). sent_by [] s.told) c.only-2.ensures;
    }
