use Rattle.std.proofs.Common.{◌++◌, List, map, refl, ap, ◌∙◌}
use Rattle.message.specs.Format.{Msg, layout}
use Rattle.message.specs.Reading.{read}
use Rattle.borrower.specs.Outcomes.{Effect}
use Rattle.site.specs.Nodes.{borrower_number}
use Rattle.world.specs.World.{cut}
use Rattle.site.specs.Worlds.{world_of}
use Rattle.borrower.proofs.Plain.{sends_plain}
use Rattle.site.proofs.Played.{heard, heard_answer, heard_told}
use Rattle.site.proofs.site.Site.deliver_to_borrower.Goals as goal

pub returns : goal.returns
returns c =
    let w = world_of c.args.self.now in
    let i = borrower_number c.args.who in
    let m = c.args.message in
    let n = c.args.size in
    let b = w.borrower i in
    let h = rw (c.in-Some.is, c.first_bytes-bytes.ensures) at c.in_ok-outcome.ensures.is in
    record {
      world = heard w i m n h.0 _ _ _ c.hear.ensures.short h.2
          (c.in_ok-send_from_borrower.ensures
          ∙ ap (λ (ms : List Msg). w.sent ++ map layout ms) (sends_plain _ c.in-Some.outcome.send i (read (cut m n w)) b.parts b.filed (ap (λ (e : Effect). e.sends) h.1)));
      clocks = refl;
      answer = heard_answer w i m n h.0 _ (ap (λ (e : Effect). e.answer) h.1);
      told = heard_told w i m n h.0 _ (ap (λ (e : Effect). e.tells) h.1);
    }
