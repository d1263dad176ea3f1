use Rattle.std.proofs.Common.{◌≡◌, Ok, sym, ◌∙◌, rules, arith}
use Rattle.site.specs.declared.seen.Answer.TheVariants.{Given}
use Rattle.site.specs.Nodes.{borrower_number}
use Rattle.site.specs.Worlds.{world_of}
use Rattle.site.proofs.Played.{few}
use Rattle.site.proofs.Shows.{fresh, copied}
use Rattle.site.proofs.site.Site.show.Goals as goal

pub returns-in-Given-Ok-clause-shows : goal.returns-in-Given-Ok-clause-shows
returns-in-Given-Ok-clause-shows c =
    let p = c.in_ok-seen.ensures.plays in
    let done : c.in_ok-seen.seen.answer ≡ Given (Ok tt) = search rules in
    let e = sym p.answer ∙ done in
    (e, copied (world_of c.args.self.now) _ (borrower_number c.args.who) c.args.place.at _ p.world e (few c.args.who) (omega arith) c.copy.ensures)

pub returns-in-Given-Ok-clause-fresh : goal.returns-in-Given-Ok-clause-fresh
returns-in-Given-Ok-clause-fresh c m es led =
    let p = c.in_ok-seen.ensures.plays in
    let done : c.in_ok-seen.seen.answer ≡ Given (Ok tt) = search rules in
    let e = sym p.answer ∙ done in
    let i = borrower_number c.args.who in
    let q = c.args.place.at in
    let v = copied (world_of c.args.self.now) _ i q _ p.world e (few c.args.who) (omega arith) c.copy.ensures in
    let f = fresh c.args.self.now i q e m es led in
    (v ∙ f.0, v ∙ f.1)
