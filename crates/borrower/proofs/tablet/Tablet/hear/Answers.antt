use Rattle.std.proofs.Common.{◌≡◌, List, ◌++◌, sym, ap, ◌∙◌, subst, rules}
use Rattle.message.specs.Reading.{read}
use Rattle.journal.specs.Records.{Rec, AllFormed, bytes_of}
use Rattle.borrower.specs.Tablets.{part_at, filed_at}
use Rattle.borrower.specs.Outcomes.{Effect, recorded_by, heard_effect}
use Rattle.borrower.proofs.OnDisk as disk
use Rattle.borrower.proofs.tablet.Tablet.hear.Goals as goal

pub returns-clause-disk : goal.returns-clause-disk
returns-clause-disk g c =
    let t = c.args.self.now in
    let e = heard_effect t.who.id (read c.args.bytes.now) (part_at t) (filed_at t) in
    let f = disk.heard t.who.id (read c.args.bytes.now) (part_at t) (filed_at t) in
    let rs : recorded_by c.receive-heard.result.«record» ≡ e.records = ap (λ (x : Effect). x.records) c.receive-heard.ensures.effect in
    let formed : AllFormed (recorded_by c.receive-heard.result.«record») = search rules in
    let was = (g.S.Store.disk c.args.store.now).appended in
    let is = (g.S.Store.disk c.log_numbers.new.store).appended in
    let G : List Rec → Type 0 = λ xs. is ≡ was ++ bytes_of xs in
    λ held. disk.holds_more (filed_at t) _ was is e.records held (f.1 (subst AllFormed rs formed)) (subst G rs c.in_ok-log_numbers.ensures.grown) (c.receive-heard.ensures.left.filed ∙ sym f.0)
