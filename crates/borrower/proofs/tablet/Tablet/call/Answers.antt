use Rattle.std.proofs.Common.{◌≡◌, List, [], ◌++◌, sym, ap, ◌∙◌, subst, rules}
use Rattle.journal.specs.Records.{Rec, AllFormed, bytes_of}
use Rattle.borrower.specs.Tablets.{part_at, filed_at}
use Rattle.borrower.specs.Outcomes.{Effect, recorded_by, call_effect}
use Rattle.borrower.proofs.OnDisk.{holds_more, called}
use Rattle.borrower.proofs.tablet.Tablet.call.Goals as goal

pub returns-clause-disk : goal.returns-clause-disk
returns-clause-disk g c =
    let t = c.args.self.now in
    let q = c.args.place.at in
    let p = part_at t q in
    let e = call_effect t.who.id q [] c.args.clock t.short c.args.call p (filed_at t q) in
    let f = called t.who.id q [] c.args.clock t.short c.args.call p (filed_at t) in
    let rs : recorded_by c.perform-done.result.«record» ≡ e.records = ap (λ (x : Effect). x.records) (c.perform-done.ensures.effect []) in
    let formed : AllFormed (recorded_by c.perform-done.result.«record») = search rules in
    let was = (g.S.Store.disk c.args.store.now).appended in
    let is = (g.S.Store.disk c.log_numbers.new.store).appended in
    let G : List Rec → Type 0 = λ xs. is ≡ was ++ bytes_of xs in
    λ held. holds_more (filed_at t) _ was is e.records held (f.1 (subst AllFormed rs formed)) (subst G rs c.in_ok-log_numbers.ensures.grown) (c.perform-done.ensures.left.filed ∙ sym f.0)
