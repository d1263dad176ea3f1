use Rattle.std.proofs.Common.{Option, OnOk, subst, sym}
use Rattle.journal.specs.declared.record.Record.{Record}
use Rattle.journal.specs.Records.{recorded}
use Rattle.journal.specs.Logs.{Logged, logged}
use Rattle.journal.proofs.Saves.{logged_by, none_logged}
use Rattle.journal.proofs.log.log.Goals as goal

pub returns-in-Some : goal.returns-in-Some
returns-in-Some g c =
    let P : Option Record → Type 0 = λ o. OnOk c.commit_record.result
    (Logged (logged c.args.part.now o) (g.S.Store.disk c.args.store.now) (g.S.Store.disk c.commit_record.new.store)) in
    subst P (sym c.in-Some.is) (logged_by _ _ (recorded c.args.part.now c.in-Some.«record») c.commit_record.result c.commit_record.ensures.committed)

pub returns-in-None : goal.returns-in-None
returns-in-None g c =
    let P : Option Record → Type 0 = λ o. Logged (logged c.args.part.now o) (g.S.Store.disk c.args.store.now) (g.S.Store.disk c.args.store.now) in
    subst P (sym c.in-None.is) (none_logged (g.S.Store.disk c.args.store.now))
