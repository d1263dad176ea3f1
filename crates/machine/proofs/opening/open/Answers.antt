use Rattle.std.proofs.Common.{◌≡◌, ap, ◌∙◌, subst, fold}
use Rattle.journal.specs.Reading.{Cut}
use Rattle.journal.specs.Records.{records_of}
use Rattle.machine.proofs.Reread.{made_of_whole}
use Rattle.machine.proofs.opening.open.Goals as goal

pub returns-clause-opened : goal.returns-clause-opened
returns-clause-opened g c =
    let M = g.M.Machine in
    let new = c.in_ok-machine.ensures in
    let e = c.in_ok-size.ensures in
    let t = e.through in
    let n = c.read_through.new.into.machine in
    let o = subst (λ o. Cut o t.bytes c.in_ok-size.size) c.owner.ensures t.opened in
    let m : M.durable n ≡ fold M.redo M.fresh (records_of M.owner t.bytes) =
    t.made
    ∙ ap (λ (d : M.Durable). fold M.redo d (records_of c.owner.result t.bytes)) new.durable
    ∙ ap (λ o. fold M.redo M.fresh (records_of o t.bytes)) c.owner.ensures in
    let z = made_of_whole M.owner t.bytes c.in_ok-size.size o M.redo M.fresh (M.durable n) m in
    (t.bytes, t.read, (o, z, ap (λ x. x.0) e.fixed ∙ new.terms, ap (λ x. x.1) e.fixed ∙ new.volatile))
