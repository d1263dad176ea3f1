use Rattle.std.proofs.Common.{◌≡◌, ap, ◌∙◌, subst, fold}
use Rattle.journal.specs.declared.record.Owner.{Owner}
use Rattle.journal.specs.Reading.{Cut}
use Rattle.journal.specs.Records.{records_of}
use Rattle.journal.proofs.Made.{made_of_cut}
use Rattle.capi.proofs.run.Run.open.Goals as goal

pub returns : goal.returns
returns g c =
    let M = g.M.Machine in
    let bs = c.args.journal.now in
    let n = c.in_ok-size.size in
    let was = c.in_ok-machine.machine in
    let is = c.replay.new.into.machine in
    let new = c.in_ok-machine.ensures in
    let e = c.in_ok-size.ensures in
    let p = subst (λ (o : Owner). Cut o bs n × (M.durable is ≡ fold M.redo (M.durable was) (records_of o bs))) c.owner.ensures e.replayed in
    let m : M.durable is ≡ fold M.redo M.fresh (records_of M.owner bs) =
    p.1 ∙ ap (λ (d : M.Durable). fold M.redo d (records_of M.owner bs)) new.durable in (
      record { cut = p.0; made = made_of_cut M.owner M.redo M.fresh (M.durable is) bs n p.0 m; terms = ap (λ x. x.0) e.fixed ∙ new.terms },
      ap (λ x. x.1) e.fixed ∙ new.volatile,
    )
