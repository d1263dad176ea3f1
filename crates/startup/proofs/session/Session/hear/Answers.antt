use Rattle.std.proofs.Common.{Ok, Err, Result, refl, subst}
use Rattle.message.specs.declared.refusal.Refusal.{Refusal}
use Rattle.lines.specs.Outputs.{printed}
use Rattle.machine.specs.Nodes.{state_of}
use Rattle.startup.specs.Sessions.{CameUp}
use Rattle.startup.proofs.Ends.{where_done}
use Rattle.startup.proofs.session.Session.hear.Goals as goal

pub returns-in-Ok-clause-heard : goal.returns-in-Ok-clause-heard
returns-in-Ok-clause-heard g c =
    let m = g.M.Machine in
    let state = state_of m.terms m.durable m.volatile g.S.Store.disk in
    let mid = c.come_up.new.self.node in
    let q = printed c.come_up.new.out in
    let Up : Result (Unit {0}) Refusal → Type 0 = λ r. CameUp state m.redo g.P.Program.«syncs_each» g.P.Program.copies m.wakes c.args.said.now.clock c.args.self.now.node mid (printed c.args.out.now) q r in
    where_done c.take.result _ _ c.take.ensures.stepped (λ s. (mid, q, Ok c.in-Ok.field-0, subst Up c.in-Ok.is c.in_ok-come_up.ensures.up, s))

pub returns-in_ok-refused-in-Err-clause-heard : goal.returns-in_ok-refused-in-Err-clause-heard
returns-in_ok-refused-in-Err-clause-heard g c =
    let m = g.M.Machine in
    let state = state_of m.terms m.durable m.volatile g.S.Store.disk in
    let mid = c.come_up.new.self.node in
    let q = printed c.come_up.new.out in
    let Up : Result (Unit {0}) Refusal → Type 0 = λ r. CameUp state m.redo g.P.Program.«syncs_each» g.P.Program.copies m.wakes c.args.said.now.clock c.args.self.now.node mid (printed c.args.out.now) q r in
    (mid, q, Err c.in-Err.refusal, subst Up c.in-Err.is c.in_ok-come_up.ensures.up, (refl, c.in_ok-refused-in-Err.ensures))
