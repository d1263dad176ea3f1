use Rattle.std.proofs.Common.{◌++◌, Ok, Option, Result, sym, ap, ◌∙◌, subst}
use Rattle.message.specs.declared.refusal.Refusal.{Refusal}
use Rattle.machine.specs.Nodes.{has, state_of, WokeUp}
use Rattle.lines.specs.Outputs.{printed}
use Rattle.machine.specs.declared.effects.Effects.{Effects}
use Rattle.startup.specs.Prints.{out_text}
use Rattle.startup.specs.Sessions.{copies_in}
use Rattle.startup.proofs.Sessions.{awake, woken}
use Rattle.startup.proofs.session.Session.come_up.Goals as goal

pub returns-then-is_up-clause-up : goal.returns-then-is_up-clause-up
returns-then-is_up-clause-up g c =
    let m = g.M.Machine in
    let state = state_of m.terms m.durable m.volatile g.S.Store.disk in
    awake state m.redo g.P.Program.«syncs_each» g.P.Program.copies m.wakes c.args.clock c.args.self.now.node _ (sym c.is_up.ensures ∙ c.if-is_up.true)

pub returns-clause-up : goal.returns-clause-up
returns-clause-up g c =
    let m = g.M.Machine in
    let state = state_of m.terms m.durable m.volatile g.S.Store.disk in
    let was = c.args.self.now.node in
    let mid = c.wake.new.self in
    let is = c.commit.new.self.node in
    let p = printed c.args.out.now in
    let Woke : Option (Result (Unit {0}) Refusal) → Type 0 = λ o. WokeUp m.redo m.wakes c.args.clock (state was) (state mid) c.wake.new.out (Ok o) in
    woken state m.redo g.P.Program.«syncs_each» g.P.Program.copies m.wakes c.args.clock was mid is c.wake.new.out c.in-Some.answer _ _ (sym c.is_up.ensures ∙ c.if-is_up.false)
    (subst Woke c.in-Some.is c.in_ok-answer.ensures.woke) (ap (has m.terms m.durable m.volatile) c.commit.ensures.machine) c.in_ok-commit.ensures.synced
    (c.in_ok-print.ensures ∙ ap (λ (e : Effects). p ++ out_text (copies_in g.P.Program.copies is.machine) e) (ap (λ s. s.effects) c.commit.ensures.rest))
