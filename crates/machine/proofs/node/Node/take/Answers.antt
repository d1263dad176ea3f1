use Rattle.std.proofs.Common.{rules, sym, subst}
use Rattle.journal.specs.Made.{IsMade}
use Rattle.machine.specs.Inputs.{input_of}
use Rattle.machine.specs.Nodes.{has, Holds}
use Rattle.machine.proofs.Turns.{became, left_of, made_after}
use Rattle.machine.proofs.node.Node.take.Goals as goal

pub returns-in_err-append-clause-took : goal.returns-in_err-append-clause-took
returns-in_err-append-clause-took g c =
    let M = g.M.Machine in
    let m = c.in-Some.machine in
    let t = c.in-Some.ensures in
    let a = c.in_err-append.ensures.appended in
    let n = c.step-answer.new.self in
    let o = c.clear.new.self in
    let o' = c.step-answer.new.out in
    let r = c.step-answer.result in
    let f = M.rules (M.terms m) c.args.clock (input_of c.args.input.now) in
    let b = became M.redo f (M.durable m) (M.durable n) t.0 (M.volatile m) (M.volatile n) o o' r
    c.step-answer.ensures.stepped t.1 in
    let l = left_of (f (M.durable m) t.0).1 o o' r c.clear.ensures b.gave a.0 a.1 in
    search rules

pub returns-clause-kept : goal.returns-clause-kept
returns-clause-kept g c = λ k.
    let M = g.M.Machine in
    let S = g.S.Store in
    let m = c.in-Some.machine in
    let t = c.in-Some.ensures in
    let a = c.in_ok-append.ensures.appended in
    let n = c.step-answer.new.self in
    let s = c.step-answer.ensures in
    let o = c.clear.new.self in
    let o' = c.step-answer.new.out in
    let r = c.step-answer.result in
    let f = M.rules (M.terms m) c.args.clock (input_of c.args.input.now) in
    let b = became M.redo f (M.durable m) (M.durable n) t.0 (M.volatile m) (M.volatile n) o o' r
    s.stepped t.1 in
    let P = λ (o : _).
    Holds M.owner M.redo M.fresh (has M.terms M.durable M.volatile o)
    (S.disk c.args.self.now.store).appended in
    let Q = λ (n : _). IsMade M.owner M.redo M.fresh (M.durable m) (S.disk n.store).appended in
    made_after M.redo M.owner M.fresh (M.durable m) (M.durable n) (M.volatile n)
    (f (M.durable m) t.0) o o' r (S.disk c.take_machine.new.self.store)
    (S.disk c.append.new.store) c.clear.ensures b a.0 (s.sound t.0 t.1) a.1
    (subst Q (sym t.3) (subst P t.2 k))
