use Rattle.std.proofs.Common.{◌≡◌, ℕ, List, Some, Option, ap, sym, ◌∙◌, subst}
use Rattle.machine.specs.Nodes.{Has, WokeUp, Failed, has, Holds, state_of, asleep, and}
use Rattle.machine.proofs.Turns.{by_err}
use Rattle.machine.proofs.Wakes.{having, woken, unwoken, woken_made}
use Rattle.machine.proofs.node.Node.wake.Goals as goal

pub returns-in_err-append-clause-woke : goal.returns-in_err-append-clause-woke
returns-in_err-append-clause-woke g c =
    let M = g.M.Machine in
    let m = c.in-Some.machine in
    let a = c.in_err-append.ensures.appended in
    let n = c.wake-answer.new.self in
    let u = unwoken M.redo (M.durable m) (M.durable n) (M.volatile n) c.clear.new.self
    c.wake-answer.new.out c.wake-answer.result c.clear.ensures a.0 a.1 a.2 (M.volatile m)
    (M.wakes (M.terms m) c.args.clock) c.wake-answer.ensures.woke in
    let x = u.1.0 in
    let view = has M.terms M.durable M.volatile in
    let state = state_of M.terms M.durable M.volatile g.S.Store.disk in
    let was = state c.args.self.now in
    let is = state (record { machine = c.take.new.self; store = c.append.new.store }) in
    let f : Failed x.1 was is =
    record {
      machine = ap view c.take.ensures.after;
      left = a.0;
      disk = a.3 ∙ ap (λ (xs : List ℕ). and was.disk xs) u.1.2;
    } in
    let q : was.machine ≡ asleep (M.terms m) (M.durable m) =
    ap view (sym c.take.ensures.value ∙ c.in-Some.is)
    ∙ ap (λ (v : Option M.Volatile). having (M.terms m) (M.durable m) v) u.0 in
    by_err (λ r. WokeUp M.redo M.wakes c.args.clock was is c.wake-answer.new.out r)
    c.from_residual.result c.from_residual.ensures.0
    (λ e. (M.terms m, M.durable m, x, q, u.1.1, f))

pub returns-clause-woke : goal.returns-clause-woke
returns-clause-woke g c =
    let M = g.M.Machine in
    let m = c.in-Some.machine in
    let a = c.in_ok-append.ensures.appended in
    let n = c.wake-answer.new.self in
    let w = c.wake-answer.ensures in
    let h : Has M.Terms M.Durable M.Volatile =
    record { terms = M.terms m; durable = M.durable m; volatile = M.volatile m } in
    let state = state_of M.terms M.durable M.volatile g.S.Store.disk in
    let was = state c.args.self.now in
    let is = state (record { machine = Some n; store = c.append.new.store }) in
    let q : was.machine ≡ Some h =
    ap (has M.terms M.durable M.volatile) (sym c.take.ensures.value ∙ c.in-Some.is) in
    let b = ap (λ (t : M.Terms). having t (M.durable n) (M.volatile n)) w.terms in
    let z = woken M.redo (M.terms m) (M.durable m) (M.durable n) (M.volatile n) c.clear.new.self
    c.wake-answer.new.out c.wake-answer.result c.clear.ensures was is b (M.volatile m)
    (M.wakes (M.terms m) c.args.clock) w.woke q a.0 a.1 in
    (h, q, z)

pub returns-clause-kept : goal.returns-clause-kept
returns-clause-kept g c = λ k.
    let M = g.M.Machine in
    let m = c.in-Some.machine in
    let a = c.in_ok-append.ensures.appended in
    let n = c.wake-answer.new.self in
    let w = c.wake-answer.ensures in
    let f = g.S.Store.disk c.args.self.now.store in
    let P = λ (o : _).
    Holds M.owner M.redo M.fresh (has M.terms M.durable M.volatile o) f.appended in
    woken_made M.redo (M.durable m) (M.durable n) (M.volatile n) c.clear.new.self
    c.wake-answer.new.out c.wake-answer.result c.clear.ensures M.owner M.fresh f
    (g.S.Store.disk c.append.new.store)
    (subst P (sym c.take.ensures.value ∙ c.in-Some.is) k) a.0 a.1 (M.volatile m)
    (M.wakes (M.terms m) c.args.clock) w.woke w.sound
