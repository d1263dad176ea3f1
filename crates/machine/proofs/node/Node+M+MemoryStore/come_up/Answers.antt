use Rattle.std.proofs.Common.{rules, ◌≡◌, Err, Some, None, ap, sym, refl, ◌∙◌, subst}
use Rattle.journal.specs.Memory.{disk_of}
use Rattle.journal.specs.Made.{IsMade}
use Rattle.machine.specs.Nodes.{CameUp, state_of, made_of, and}
use Rattle.machine.proofs.Comes.{whole_is, not_up, is_up, woke_by, not_opened}
use Rattle.machine.proofs.Wakes.{having, woken_made}
use Rattle.machine.proofs.node.Node+M+MemoryStore.come_up.Goals as goal

pub returns-in_err-machine-clause-came : goal.returns-in_err-machine-clause-came
returns-in_err-machine-clause-came g c =
    let M = g.M.Machine in
    let e = c.in_err-machine.field-0.0 in
    let t = M.terms_of c.args.setting in
    let state = state_of M.terms M.durable M.volatile disk_of in
    let was = state c.args.self.now in
    let is = state (record { machine = None; store = c.args.self.now.store }) in
    let o = c.clear.new.self in
    let q : c.from_residual.result ≡ Err e = search rules in
    let n = not_opened M.owner M.redo M.fresh t M.terms M.durable M.volatile M.wakes c.args.clock
    was is o refl e c.in_err-machine.ensures in
    subst (λ r. CameUp M.owner M.redo M.fresh t M.wakes c.args.clock was is o r) (sym q) n

pub returns-then-not-is_up-clause-came : goal.returns-then-not-is_up-clause-came
returns-then-not-is_up-clause-came g c =
    let M = g.M.Machine in
    let m = c.in_ok-machine.machine in
    let r = c.in_ok-machine.ensures in
    let n = c.wake-woke.new.self in
    let f = disk_of c.args.self.now.store in
    let t = M.terms_of c.args.setting in
    let w = λ (t : M.Terms). M.wakes t c.args.clock in
    let b = woke_by M.owner M.redo M.fresh w t (M.terms m) (M.durable m) (M.durable n)
    (M.volatile m) (M.volatile n) c.clear.new.self c.wake-woke.new.out c.wake-woke.result f
    c.in_ok-machine.size r.0 r.1 r.2 r.3 c.wake-woke.ensures.woke in
    let state = state_of M.terms M.durable M.volatile disk_of in
    let was = state c.args.self.now in
    let is = state (record { machine = None; store = c.args.self.now.store }) in
    not_up M.owner M.redo M.fresh t (M.durable n) (M.volatile n) c.clear.new.self
    c.wake-woke.new.out c.wake-woke.result c.clear.ensures was is
    (w t (made_of M.owner M.redo M.fresh f)) b (sym c.is_up.ensures ∙ c.if-not-is_up.true) refl

pub returns-clause-came : goal.returns-clause-came
returns-clause-came g c =
    let M = g.M.Machine in
    let m = c.in_ok-machine.machine in
    let r = c.in_ok-machine.ensures in
    let n = c.wake-woke.new.self in
    let a = c.in_ok-append.ensures.appended in
    let s = c.in_ok-sync.ensures.saved in
    let f = disk_of c.args.self.now.store in
    let t = M.terms_of c.args.setting in
    let w = λ (t : M.Terms). M.wakes t c.args.clock in
    let b = woke_by M.owner M.redo M.fresh w t (M.terms m) (M.durable m) (M.durable n)
    (M.volatile m) (M.volatile n) c.clear.new.self c.wake-woke.new.out c.wake-woke.result f
    c.in_ok-machine.size r.0 r.1 r.2 r.3 c.wake-woke.ensures.woke in
    let state = state_of M.terms M.durable M.volatile disk_of in
    let was = state c.args.self.now in
    let is = state (record { machine = Some n; store = c.append.new.store }) in
    let e = whole_is M.owner f (disk_of c.cut.new.self) (disk_of c.sync.new.self)
    c.in_ok-machine.size r.0 c.cut.ensures.file s.0 s.1 in
    let k = ap (λ (x : M.Terms). having x (M.durable n) (M.volatile n))
    (c.wake-woke.ensures.terms ∙ r.2) in
    is_up M.owner M.redo M.fresh t (M.durable n) (M.volatile n) c.clear.new.self
    c.wake-woke.new.out c.wake-woke.result c.clear.ensures was is
    (w t (made_of M.owner M.redo M.fresh f)) b (sym c.is_up.ensures ∙ c.if-not-is_up.false) k a.0
    (a.1 ∙ ap (λ x. and x c.wake-woke.new.out.records.bytes.items) e)

pub returns-clause-kept : goal.returns-clause-kept
returns-clause-kept g c =
    let M = g.M.Machine in
    let m = c.in_ok-machine.machine in
    let r = c.in_ok-machine.ensures in
    let n = c.wake-woke.new.self in
    let a = c.in_ok-append.ensures.appended in
    let w = c.wake-woke.ensures in
    let k = subst (λ x. IsMade M.owner M.redo M.fresh (M.durable m) x)
    (sym (c.in_ok-sync.ensures.saved.0 ∙ c.cut.ensures.file)) r.1 in
    woken_made M.redo (M.durable m) (M.durable n) (M.volatile n) c.clear.new.self
    c.wake-woke.new.out c.wake-woke.result c.clear.ensures M.owner M.fresh
    (disk_of c.sync.new.self) (disk_of c.append.new.store) k a.0 a.1 (M.volatile m)
    (M.wakes (M.terms m) c.args.clock) w.woke w.sound
