use Rattle.std.proofs.Common.{length, arith, sym, ◌∙◌}
use Rattle.machine.specs.Inputs.{input_of}
use Rattle.capi.proofs.Steps.{ready, records_room, messages_room, said}
use Rattle.capi.proofs.run.Run.step.Goals as goal

pub put-requires-clause-records : goal.put-requires-clause-records
put-requires-clause-records g c =
    let M = g.M.Machine in
    let m = c.args.self.now.machine in
    let n = c.step-answer.new.self in
    let s = c.step-answer.ensures in
    let f = M.rules (M.terms m) c.args.clock (input_of c.args.input.now) in
    let y = ready M.owner M.redo f (M.durable m) (M.durable n) (M.volatile n) c.clear.new.self c.step-answer.new.out c.step-answer.result (length c.args.sent.now)
    (M.volatile m) (sym c.is_up.ensures ∙ c.if-not-is_up.false) s.stepped s.sound c.requires.fits c.clear.ensures (sym c.has_failed.ensures ∙ c.if-has_failed.false) in
    omega (
      arith,
      c.requires.room,
      records_room M.owner M.redo f (M.durable m) (M.durable n) (M.volatile n) c.clear.new.self c.step-answer.new.out c.step-answer.result (length c.args.sent.now) (M.volatile m) y,
    )

pub put-requires-clause-sends : goal.put-requires-clause-sends
put-requires-clause-sends g c =
    let M = g.M.Machine in
    let m = c.args.self.now.machine in
    let n = c.step-answer.new.self in
    let s = c.step-answer.ensures in
    let f = M.rules (M.terms m) c.args.clock (input_of c.args.input.now) in
    let y = ready M.owner M.redo f (M.durable m) (M.durable n) (M.volatile n) c.clear.new.self c.step-answer.new.out c.step-answer.result (length c.args.sent.now)
    (M.volatile m) (sym c.is_up.ensures ∙ c.if-not-is_up.false) s.stepped s.sound c.requires.fits c.clear.ensures (sym c.has_failed.ensures ∙ c.if-has_failed.false) in
    omega (arith, messages_room M.owner M.redo f (M.durable m) (M.durable n) (M.volatile n) c.clear.new.self c.step-answer.new.out c.step-answer.result (length c.args.sent.now) (M.volatile m) y)

pub returns : goal.returns
returns g c =
    let M = g.M.Machine in
    let m = c.args.self.now.machine in
    let n = c.step-answer.new.self in
    let s = c.step-answer.ensures in
    let f = M.rules (M.terms m) c.args.clock (input_of c.args.input.now) in
    let y = ready M.owner M.redo f (M.durable m) (M.durable n) (M.volatile n) c.clear.new.self c.step-answer.new.out c.step-answer.result (length c.args.sent.now)
    (M.volatile m) (sym c.is_up.ensures ∙ c.if-not-is_up.false) s.stepped s.sound c.requires.fits c.clear.ensures (sym c.has_failed.ensures ∙ c.if-has_failed.false) in
    record {
      before = y.before;
      up = y.up;
      terms = s.terms;
      durable = y.durable;
      volatile = y.volatile;
      sound = y.sound;
      says = said M.owner M.redo f (M.durable m) (M.durable n) (M.volatile n) c.clear.new.self c.step-answer.new.out c.step-answer.result (length c.args.sent.now) (M.volatile m) y
          c.put.result _ _ _ _ c.put.ensures;
    }
