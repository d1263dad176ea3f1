use Rattle.std.proofs.Common.{◌≡◌, ◌<◌, ◌≢◌, ◌+◌, Err, length, arith, rules, length-set, get_or-set_other, get_or-set_same, below_more}
use Rattle.clock.proofs.Standing.{passed, refused}
use Rattle.clock.proofs.clocks.Clocks.pass.Goals as goal

pub returns-in_err-hands : goal.returns-in_err-hands
returns-in_err-hands c =
    let out = rw (c.loop-i.invariant.left c.loop-i.i (omega arith)) at c.in_err-hands.ensures in
    let is : c.from_residual-in_err-hands.result ≡ Err c.in_err-hands.field-0.0 = search rules in
    let on : c.in_ok-time.time ≡ c.args.self.now.time + c.args.time = search rules in
    rw is (refused c.args.self.now c.args.time c.args.by.now (omega arith) c.told-by c.in_ok-time.time on c.in_err-hands.field-0.0 c.loop-i.i (omega arith) out)

pub loop-i-preserved : goal.loop-i-preserved
loop-i-preserved c =
    let at_i = rw (c.loop-i.invariant.left c.loop-i.i (omega arith)) at c.in_ok-hands.ensures in
    record {
      passed = below_more _ _
          (λ k h. let ne : k ≢ c.loop-i.i = omega arith in rw get_or-set_other (c.loop-i.invariant.passed k h))
          (let lt : c.loop-i.i < length c.loop-i.hands = omega arith in rw get_or-set_same at_i);
      left = λ k h. let ne : k ≢ c.loop-i.i = omega arith in rw get_or-set_other (c.loop-i.invariant.left k (omega arith));
      five = rw length-set c.loop-i.invariant.five;
    }

pub returns : goal.returns
returns c =
    let on : c.in_ok-time.time ≡ c.args.self.now.time + c.args.time = search rules in
    passed c.args.self.now c.args.time c.args.by.now (omega arith) c.told-by c.in_ok-time.time on c.loop-i.hands c.loop-i.invariant.five
    (λ j h. c.loop-i.invariant.passed j (omega arith))
