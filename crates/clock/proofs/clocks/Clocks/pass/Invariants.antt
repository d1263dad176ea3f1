use Rattle.std.proofs.Common.{◌≡◌, ℕ, ◌<◌, ◌≤◌, length, get_or}
use Rattle.clock.specs.Hands.{none, HandPassed}
use Rattle.clock.proofs.clocks.Clocks.pass.Given as goal

abbrev pub invariant-loop-i : goal.invariant-loop-i
invariant-loop-i l =
    record {
      passed : (k : ℕ) → k < l.i → HandPassed l.self.terms.rate l.time (get_or l.by k 0) (get_or l.self.hands k none) (get_or l.hands k none);
      left : (k : ℕ) → l.i ≤ k → get_or l.hands k none ≡ get_or l.self.hands k none;
      five : length l.hands ≡ 5;
    }
