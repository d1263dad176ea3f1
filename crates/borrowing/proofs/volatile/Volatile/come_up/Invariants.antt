use Rattle.std.proofs.Common.{◌≡◌, ℕ, ◌<◌}
use Rattle.borrowing.specs.Parts.{come_up}
use Rattle.borrowing.specs.Durables.{durable_of}
use Rattle.borrowing.specs.Volatiles.{part_at}
use Rattle.borrowing.proofs.volatile.Volatile.come_up.Given as goal

abbrev pub invariant-loop-at : goal.invariant-loop-at
invariant-loop-at l = record {
  came : (q : ℕ) → q < l.at → part_at l.self q ≡ come_up (durable_of l.durable q);
  copies : l.self.copies ≡ l.initial.self.copies;
}
