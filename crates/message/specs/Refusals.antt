-- The number of each refusal.
-- Assumes nothing.
use Rattle.std.specs.Prelude.{ℕ}
use Rattle.message.specs.declared.refusal.Refusal.{Refusal}
use Rattle.message.specs.declared.refusal.Refusal.TheVariants.{Malformed, NoCopy, ReadOnly, HoldsCopy, OtherAsk, Quiet, Barred, NotApplied, Exhausted}

abbrev pub refusal_number : Refusal → ℕ
refusal_number Malformed = 1
refusal_number NoCopy = 2
refusal_number ReadOnly = 3
refusal_number HoldsCopy = 4
refusal_number OtherAsk = 5
refusal_number Quiet = 6
refusal_number Barred = 7
refusal_number NotApplied = 8
refusal_number Exhausted = 9
