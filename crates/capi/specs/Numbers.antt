-- The numbers that a host is told.
-- Assumes nothing.
use Rattle.std.specs.Prelude.{ℕ, Some, None, Ok, Err, Option, Result}
use Rattle.clock.specs.declared.terms.Unfit.{Unfit}
use Rattle.clock.specs.declared.terms.Unfit.TheVariants.{RateTooHigh, ShortTooShort, LongTooLong, TooClose}
use Rattle.message.specs.declared.refusal.Refusal.{Refusal}
use Rattle.message.specs.Refusals.{refusal_number}
use Rattle.capi.specs.declared.misuse.Misuse.{Misuse}
use Rattle.capi.specs.declared.misuse.Misuse.TheVariants.{Handle, Argument, NoMemory, NoJournal}

-- of an answer: 0, or that of the refusal
abbrev pub answer_number : Result (Unit {0}) Refusal → ℕ
answer_number (Ok u) = 0
answer_number (Err e) = refusal_number e

-- of a call that was not made
abbrev pub misuse_number : Misuse → ℕ
misuse_number Handle = 10
misuse_number Argument = 11
misuse_number NoMemory = 12
misuse_number NoJournal = 13

-- of terms: 0 where they fit together, or of the first condition that fails
abbrev pub fit_number : Option Unfit → ℕ
fit_number None = 0
fit_number (Some RateTooHigh) = 1
fit_number (Some ShortTooShort) = 2
fit_number (Some LongTooLong) = 3
fit_number (Some TooClose) = 4
