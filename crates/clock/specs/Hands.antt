-- What one clock finds or becomes when it goes on.
use Rattle.std.specs.Prelude.{◌≡◌, ℕ, ◌+◌, ◌^◌, ◌≤◌, true, false, Ok, Err, Result}
use Rattle.clock.specs.Envelopes.{admits_one, extend_one, first_one}
use Rattle.clock.specs.declared.clocks.NoPass.{NoPass}
use Rattle.clock.specs.declared.clocks.NoPass.TheVariants.{TimeTooHigh, ReadingTooHigh, OffError}
use Rattle.clock.specs.declared.envelope.Point.{Point}
use Rattle.clock.specs.declared.hand.Hand.{Hand}

abbrev pub point : (time shown : ℕ) → Point
point time shown = record { time = time; shown = shown }

-- a clock at the true time 0
abbrev pub first_hand : ℕ → Hand
first_hand shown = record { shown = shown; envelope = first_one (point 0 shown) }

-- what an element of an array of clocks is taken for past its end
abbrev pub none : Hand
none = first_hand 0

-- the next reading of a clock
abbrev pub next_point : (time by : ℕ) → Hand → Point
next_point time by h = point time (h.shown + by)

-- the clock has gone on, within its error
pub record HandPassed (rate time by : ℕ) (h h' : Hand) : Type 0 where
  pub shown : h'.shown ≡ h.shown + by
  pub admitted : admits_one rate 1 h.envelope (next_point time by h) ≡ true
  pub envelope : h'.envelope ≡ extend_one rate 1 h.envelope (next_point time by h)

-- why it has not; the true time is no matter of one clock
abbrev pub HandRefused : (rate time by : ℕ) → Hand → NoPass → Type 0
HandRefused rate time by h TimeTooHigh = ⊥
HandRefused rate time by h ReadingTooHigh = 2 ^ 64 ≤ h.shown + by
HandRefused rate time by h OffError = admits_one rate 1 h.envelope (next_point time by h) ≡ false

abbrev pub HandOutcome : (rate time by : ℕ) → Hand → Result Hand NoPass → Type 0
HandOutcome rate time by h (Ok h') = HandPassed rate time by h h'
HandOutcome rate time by h (Err why) = HandRefused rate time by h why
