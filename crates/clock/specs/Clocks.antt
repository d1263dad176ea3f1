-- The moments that five clocks stand for, and what letting time pass does to them.
use Rattle.std.specs.Prelude.{◌≡◌, ℕ, ◌+◌, ◌^◌, ◌<◌, ◌≤◌, List, ◌∷◌, codes, Ok, Err, Result, map, slice_index, slice_index_or}
use mathlib.Core.List.{Memᴰ}
use Rattle.clock.specs.Envelopes.{Encloses}
use Rattle.clock.specs.Hands.{none}
use Rattle.clock.specs.Moments.{Moment, Passing, after, Later, Pairs, Within}
use Rattle.clock.specs.declared.clocks.Clocks.{Clocks}
use Rattle.clock.specs.declared.clocks.NoPass.{NoPass}
use Rattle.clock.specs.declared.clocks.NoPass.TheVariants.{TimeTooHigh, ReadingTooHigh, OffError}
use Rattle.clock.specs.declared.envelope.Point.{Point}
use Rattle.clock.specs.declared.hand.Hand.{Hand}

-- What the clocks of a table show, the keeper's first. A clock past the end of the table shows what the keeper's does,
-- so that a statement about every clock says no more than it says of those in the table.
abbrev pub shows : List ℕ → ℕ → ℕ
shows hands j = slice_index_or hands j (slice_index hands 0)

abbrev pub moment : (time : ℕ) (hands : List ℕ) → Moment
moment time hands = record { true = time; hand = shows hands }

abbrev pub passing : (time : ℕ) (by : List ℕ) → Passing
passing time by = record { true = time; hand = shows by }

-- the moment that the clocks show now
abbrev pub shown_by : List Hand → List ℕ
shown_by hands = map (λ (h : Hand). h.shown) hands

abbrev pub present : Clocks → Moment
present s = moment s.time (shown_by s.hands)

-- the readings of clock j at some moments
abbrev pub reading_at : ℕ → Moment → Point
reading_at j m = record { time = m.true; shown = m.hand j }

abbrev pub readings : ℕ → List Moment → List Point
readings j ms = map (reading_at j) ms

-- from the fifth on, clocks show what the keeper's does
abbrev pub Five : Moment → Type 0
Five m = (j : ℕ) → 5 ≤ j → m.hand j ≡ m.hand 0

-- the clocks stand for the moments so far, the present first: they have kept within the error between any two of these,
-- and their envelopes can judge the next
pub record Stands (s : Clocks) (past : List Moment) : Type 0 where
  pub encloses : (j : ℕ) → j < 5 → Encloses s.terms.rate 1 (readings j (present s ∷ past)) (slice_index_or s.hands j none).envelope
  pub five : (m : Moment) → Memᴰ m (present s ∷ past) → Five m
  pub later : Pairs Later (present s ∷ past)
  pub within : Within s.terms.rate 1 (present s ∷ past)

-- the true time and all readings fit 64 bits
pub record Room (m : Moment) : Type 0 where
  pub true : m.true < 2 ^ 64
  pub hand : (j : ℕ) → m.hand j < 2 ^ 64

-- the clocks have gone on, and stand for one moment more
pub record Passed (time : ℕ) (by : List ℕ) (s s' : Clocks) : Type 0 where
  pub is : present s' ≡ after (present s) (passing time by)
  pub terms : s'.terms ≡ s.terms
  pub stands : (past : List Moment) → Stands s past → Stands s' (present s ∷ past)

-- nothing has changed, and rightly: a clock would have left its error against one of the moments so far, or a reading its 64 bits
pub record Refused (time : ℕ) (by : List ℕ) (s s' : Clocks) : Type 0 where
  pub same : s' ≡ s
  pub rightly :
      Room (after (present s) (passing time by)) → (past : List Moment) → Stands s past →
      Within s.terms.rate 1 (after (present s) (passing time by) ∷ present s ∷ past) → ⊥

-- what stands against it, where time does not pass
abbrev pub Reason : (time : ℕ) (by : List ℕ) → Clocks → NoPass → Type 0
Reason time by s TimeTooHigh = 2 ^ 64 ≤ s.time + time
Reason time by s ReadingTooHigh = (j : ℕ) × (2 ^ 64 ≤ (after (present s) (passing time by)).hand j)
Reason time by s OffError =
    (past : List Moment) → Stands s past → Within s.terms.rate 1 (after (present s) (passing time by) ∷ present s ∷ past) → ⊥

-- what is printed of it
abbrev pub no_pass_text : NoPass → List ℕ
no_pass_text TimeTooHigh = codes "the true time would pass 64 bits"
no_pass_text ReadingTooHigh = codes "a reading would pass 64 bits"
no_pass_text OffError = codes "a clock would leave its error"

-- what is promised of letting time pass
abbrev pub Outcome : (time : ℕ) (by : List ℕ) (s s' : Clocks) → Result (Unit {0}) NoPass → Type 0
Outcome time by s s' (Ok u) = Passed time by s s'
Outcome time by s s' (Err why) = Refused time by s s' × Reason time by s why
