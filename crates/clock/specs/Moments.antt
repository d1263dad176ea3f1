-- Moments of true time, what the clocks show at them, and when clocks keep within their stated error.
use Rattle.std.specs.Prelude.{ℕ, ◌+◌, ◌-◌, ◌*◌, ◌≤◌, List, [], ◌∷◌}
use mathlib.Core.List.{Memᴰ}

-- a rate is stated in parts of this
abbrev pub million : ℕ
million = 1000000

-- the true time, in units, and what each clock shows, in milliseconds: hand 0 is the keeper's clock, hand (suc i) is borrower i's
pub record Moment : Type 0 where
  pub true : ℕ
  pub hand : ℕ → ℕ

-- how far the true time and each clock go on
pub record Passing : Type 0 where
  pub true : ℕ
  pub hand : ℕ → ℕ

abbrev pub after : Moment → Passing → Moment
after m p = record { true = m.true + p.true; hand = λ j. m.hand j + p.hand j }

-- While so many units of true time pass, a clock goes on by so many milliseconds; grain units are a millisecond.
-- Within the stated error it counts at least the true milliseconds less rate parts in a million, less one,
-- and at most the true milliseconds plus rate parts in a million, plus one: the one is for rounding.
pub record Keeps (rate grain time shown : ℕ) : Type 0 where
  pub slow : time * (million - rate) ≤ (shown + 1) * million * grain
  pub fast : shown * million * grain ≤ time * (million + rate) + million * grain

-- every clock keeps within the error from an older moment to a newer one
abbrev pub Between : (rate grain : ℕ) (o n : Moment) → Type 0
Between rate grain o n = (j : ℕ) → Keeps rate grain (n.true - o.true) (n.hand j - o.hand j)

-- of each two moments of a list, newest first
unfoldable pub Pairs : (Moment → Moment → Type 0) → List Moment → Type 0
Pairs P [] = Unit {0}
Pairs P (n ∷ ms) = ((o : Moment) → Memᴰ o ms → P o n) × Pairs P ms

-- The stated error is a bound between any two moments, not only from one to the next:
-- so small errors can't add up, step by step, to more than it.
abbrev pub Within : (rate grain : ℕ) → List Moment → Type 0
Within rate grain ms = Pairs (Between rate grain) ms

-- neither the true time nor a clock goes back
pub record Later (o n : Moment) : Type 0 where
  pub true : o.true ≤ n.true
  pub hand : (j : ℕ) → o.hand j ≤ n.hand j
