-- What to remember of a clock's earlier readings so that the next can be judged against all of them: two of them.
use Rattle.std.specs.Prelude.{◌≡◌, ℕ, ◌+◌, ◌-◌, ◌*◌, Bool, true, cond, ◌&&◌, List, nat_le}
use mathlib.Core.List.{Memᴰ}
use Rattle.clock.specs.Moments.{million}
use Rattle.clock.specs.declared.envelope.Envelope.{Envelope}
use Rattle.clock.specs.declared.envelope.Point.{Point}

-- at p the clock is as far ahead as at q of one that runs at this speed, in parts of a million, or less so by at most the slack
abbrev pub ahead_of : (speed grain slack : ℕ) (p q : Point) → Bool
ahead_of speed grain slack p q =
    nat_le (p.time * speed + q.shown * (million * grain)) (q.time * speed + p.shown * (million * grain) + slack)

-- at p the clock is as far ahead of the slowest that it may run as at q, or less so by at most the slack
abbrev pub ahead_by : (rate grain slack : ℕ) (p q : Point) → Bool
ahead_by rate grain slack p q = ahead_of (million - rate) grain slack p q

-- at p the clock is as far behind the fastest that it may run as at q, or less so by at most the slack
abbrev pub behind_by : (rate grain slack : ℕ) (p q : Point) → Bool
behind_by rate grain slack p q = ahead_of (million + rate) grain slack q p

-- the envelope of one reading, whether it admits a next one, and the envelope with that one too
abbrev pub first_one : Point → Envelope
first_one p = record { ahead = p; behind = p }

abbrev pub admits_one : (rate grain : ℕ) → Envelope → Point → Bool
admits_one rate grain e p = ahead_by rate grain (million * grain) p e.ahead && behind_by rate grain (million * grain) p e.behind

abbrev pub extend_one : (rate grain : ℕ) → Envelope → Point → Envelope
extend_one rate grain e p =
    record { ahead = cond (ahead_by rate grain 0 p e.ahead) p e.ahead; behind = cond (behind_by rate grain 0 p e.behind) p e.behind }

-- an envelope stands for readings of a clock: its two are among them, and none is further ahead or further behind
pub record Encloses (rate grain : ℕ) (past : List Point) (e : Envelope) : Type 0 where
  pub ahead_at : Memᴰ e.ahead past
  pub behind_at : Memᴰ e.behind past
  pub ahead : (q : Point) → Memᴰ q past → ahead_by rate grain 0 e.ahead q ≡ true
  pub behind : (q : Point) → Memᴰ q past → behind_by rate grain 0 e.behind q ≡ true
