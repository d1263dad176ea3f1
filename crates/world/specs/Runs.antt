-- Runs: events one after another from empty journals on, with what nobody has: all earlier moments, and the writes that were applied.
-- Assumes nothing.
use Rattle.std.specs.Prelude.{◌≡◌, ℕ, cond, List, [], ◌∷◌, length, Some, None, Option, nat_le}
use Rattle.clock.specs.Moments.{Moment}
use Rattle.journal.specs.Records.{Rec, Applied, VoidUpTo, Numbers, bytes_of}
use Rattle.world.specs.World.{World, Event, tick, call, deliver, stop, up, keeper, borrower, keeper_effect, cut, step, first_world}

-- a write that was applied
pub record Put : Type 0 where
  pub who : ℕ
  pub place : ℕ
  pub number : ℕ
  pub bytes : List ℕ

-- the writes that some records say, put in front of those before: the newest first
abbrev pub puts : List Rec → List Put → List Put
puts [] h = h
puts (Applied i q n v ∷ rs) h = puts rs (record { who = i; place = q; number = n; bytes = v } ∷ h)
puts (VoidUpTo i q n ∷ rs) h = puts rs h
puts (Numbers q a w ∷ rs) h = puts rs h

-- a world, all moments before the present one, and the writes applied so far; of both the newest first
pub record Run : Type 0 where
  pub world : World
  pub past : List Moment
  pub applied : List Put

abbrev pub moments : Run → List Moment
moments r = r.world.now ∷ r.past

-- the records of a step that are in the journal whole: all, or none where a stop left fewer bytes
abbrev pub whole : List Rec → (torn : Option ℕ) → List Rec
whole rs None = rs
whole rs (Some n) = cond (nat_le (length (bytes_of rs)) n) rs []

-- the records that the keeper's journal gets whole
abbrev pub recorded_by : World → Event → List Rec
recorded_by w (tick p) = []
recorded_by w (call i q c v t) = []
recorded_by w (deliver m n keeper t) = cond w.keeper.up (whole (keeper_effect (cut m n w) w).records t) []
recorded_by w (deliver m n (borrower i) t) = []
recorded_by w (stop x) = []
recorded_by w (up x) = []

abbrev pub past_by : World → Event → List Moment → List Moment
past_by w (tick p) ms = w.now ∷ ms
past_by w (call i q c v t) ms = ms
past_by w (deliver m n x t) ms = ms
past_by w (stop x) ms = ms
past_by w (up x) ms = ms

abbrev pub next : Run → Event → Run
next r e = record { world = step r.world e; past = past_by r.world e r.past; applied = puts (recorded_by r.world e) r.applied }

-- the newest event first
unfoldable pub run : Run → List Event → Run
run r [] = r
run r (e ∷ es) = next (run r es) e

abbrev pub start : (short long : ℕ) → Moment → Run
start s l m = record { world = first_world s l m; past = []; applied = [] }

-- these events, the newest first, lead from the first moment to this world
abbrev pub Leads : (short long : ℕ) → Moment → List Event → World → Type 0
Leads s l m es w = (run (start s l m) es).world ≡ w
