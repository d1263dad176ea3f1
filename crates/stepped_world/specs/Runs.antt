-- Runs: events one after another from empty journals on, with what nobody has: all earlier moments,
-- and the writes that were applied.
use Rattle.std.specs.Prelude.{◌≡◌, ℕ, List, [], ◌∷◌, Some, None, Option, if◌then◌else◌}
use Rattle.clock.specs.Moments.{Moment}
use Rattle.journal.specs.Records.{Rec, Applied}
use Rattle.journal.specs.Laws.{whole_in}
use Rattle.machine.specs.Inputs.{Came}
use Rattle.machine.specs.Machines.{woken_records}
use Rattle.stepped_world.specs.World.{World, Event, tick, deliver, up, keeper, effect, keeper_wakes, cut, step, first_world}

-- a write that was applied
pub record Put : Type 0 where
  pub who : ℕ
  pub place : ℕ
  pub number : ℕ
  pub bytes : List ℕ

-- the writes that some records say, put in front of those before: the newest first
abbrev pub puts : List Rec → List Put → List Put
puts [] h = h
puts (Applied i q n v ∷ rs) h =
    puts rs (record { who = i; place = q; number = n; bytes = v } ∷ h)
puts (r ∷ rs) h = puts rs h

-- a world, all moments before the present one, and the writes applied so far; of both the newest
-- first
pub record Run : Type 0 where
  pub world : World
  pub past : List Moment
  pub applied : List Put

abbrev pub moments : Run → List Moment
moments r = r.world.now ∷ r.past

-- the records of a step that are in the journal whole: all, or the first ones where a stop left
-- fewer bytes
abbrev pub whole : List Rec → (torn : Option ℕ) → List Rec
whole rs None = rs
whole rs (Some n) = whole_in n rs

-- the records that the keeper's journal gets whole
abbrev pub recorded_by : World → Event → List Rec
recorded_by w (deliver m n keeper t) =
    (if w.keeper.up then whole (effect keeper (Came (cut m n w)) w).records t else [])
recorded_by w (up keeper) =
    (if w.keeper.up then [] else woken_records (keeper_wakes w))
recorded_by w _ = []

abbrev pub past_by : World → Event → List Moment → List Moment
past_by w (tick p) ms = w.now ∷ ms
past_by w _ ms = ms

abbrev pub next : Run → Event → Run
next r e =
    record {
      world = step r.world e;
      past = past_by r.world e r.past;
      applied = puts (recorded_by r.world e) r.applied;
    }

-- the newest event first
unfoldable pub run : Run → List Event → Run
run r [] = r
run r (e ∷ es) = next (run r es) e

abbrev pub start : (short long : ℕ) → Moment → Run
start s l m = record { world = first_world s l m; past = []; applied = [] }

-- these events, the newest first, lead from the first moment to this world
abbrev pub Leads : (short long : ℕ) → Moment → List Event → World → Type 0
Leads s l m es w = (run (start s l m) es).world ≡ w
