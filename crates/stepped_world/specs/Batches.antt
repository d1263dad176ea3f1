-- A keeper that lets many messages share one sync. It takes them one after another: each record is
-- appended and not yet on its disk, and what it sends is held back. Then it syncs, and all of that
-- leaves. What the others do in between happens as in the world.
use Rattle.std.specs.Prelude.{◌≡◌, ℕ, ◌+◌, ◌<◌, Bool, true, false, List, [], ◌∷◌, ◌++◌, length, take, None, if◌then◌else◌}
use mathlib.Core.List.{Memᴰ}
use Rattle.clock.specs.Moments.{Moment, Within}
use Rattle.clock.specs.Terms.{Fits}
use Rattle.message.specs.Format.{Msg}
use Rattle.message.specs.declared.kind.Kind.TheVariants.{Writing}
use Rattle.journal.specs.declared.record.Owner.TheVariants as owner
use Rattle.journal.specs.Records.{Rec, records_of}
use Rattle.machine.specs.Inputs.{Came, Ask, Write, Forget}
use Rattle.stepped_world.specs.World.{World, Event, Node, call, deliver, keeper, borrower, with_keeper, with_sent, keeper_down, effect, keeper_after, cut, came_up, first_world}
use Rattle.stepped_world.specs.World as world
use Rattle.stepped_world.specs.Runs.{Put, puts, Run, past_by}
use Rattle.stepped_world.specs.Promise.{MayShow, Unhindered, Holds, WroteOn}

-- the world, of whose keeper's journal all is there that was appended, and of whose messages those
-- that have left; the messages that the keeper holds back; and how many bytes of its journal are
-- known to be on its disk
pub record Batching : Type 0 where
  pub world : World
  pub held : List Msg
  pub safe : ℕ

pub data Step : Type 0 where
  -- an event of the world that is not the keeper's
  other : Event → Step
  -- of a message that was sent, so many first bytes arrive at the keeper, and it takes it
  take_in : (message size : ℕ) → Step
  -- its journal is synced, and what it held back leaves
  sync : Step
  -- it stops, in the midst of appending too: of what is not known to be on its disk so many first
  -- bytes are left
  stop : (left : ℕ) → Step
  up : Step

abbrev pub at_keeper : Node → Bool
at_keeper keeper = true
at_keeper (borrower i) = false

abbrev pub of_keeper : Event → Bool
of_keeper (deliver m n x t) = at_keeper x
of_keeper (world.stop x) = at_keeper x
of_keeper (world.up x) = at_keeper x
of_keeper _ = false

-- what the others do; the keeper's own events are none of these
abbrev pub done_beside : World → Event → World
done_beside w e = (if of_keeper e then w else world.step w e)

abbrev pub taken : List ℕ → Batching → Batching
taken bs b =
    record b {
      world = with_keeper (keeper_after (Came bs) b.world) b.world;
      held = b.held ++ (effect keeper (Came bs) b.world).sends;
    }

abbrev pub synced : Batching → Batching
synced b =
    record { world = with_sent b.held b.world; held = []; safe = length b.world.keeper.file }

-- what a stop leaves of the journal, and of the world: nothing of what was held back has left
abbrev pub file_left : (left : ℕ) → Batching → List ℕ
file_left n b = take (b.safe + n) b.world.keeper.file

abbrev pub world_left : (left : ℕ) → Batching → World
world_left n b = with_keeper (keeper_down (file_left n b)) b.world

-- a keeper that has come up has its whole journal on its disk
abbrev pub all_on_disk : World → Batching
all_on_disk w = record { world = w; held = []; safe = length w.keeper.file }

abbrev pub batch_step : Batching → Step → Batching
batch_step b (other e) = record b { world = done_beside b.world e }
batch_step b (take_in m n) = (if b.world.keeper.up then taken (cut m n b.world) b else b)
batch_step b sync = synced b
batch_step b (stop n) =
    record { world = world_left n b; held = []; safe = length (file_left n b) }
batch_step b up = (if b.world.keeper.up then b else all_on_disk (came_up keeper b.world))

-- RUNS
pub record BatchRun : Type 0 where
  pub now : Batching
  pub past : List Moment

abbrev pub batch_past : World → Step → List Moment → List Moment
batch_past w (other e) ms = past_by w e ms
batch_past w _ ms = ms

abbrev pub batch_next : BatchRun → Step → BatchRun
batch_next r s = record { now = batch_step r.now s; past = batch_past r.now.world s r.past }

-- the newest step first
unfoldable pub batch_run : BatchRun → List Step → BatchRun
batch_run r [] = r
batch_run r (s ∷ ss) = batch_next (batch_run r ss) s

abbrev pub batch_start : (short long : ℕ) → Moment → BatchRun
batch_start s l m =
    record { now = record { world = first_world s l m; held = []; safe = 0 }; past = [] }

-- as a run of the world, with the writes that the keeper's journal says
abbrev pub seen : BatchRun → Run
seen r =
    record {
      world = r.now.world;
      past = r.past;
      applied = puts (records_of owner.Keeper r.now.world.keeper.file) [];
    }

-- a write was sent by a call, made when its borrower had a copy for writing that counted
pub record MadeBefore (first : BatchRun) (steps : List Step) (p : Put) : Type 0 where
  pub before : List Step
  pub after : List Step
  pub is : steps ≡ after ++ (other (call p.who (Write p.place p.bytes) None) ∷ before)
  pub allowed : MayShow (batch_run first before).now.world p.who p.place Writing
  pub number : p.number ≡
      (((batch_run first before).now.world.borrower p.who).volatile.parts p.place).write + 1

-- what a stop would leave now is the journal's first records
abbrev pub LeavesFirst : (left : ℕ) → Batching → Type 0
LeavesFirst n b =
    (more : List Rec) ×
    (records_of owner.Keeper b.world.keeper.file ≡ records_of owner.Keeper (file_left n b) ++ more)

-- A borrower forgets its copy and asks, the keeper takes the ask and syncs, the loan arrives, it
-- writes, the keeper takes the write and syncs: the newest step first
abbrev pub batch_to_write : (who place : ℕ) (bytes : List ℕ) → World → List Step
batch_to_write i q v w =
    sync ∷
    take_in (length w.sent + 2) 2000 ∷
    other (call i (Write q v) None) ∷
    other (deliver (length w.sent + 1) 2000 (borrower i) None) ∷
    sync ∷
    take_in (length w.sent) 2000 ∷
    other (call i (Ask q Writing) None) ∷
    other (call i (Forget q) None) ∷ []

pub record BatchPromise (first : BatchRun) (steps : List Step) (r : BatchRun) : Type 0 where
  -- all that holds of a run in which each message is synced by itself
  pub holds : Holds (seen r)
  pub only_writes : (p : Put) → Memᴰ p (seen r).applied → MadeBefore first steps p
  -- and whatever a stop would leave, wherever it came, all of it holds of that
  pub left : (n : ℕ) → LeavesFirst n r.now × Holds (seen (batch_next r (stop n)))
  -- whom nothing hinders gets to write, where nothing is held back
  pub can_write : (i q : ℕ) (v : List ℕ) → Unhindered r.now.world i q v → r.now.held ≡ [] →
      WroteOn i q v (seen r).applied
      (seen (batch_run r (batch_to_write i q v r.now.world))).applied

-- THE THEOREM, for any steps, in any order, while the terms fit and the clocks have kept within
-- their stated error
abbrev pub BatchTheorem : Type 0
BatchTheorem =
    (rate short long grain : ℕ) (m : Moment) (steps : List Step) →
    Fits rate short long → 0 < grain →
    Within rate grain
    ((batch_run (batch_start short long m) steps).now.world.now ∷
    (batch_run (batch_start short long m) steps).past) →
    BatchPromise (batch_start short long m) steps (batch_run (batch_start short long m) steps)
