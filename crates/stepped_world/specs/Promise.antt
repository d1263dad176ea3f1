-- What is promised of every run.
use Rattle.std.specs.Prelude.{◌≡◌, ℕ, suc, ◌+◌, ◌*◌, ◌^◌, ◌<◌, ◌≤◌, true, List, [], ◌∷◌, ◌++◌, length, count_by, Some, None, if◌then◌else◌, ◌==◌, ◌≢◌}
use mathlib.Core.List.{Memᴰ}
use Rattle.part.specs.Parts.{blank}
use Rattle.clock.specs.Moments.{Moment, Within}
use Rattle.clock.specs.Terms.{Fits}
use Rattle.message.specs.declared.kind.Kind.{Kind}
use Rattle.message.specs.declared.kind.Kind.TheVariants.{Reading, Writing}
use Rattle.message.specs.Format.{Msg, In, Void}
use Rattle.message.specs.Reading.{read}
use Rattle.journal.specs.declared.record.Owner.TheVariants as owner
use Rattle.journal.specs.Records.{records_of}
use Rattle.lease.specs.declared.lease.Lease.{Lease}
use Rattle.lease.specs.Leases.{running}
use Rattle.machine.specs.Inputs.{Input, Ask, Write, Forget}
use Rattle.borrowing.specs.Parts.{copy}
use Rattle.stepped_world.specs.World.{World, Event, keeper, borrower, tick, call, deliver, can_call, recovered, effect, borrower_after}
use Rattle.stepped_world.specs.Runs.{Put, puts, Run, moments, run, start}

-- the bytes of the newest of these writes of a part; zeros where there is none
unfoldable pub latest : (place : ℕ) → List Put → List ℕ
latest q [] = blank q
latest q (p ∷ ps) = (if q == p.place then p.bytes else latest q ps)

-- borrower i is up, and has a copy of the part at q of this kind that still counts by its clock: it
-- may show it
pub record MayShow (w : World) (i q : ℕ) (k : Kind) : Type 0 where
  pub up : (w.borrower i).up ≡ true
  pub asked : ℕ
  pub holds : ((w.borrower i).volatile.parts q).hold ≡ copy k asked
  pub valid : w.now.hand (suc i) < asked + w.short

-- these bytes are what the newest write applied anywhere has left of the part at q, and are what
-- the keeper has
abbrev pub IsNewest : Run → (place : ℕ) → (bytes : List ℕ) → Type 0
IsNewest r q bs = (bs ≡ latest q r.applied) × (bs ≡ r.world.keeper.durable.parts q)

-- the message was sent, at some time
pub record Sent (w : World) (m : Msg) : Type 0 where
  pub bytes : List ℕ
  pub mem : Memᴰ bytes w.sent
  pub reads : read bytes ≡ Some m

-- no write of that borrower, part and number is among these
abbrev pub NotIn : List Put → (who place number : ℕ) → Type 0
NotIn ps i q n = (p : Put) → Memᴰ p ps → p.who ≡ i → p.place ≡ q → p.number ≢ n

-- no borrower, part and number twice
unfoldable pub Once : List Put → Type 0
Once [] = Unit {0}
Once (p ∷ ps) = NotIn ps p.who p.place p.number × Once ps

-- a write was sent by a call, made when its borrower had a copy for writing that counted
pub record Made (r : Run) (events : List Event) (p : Put) : Type 0 where
  pub before : List Event
  pub after : List Event
  pub is : events ≡ after ++ (call p.who (Write p.place p.bytes) None ∷ before)
  pub allowed : MayShow (run r before).world p.who p.place Writing
  pub number : p.number ≡ (((run r before).world.borrower p.who).volatile.parts p.place).write + 1

-- nothing hinders borrower i from writing the part at q: it and the keeper are up, the grace period
-- is over, no lease of another for the part runs, and the table of leases, the numbers and the
-- clocks have room
pub record Unhindered (w : World) (i q : ℕ) (v : List ℕ) : Type 0 where
  pub can : can_call i (Write q v) w ≡ true
  pub keeper : w.keeper.up ≡ true
  pub loud : w.keeper.volatile.quiet ≤ w.now.hand 0
  pub alone : (l : Lease) → Memᴰ l w.keeper.volatile.leases → l.place ≡ q → l.who ≢ i →
      l.until ≤ w.now.hand 0
  pub table : count_by (running (w.now.hand 0)) w.keeper.volatile.leases < 4096
  pub asks : ((w.borrower i).volatile.parts q).ask + 1 < 4294967294
  pub writes : ((w.borrower i).volatile.parts q).write < 4294967295
  pub lent : w.now.hand 0 + w.long < 2 ^ 64
  pub valid : w.now.hand (suc i) + w.short < 2 ^ 64

-- Borrower i forgets its copy and asks, the ask and the loan arrive, it writes, the write arrives:
-- the newest event first. No time passes, and nobody but the keeper and i does anything. No message
-- is longer than 2,000 bytes.
abbrev pub to_write : (who place : ℕ) (bytes : List ℕ) → World → List Event
to_write i q v w =
    deliver (length w.sent + 2) 2000 keeper None ∷
    call i (Write q v) None ∷
    deliver (length w.sent + 1) 2000 (borrower i) None ∷
    deliver (length w.sent) 2000 keeper None ∷
    call i (Ask q Writing) None ∷
    call i (Forget q) None ∷ []

-- a run, and behind it these six
abbrev pub having_written : (who place : ℕ) (bytes : List ℕ) → Run → Run
having_written i q v r = run r (to_write i q v r.world)

-- of a world, the writes that were applied to it, and what was sent in it
pub record Holds (r : Run) : Type 0 where
  -- a copy that may be shown is what the newest write applied anywhere has left, and that is what
  -- the keeper has
  pub fresh : (i q : ℕ) (k : Kind) → MayShow r.world i q k →
      IsNewest r q ((r.world.borrower i).volatile.copies q)
  -- so is what a step shows, whatever comes to a borrower that is up
  pub shown : (i q : ℕ) (x : Input) → (r.world.borrower i).up ≡ true →
      Memᴰ q (effect (borrower i) x r.world).shows →
      IsNewest r q ((borrower_after i x r.world).volatile.copies q)
  -- no two borrowers may show a part while one of them may write it
  pub one_writer : (i j q : ℕ) (k l : Kind) → (i ≢ j) → MayShow r.world i q k →
      MayShow r.world j q l → (k ≡ Reading) × (l ≡ Reading)
  -- nothing is applied twice
  pub once : Once r.applied
  -- a write that was answered as in is applied
  pub told : (i q n : ℕ) → Sent r.world (In i q n) →
      (v : List ℕ) × Memᴰ (record { who = i; place = q; number = n; bytes = v }) r.applied
  -- one that was answered as void is not
  pub void : (i q n : ℕ) → Sent r.world (Void i q n) → NotIn r.applied i q n
  -- the writes applied are those on the keeper's disk, in their order, through any stops
  pub on_disk : r.applied ≡ puts (records_of owner.Keeper r.world.keeper.file) []
  -- what the keeper has that outlasts a stop is what its journal makes
  pub kept : r.world.keeper.durable ≡ recovered r.world.keeper.file

-- the write of these bytes, with some number, is the newest that was applied, on top of those
-- before
abbrev pub WroteOn : (who place : ℕ) (bytes : List ℕ) → (before after : List Put) → Type 0
WroteOn i q v before after =
    (n : ℕ) × (after ≡ record { who = i; place = q; number = n; bytes = v } ∷ before)

pub record Promise (first : Run) (events : List Event) (r : Run) : Type 0 where
  pub holds : Holds r
  -- what is applied was sent by a call that was allowed
  pub only_writes : (p : Put) → Memᴰ p r.applied → Made first events p
  -- whom nothing hinders gets to write: these six events end with its write as the newest applied
  pub can_write : (i q : ℕ) (v : List ℕ) → Unhindered r.world i q v →
      WroteOn i q v r.applied (having_written i q v r).applied

-- ALL THAT IS ASSUMED: the terms fit, a millisecond of true time is some units long, and the clocks
-- have kept within their stated error
pub record Assumed (rate short long grain : ℕ) (m : Moment) (events : List Event) : Type 0 where
  pub terms : Fits rate short long
  pub units : 0 < grain
  pub clocks : Within rate grain (moments (run (start short long m) events))

-- THE THEOREM, for any first readings and any events, in any order.
abbrev pub Theorem : Type 0
Theorem =
    (rate short long grain : ℕ) (m : Moment) (events : List Event) →
    Assumed rate short long grain m events →
    Promise (start short long m) events (run (start short long m) events)

-- d milliseconds pass, and every clock goes on by just that
abbrev pub pause : (grain d : ℕ) → Event
pause grain d = tick (record { true = d * grain; hand = λ j. d })

-- from one run to another this write was applied, and the clocks have kept within their error up to
-- the second
pub record Written (rate grain : ℕ) (r s : Run) (i q : ℕ) (v : List ℕ) : Type 0 where
  pub applied : WroteOn i q v r.applied s.applied
  pub clocks : Within rate grain (moments s)

-- NOBODY IS KEPT FROM WRITING BY SILENCE. After any such run a borrower can wait: clocks can go on
-- within their error, for as long as one wants. If nothing hinders it then, because the leases of
-- those who don't answer have ended, it gets to write, and no more time passes.
abbrev pub SilenceEnds : Type 0
SilenceEnds =
    (rate short long grain : ℕ) (m : Moment) (events : List Event) →
    Assumed rate short long grain m events →
    (i q d : ℕ) (v : List ℕ) →
    Unhindered (run (start short long m) (pause grain d ∷ events)).world i q v →
    Written rate grain (run (start short long m) events)
    (having_written i q v (run (start short long m) (pause grain d ∷ events))) i q v
