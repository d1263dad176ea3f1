-- The world: the present moment, the keeper, the borrowers and the bytes of every message ever sent, and what each event makes of it.
-- It is made of the rules that the contracts of `lender`, `borrower`, `message` and `journal` cite.
-- Assumes nothing.
use Rattle.std.specs.Prelude.{ℕ, suc, ◌+◌, ◌^◌, Bool, true, false, cond, ◌&&◌, List, [], ◌++◌, map, length, take, Some, None, Option, ◌==◌, nat_le, nat_lt, slice_index_or}
use Rattle.part.specs.Parts.{at_1, blank}
use Rattle.clock.specs.Moments.{Moment, Passing, after}
use Rattle.message.specs.Format.{Msg, layout}
use Rattle.message.specs.Reading.{read}
use Rattle.journal.specs.declared.record.Owner.TheVariants as owner
use Rattle.journal.specs.Records.{Rec, records_of, bytes_of}
use Rattle.lender.specs.Rules.{Book}
use Rattle.lender.specs.Rules.{risen as grace}
use Rattle.lender.specs.Replay.{Memory, replay, nothing}
use Rattle.lender.specs.Replies as keeps
use Rattle.borrower.specs.declared.hold.Part.{Part}
use Rattle.borrower.specs.declared.hold.OnFile.{OnFile}
use Rattle.borrower.specs.declared.outcome.Call.{Call}
use Rattle.borrower.specs.Steps.{risen}
use Rattle.borrower.specs.OnDisk.{numbers_in}
use Rattle.borrower.specs.Outcomes as does

-- The keeper: its book and its parts in memory, whether it is up, and its journal.
-- Memory is lost at a stop: while it is down, book and parts are what it would read from its journal.
pub record Lender : Type 0 where
  pub book : Book
  pub parts : ℕ → List ℕ
  pub up : Bool
  pub file : List ℕ

-- A borrower: what it keeps of each part, the numbers of each on file and the bytes of each copy, whether it is up, and its journal.
-- While it is down, the first three are what it would come up with.
pub record Borrower : Type 0 where
  pub parts : ℕ → Part
  pub filed : ℕ → OnFile
  pub copies : ℕ → List ℕ
  pub up : Bool
  pub file : List ℕ

-- now: the true time and what every clock shows; short: how long a loan is for a borrower (the book has how long it is for the keeper);
-- sent: the bytes of every message ever sent, the first one first
pub record World : Type 0 where
  pub now : Moment
  pub short : ℕ
  pub keeper : Lender
  pub borrower : ℕ → Borrower
  pub sent : List (List ℕ)

pub data Node : Type 0 where
  keeper : Node
  borrower : (who : ℕ) → Node

-- What happens. A call or a delivery may be torn: who does it stops in its midst, and of what it was appending to its journal
-- only so many first bytes are left.
pub data Event : Type 0 where
  -- the true time and every clock go on
  tick : Passing → Event
  -- a borrower is called to do something with a part; the bytes are those that a write writes
  call : (who place : ℕ) → Call → (bytes : List ℕ) → (torn : Option ℕ) → Event
  -- of a message that was sent, so many first bytes arrive at somebody
  deliver : (message size : ℕ) → Node → (torn : Option ℕ) → Event
  stop : Node → Event
  up : Node → Event

abbrev pub with_keeper : Lender → World → World
with_keeper k w = record { now = w.now; short = w.short; keeper = k; borrower = w.borrower; sent = w.sent }

abbrev pub with_borrower : (who : ℕ) → Borrower → World → World
with_borrower i b w = record { now = w.now; short = w.short; keeper = w.keeper; borrower = at_1 i b w.borrower; sent = w.sent }

abbrev pub with_sent : List Msg → World → World
with_sent ms w = record { now = w.now; short = w.short; keeper = w.keeper; borrower = w.borrower; sent = w.sent ++ map layout ms }

-- STOPS: all that is left is the journal

-- what the whole records of the keeper's journal make
abbrev pub recovered : (file : List ℕ) → Memory
recovered f = replay (records_of owner.Keeper f) nothing

abbrev pub keeper_down : (long : ℕ) → (file : List ℕ) → Lender
keeper_down l f =
    record { book = record { done = (recovered f).done; void = (recovered f).void; leases = []; quiet = 0; long = l }; parts = (recovered f).parts; up = false; file = f }

-- it comes up from its journal, which is cut after the last whole record, with no leases and a grace period
abbrev pub keeper_up : (clock long : ℕ) → (file : List ℕ) → Lender
keeper_up c l f =
    record { book = grace c (keeper_down l f).book; parts = (recovered f).parts; up = true; file = bytes_of (records_of owner.Keeper f) }

abbrev pub borrower_down : (file : List ℕ) → Borrower
borrower_down f = record { parts = λ q. risen (numbers_in f q); filed = numbers_in f; copies = blank; up = false; file = f }

abbrev pub borrower_up : (file : List ℕ) → Borrower
borrower_up f =
    record { parts = λ q. risen (numbers_in f q); filed = numbers_in f; copies = blank; up = true; file = bytes_of (records_of owner.Borrower f) }

abbrev pub long_of : World → ℕ
long_of w = w.keeper.book.long

abbrev pub is_up : Node → World → Bool
is_up keeper w = w.keeper.up
is_up (borrower i) w = (w.borrower i).up

abbrev pub stopped : Node → World → World
stopped keeper w = with_keeper (keeper_down (long_of w) w.keeper.file) w
stopped (borrower i) w = with_borrower i (borrower_down (w.borrower i).file) w

-- a keeper whose grace period would pass 64 bits does not come up; there are 32 borrowers
abbrev pub risen_from : Node → World → World
risen_from keeper w =
    cond (nat_le (2 ^ 64) (w.now.hand 0 + long_of w)) w (with_keeper (keeper_up (w.now.hand 0) (long_of w) w.keeper.file) w)
risen_from (borrower i) w = cond (nat_lt i 32) (with_borrower i (borrower_up (w.borrower i).file) w) w

-- a journal to which so many first bytes of some records were appended
abbrev pub torn_file : (file : List ℕ) → List Rec → (left : ℕ) → List ℕ
torn_file f rs n = f ++ take n (bytes_of rs)

-- CALLS, of a borrower by itself: what it reads on its clock, and how long a loan is for it

abbrev pub calls_effect : (who place clock short : ℕ) → Call → List ℕ → Borrower → does.Effect
calls_effect i q c s k v b = does.call_effect i q v c s k (b.parts q) (b.filed q)

abbrev pub calls_part : (place clock short : ℕ) → Call → Borrower → Part
calls_part q c s k b = does.call_part c s k (b.parts q)

abbrev pub calls_leave : (who place clock short : ℕ) → Call → List ℕ → Borrower → Borrower
calls_leave i q c s k v b =
    record {
      parts = at_1 q (calls_part q c s k b) b.parts;
      filed = does.filed_after q (b.parts q) (calls_part q c s k b) b.filed;
      copies = b.copies;
      up = true;
      file = b.file ++ bytes_of (calls_effect i q c s k v b).records;
    }

-- of one in the world

abbrev pub call_effect : (who place : ℕ) → Call → List ℕ → World → does.Effect
call_effect i q c v w = calls_effect i q (w.now.hand (suc i)) w.short c v (w.borrower i)

abbrev pub call_part : (who place : ℕ) → Call → World → Part
call_part i q c w = calls_part q (w.now.hand (suc i)) w.short c (w.borrower i)

abbrev pub after_call : (who place : ℕ) → Call → List ℕ → World → Borrower
after_call i q c v w = calls_leave i q (w.now.hand (suc i)) w.short c v (w.borrower i)

abbrev pub called : (who place : ℕ) → Call → List ℕ → Option ℕ → World → World
called i q c v None w = with_sent (call_effect i q c v w).sends (with_borrower i (after_call i q c v w) w)
called i q c v (Some n) w = with_borrower i (borrower_down (torn_file (w.borrower i).file (call_effect i q c v w).records n)) w

-- there is such a borrower and it is up, there is such a part, and a part has 1,024 bytes
abbrev pub can_call : (who place : ℕ) → List ℕ → World → Bool
can_call i q v w = (w.borrower i).up && (nat_lt i 32 && (nat_lt q 16384 && length v == 1024))

-- MESSAGES: some bytes arrive, at the keeper by itself and at a borrower by itself

abbrev pub serve_effect : (clock : ℕ) → List ℕ → Lender → keeps.Effect
serve_effect c bs k = keeps.heard_effect c (read bs) k.book k.parts

abbrev pub serve_leaves : (clock : ℕ) → List ℕ → Lender → Lender
serve_leaves c bs k =
    record {
      book = keeps.heard_book c (read bs) k.book;
      parts = keeps.heard_parts c (read bs) k.book k.parts;
      up = true;
      file = k.file ++ bytes_of (serve_effect c bs k).records;
    }

abbrev pub hear_effect : (who : ℕ) → List ℕ → Borrower → does.Effect
hear_effect i bs b = does.heard_effect i (read bs) b.parts b.filed

abbrev pub hear_leaves : (who : ℕ) → List ℕ → Borrower → Borrower
hear_leaves i bs b =
    record {
      parts = does.heard_parts i (read bs) b.parts;
      filed = does.heard_filed i (read bs) b.parts b.filed;
      copies = does.heard_copies i (read bs) b.parts b.copies;
      up = true;
      file = b.file ++ bytes_of (hear_effect i bs b).records;
    }

-- at those in the world

abbrev pub keeper_effect : List ℕ → World → keeps.Effect
keeper_effect bs w = serve_effect (w.now.hand 0) bs w.keeper

abbrev pub after_served : List ℕ → World → Lender
after_served bs w = serve_leaves (w.now.hand 0) bs w.keeper

abbrev pub borrower_effect : (who : ℕ) → List ℕ → World → does.Effect
borrower_effect i bs w = hear_effect i bs (w.borrower i)

abbrev pub after_heard : (who : ℕ) → List ℕ → World → Borrower
after_heard i bs w = hear_leaves i bs (w.borrower i)

abbrev pub arrived : Node → List ℕ → Option ℕ → World → World
arrived keeper bs None w = with_sent (keeper_effect bs w).sends (with_keeper (after_served bs w) w)
arrived keeper bs (Some n) w = with_keeper (keeper_down (long_of w) (torn_file w.keeper.file (keeper_effect bs w).records n)) w
arrived (borrower i) bs None w = with_sent (borrower_effect i bs w).sends (with_borrower i (after_heard i bs w) w)
arrived (borrower i) bs (Some n) w = with_borrower i (borrower_down (torn_file (w.borrower i).file (borrower_effect i bs w).records n)) w

-- the first bytes of a message, counted from 0; of one that was never sent there are none
abbrev pub cut : (message size : ℕ) → World → List ℕ
cut m n w = take n (slice_index_or w.sent m [])

-- ONE EVENT

abbrev pub step : World → Event → World
step w (tick p) = record { now = after w.now p; short = w.short; keeper = w.keeper; borrower = w.borrower; sent = w.sent }
step w (call i q c v t) = cond (can_call i q v w) (called i q c v t w) w
step w (deliver m n x t) = cond (is_up x w) (arrived x (cut m n w) t w) w
step w (stop x) = cond (is_up x w) (stopped x w) w
step w (up x) = cond (is_up x w) w (risen_from x w)

-- at first all are down, journals are empty, and nothing was sent
abbrev pub first_world : (short long : ℕ) → Moment → World
first_world s l m = record { now = m; short = s; keeper = keeper_down l []; borrower = λ i. borrower_down []; sent = [] }
