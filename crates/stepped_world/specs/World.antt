-- The world: the present moment, the keeper, the borrowers and the bytes of every message ever
-- sent, and what each event makes of it. It is made of the rules that the contracts of `keeping`,
-- `borrowing`, `message` and `journal` cite.
use Rattle.std.specs.Prelude.{ℕ, suc, Bool, true, false, ◌&&◌, List, [], ◌++◌, map, fold, length, take, Some, None, Ok, Err, Option, Result, if◌then◌else◌, ◌==◌, nat_lt, slice_index_or}
use Rattle.part.specs.Parts.{at_1, blank}
use Rattle.clock.specs.Moments.{Moment, Passing, after}
use Rattle.message.specs.declared.refusal.Refusal.{Refusal}
use Rattle.message.specs.Format.{Msg, layout}
use Rattle.journal.specs.declared.record.Owner.{Owner}
use Rattle.journal.specs.declared.record.Owner.TheVariants as owner
use Rattle.journal.specs.Records.{Rec, records_of, bytes_of}
use Rattle.machine.specs.Effects.{Effect}
use Rattle.machine.specs.Inputs.{Input, Came, Called, Call, Ask, Show, Write, Forget}
use Rattle.keeping.specs.Rules as keeping
use Rattle.borrowing.specs.Parts.{come_up}
use Rattle.borrowing.specs.Rules as borrowing

-- A PARTY is the keeper or a borrower: what it has that outlasts a stop, D; what a stop takes away,
-- V; whether it is up; and its journal. While it is down, D is what the whole records of its
-- journal make, and V what is there before anything is lent.
pub record Party (D V : Type 0) : Type 0 where
  pub durable : D
  pub volatile : V
  pub up : Bool
  pub file : List ℕ

abbrev pub Lender : Type 0
Lender = Party keeping.Durable keeping.Volatile

abbrev pub Borrower : Type 0
Borrower = Party borrowing.Durable borrowing.Volatile

-- now: the true time and what every clock shows; short and long: how long a loan is, for a borrower
-- and for the keeper; sent: the bytes of every message ever sent, the first one first
pub record World : Type 0 where
  pub now : Moment
  pub short : ℕ
  pub long : ℕ
  pub keeper : Lender
  pub borrower : ℕ → Borrower
  pub sent : List (List ℕ)

-- which party
pub data Node : Type 0 where
  keeper : Node
  borrower : (who : ℕ) → Node

-- What happens. A call or a delivery may be torn: who does it stops in its midst, and of what it
-- was appending to its journal only so many first bytes are left.
pub data Event : Type 0 where
  -- the true time and every clock go on
  tick : Passing → Event
  -- a borrower is called
  call : (who : ℕ) → Call → (torn : Option ℕ) → Event
  -- of a message that was sent, so many first bytes arrive at somebody
  deliver : (message size : ℕ) → Node → (torn : Option ℕ) → Event
  stop : Node → Event
  up : Node → Event

abbrev pub with_keeper : Lender → World → World
with_keeper k w = record w { keeper = k }

abbrev pub with_borrower : (who : ℕ) → Borrower → World → World
with_borrower i b w = record w { borrower = at_1 i b w.borrower }

abbrev pub with_sent : List Msg → World → World
with_sent ms w = record w { sent = w.sent ++ map layout ms }

-- STOPS. All that is left is the journal

-- what the whole records of the keeper's journal make, and those of a borrower's
abbrev pub recovered : (file : List ℕ) → keeping.Durable
recovered f = fold keeping.redo keeping.fresh (records_of owner.Keeper f)

abbrev pub numbers_in : (file : List ℕ) → borrowing.Durable
numbers_in f = fold borrowing.redo borrowing.fresh (records_of owner.Borrower f)

-- before anything is lent: of the keeper, and of a borrower with these numbers on file
abbrev pub no_leases : keeping.Volatile
no_leases = record { leases = []; quiet = 0 }

abbrev pub no_copies : borrowing.Durable → borrowing.Volatile
no_copies d = record { parts = λ q. come_up (d q); copies = blank }

abbrev pub keeper_down : (file : List ℕ) → Lender
keeper_down f = record { durable = recovered f; volatile = no_leases; up = false; file = f }

abbrev pub borrower_down : (file : List ℕ) → Borrower
borrower_down f =
    record { durable = numbers_in f; volatile = no_copies (numbers_in f); up = false; file = f }

abbrev pub is_up : Node → World → Bool
is_up keeper w = w.keeper.up
is_up (borrower i) w = (w.borrower i).up

abbrev pub stopped : Node → World → World
stopped keeper w = with_keeper (keeper_down w.keeper.file) w
stopped (borrower i) w = with_borrower i (borrower_down (w.borrower i).file) w

-- a journal to which so many first bytes of some records were appended
abbrev pub torn_file : (file : List ℕ) → List Rec → (left : ℕ) → List ℕ
torn_file f rs n = f ++ take n (bytes_of rs)

abbrev pub terms_of : (who : ℕ) → World → borrowing.Terms
terms_of i w = record { who = i; short = w.short }

-- STEPS. A party after a step of which x comes by the rules: what a stop takes away is x.0 then,
-- and the records are applied and appended
abbrev pub stepped : {D V : Type 0} → (redo : D → Rec → D) → V × Effect → Party D V → Party D V
stepped redo x p =
    record p {
      durable = fold redo p.durable x.1.records;
      volatile = x.0;
      file = p.file ++ bytes_of x.1.records;
    }

-- what the rules say of an input, by the clock of whom it comes to: at the keeper, and at a
-- borrower
abbrev pub keeper_step : Input → World → keeping.Volatile × Effect
keeper_step x w = keeping.step w.long (w.now.hand 0) x w.keeper.durable w.keeper.volatile

abbrev pub borrower_step : (who : ℕ) → Input → World → borrowing.Volatile × Effect
borrower_step i x w =
    borrowing.step (terms_of i w) (w.now.hand (suc i)) x (w.borrower i).durable
    (w.borrower i).volatile

-- what comes of it
abbrev pub effect : Node → Input → World → Effect
effect keeper x w = (keeper_step x w).1
effect (borrower i) x w = (borrower_step i x w).1

-- the keeper, and a borrower, after that
abbrev pub keeper_after : Input → World → Lender
keeper_after x w = stepped keeping.redo (keeper_step x w) w.keeper

abbrev pub borrower_after : (who : ℕ) → Input → World → Borrower
borrower_after i x w = stepped borrowing.redo (borrower_step i x w) (w.borrower i)

-- the world after a step of somebody, which may be torn
abbrev pub acted : Node → Input → (torn : Option ℕ) → World → World
acted keeper x None w = with_sent (effect keeper x w).sends (with_keeper (keeper_after x w) w)
acted keeper x (Some n) w =
    with_keeper (keeper_down (torn_file w.keeper.file (effect keeper x w).records n)) w
acted (borrower i) x None w =
    with_sent (effect (borrower i) x w).sends (with_borrower i (borrower_after i x w) w)
acted (borrower i) x (Some n) w =
    with_borrower i
    (borrower_down (torn_file (w.borrower i).file (effect (borrower i) x w).records n)) w

-- COMING UP. A party after coming up, of which x comes by the rules: its journal is cut after the
-- last whole record, and what is recorded goes behind that
abbrev pub woken : {D V : Type 0} → Owner → (redo : D → Rec → D) → V × Effect → Party D V
    → Party D V
woken o redo x p = stepped redo x (record p { up = true; file = bytes_of (records_of o p.file) })

-- what the rules say of it: of the keeper, and of a borrower
abbrev pub keeper_wakes : World → Result (keeping.Volatile × Effect) Refusal
keeper_wakes w = keeping.wakes w.long (w.now.hand 0) w.keeper.durable

abbrev pub borrower_wakes : (who : ℕ) → World → Result (borrowing.Volatile × Effect) Refusal
borrower_wakes i w =
    borrowing.wakes (terms_of i w) (w.now.hand (suc i)) (w.borrower i).durable

-- the world after that; who is refused stays down
abbrev pub keeper_woken : Result (keeping.Volatile × Effect) Refusal → World → World
keeper_woken (Ok x) w =
    with_sent x.1.sends (with_keeper (woken owner.Keeper keeping.redo x w.keeper) w)
keeper_woken (Err e) w = w

abbrev pub borrower_woken : (who : ℕ) → Result (borrowing.Volatile × Effect) Refusal → World → World
borrower_woken i (Ok x) w =
    with_sent x.1.sends
    (with_borrower i (woken owner.Borrower borrowing.redo x (w.borrower i)) w)
borrower_woken i (Err e) w = w

-- there are 32 borrowers
abbrev pub came_up : Node → World → World
came_up keeper w = keeper_woken (keeper_wakes w) w
came_up (borrower i) w = (if nat_lt i 32 then borrower_woken i (borrower_wakes i w) w else w)

-- CALLS. There is such a part, and what is written is as long as a part
abbrev pub is_of_part : Call → Bool
is_of_part (Ask q k) = nat_lt q 16384
is_of_part (Show q) = nat_lt q 16384
is_of_part (Write q bs) = nat_lt q 16384 && length bs == 1024
is_of_part (Forget q) = nat_lt q 16384

-- there is such a borrower, and it is up
abbrev pub can_call : (who : ℕ) → Call → World → Bool
can_call i c w = (w.borrower i).up && (nat_lt i 32 && is_of_part c)

-- MESSAGES. The first bytes of one, counted from 0; of one that was never sent there are none
abbrev pub cut : (message size : ℕ) → World → List ℕ
cut m n w = take n (slice_index_or w.sent m [])

-- ONE EVENT

abbrev pub step : World → Event → World
step w (tick p) = record w { now = after w.now p }
step w (call i c t) = (if can_call i c w then acted (borrower i) (Called c) t w else w)
step w (deliver m n x t) = (if is_up x w then acted x (Came (cut m n w)) t w else w)
step w (stop x) = (if is_up x w then stopped x w else w)
step w (up x) = (if is_up x w then w else came_up x w)

-- at first all are down, journals are empty, and nothing was sent
abbrev pub first_world : (short long : ℕ) → Moment → World
first_world s l m =
    record {
      now = m;
      short = s;
      long = l;
      keeper = keeper_down [];
      borrower = λ i. borrower_down [];
      sent = [];
    }
