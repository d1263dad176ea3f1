-- Cases: some runs, event by event, and what is answered to each.
use Rattle.std.specs.Prelude.{◌≡◌, ℕ, List, [], ◌∷◌, ◌++◌, map, length, replicate, None, Ok, Err, Result}
use Rattle.message.specs.declared.kind.Kind.{Kind}
use Rattle.message.specs.declared.kind.Kind.TheVariants.{Reading, Writing}
use Rattle.message.specs.declared.refusal.Refusal.{Refusal}
use Rattle.message.specs.Refusals.{refusal_number}
use Rattle.machine.specs.Inputs.{Came, Called, Ask, Show, Write}
use Rattle.stepped_world.specs.World.{World, Event, call, deliver, tick, up, keeper, borrower, effect, cut}
use Rattle.stepped_world.specs.Runs.{Run, next, start}

-- what is answered to an event: 0 where it is done, or the number of the refusal
abbrev pub number : Result (Unit {0}) Refusal → ℕ
number (Ok x) = 0
number (Err e) = refusal_number e

abbrev pub answer : World → Event → ℕ
answer w (call i c t) = number (effect (borrower i) (Called c) w).answer
answer w (deliver m n x t) = number (effect x (Came (cut m n w)) w).answer
answer w _ = 0

-- A row: an event and what is answered to it
abbrev pub Row : Type 0
Row = Event × ℕ

-- what is answered to the events of some rows, the first one first, and how many writes are applied
-- in the end
unfoldable pub answers : Run → List Row → List ℕ
answers r [] = length r.applied ∷ []
answers r (row ∷ rows) = answer r.world row.0 ∷ answers (next r row.0) rows

-- a case: what all clocks show at first, its rows, and how many writes are applied in the end
pub record Case : Type 0 where
  pub clock : ℕ
  pub rows : List Row
  pub applied : ℕ

-- it comes out as the rows say: rate 0, a loan of 100 for the borrower and 110 for the keeper
abbrev pub ComesOut : Case → Type 0
ComesOut c =
    answers (start 100 110 (record { true = c.clock; hand = λ j. c.clock })) c.rows ≡
    map (λ (r : Row). r.1) c.rows ++ c.applied ∷ []

abbrev pub AllCome : List Case → Type 0
AllCome [] = Unit {0}
AllCome (c ∷ cs) = ComesOut c × AllCome cs

-- EVENTS, about the part at 7. Messages are counted from 0, as they are sent
abbrev pub pass : ℕ → Event
pass d = tick (record { true = d; hand = λ j. d })

abbrev pub asks : (who : ℕ) → Kind → Event
asks i k = call i (Ask 7 k) None

abbrev pub shows : (who : ℕ) → Event
shows i = call i (Show 7) None

abbrev pub writes : (who : ℕ) → Event
writes i = call i (Write 7 (replicate 1024 1)) None

abbrev pub at_keeper : (message : ℕ) → Event
at_keeper m = deliver m 2000 keeper None

abbrev pub at : (who message : ℕ) → Event
at i m = deliver m 2000 (borrower i) None

-- the grace period is over, and two borrowers are up
abbrev pub opened : List Row
opened = (up keeper, 0) ∷ (up (borrower 0), 0) ∷ (up (borrower 1), 0) ∷ (pass 110, 0) ∷ []

-- and borrower 0 was lent the part
abbrev pub lent : Kind → List Row
lent k = opened ++ (asks 0 k, 0) ∷ (at_keeper 0, 0) ∷ (at 0 1, 0) ∷ []

-- THE CASES
abbrev pub cases : List Case
cases =
    -- asked at 1,000, the loan comes at 1,060: shown at 1,099, and not at 1,100
    record {
      clock = 890;
      rows =
          opened ++ (asks 0 Reading, 0) ∷ (at_keeper 0, 0) ∷ (pass 60, 0) ∷ (at 0 1, 0) ∷
          (pass 39, 0) ∷ (shows 0, 0) ∷ (pass 1, 0) ∷ (shows 0, 2) ∷ [];
      applied = 0;
    } ∷
    -- lent for reading to 0 at 5,000; at 5,050 borrower 1 asks for writing: barred, 0 is recalled
    -- and gives back, 1 asks again and is lent it
    record {
      clock = 4890;
      rows =
          lent Reading ++ (pass 50, 0) ∷ (asks 1 Writing, 0) ∷ (at_keeper 2, 7) ∷ (at 0 3, 0) ∷
          (shows 0, 2) ∷ (at_keeper 4, 0) ∷ (asks 1 Writing, 0) ∷ (at_keeper 5, 0) ∷ (at 1 6, 0) ∷
          (shows 1, 0) ∷ [];
      applied = 0;
    } ∷
    -- had 0 been silent: barred at 5,109, lent at 5,110
    record {
      clock = 4890;
      rows =
          lent Reading ++ (pass 109, 0) ∷ (asks 1 Writing, 0) ∷ (at_keeper 2, 7) ∷ (pass 1, 0) ∷
          (at_keeper 2, 0) ∷ [];
      applied = 0;
    } ∷
    -- 0 writes, hears nothing, asks again and is lent it; then its write arrives: void
    record {
      clock = 890;
      rows =
          lent Writing ++ (writes 0, 0) ∷ (asks 0 Writing, 0) ∷ (at_keeper 3, 0) ∷ (at 0 4, 0) ∷
          (at_keeper 2, 8) ∷ (at 0 5, 0) ∷ (shows 0, 0) ∷ [];
      applied = 0;
    } ∷
    -- 0 writes and is told; the same write arrives again: told again, and not applied
    record {
      clock = 890;
      rows =
          lent Writing ++ (writes 0, 0) ∷ (at_keeper 2, 0) ∷ (at 0 3, 0) ∷ (at_keeper 2, 8) ∷
          (at 0 4, 0) ∷ [];
      applied = 1;
    } ∷
    -- the keeper comes up at 6,000: it lends nothing at 6,109, and lends at 6,110
    record {
      clock = 6000;
      rows =
          (up keeper, 0) ∷ (up (borrower 0), 0) ∷ (asks 0 Reading, 0) ∷ (pass 109, 0) ∷
          (at_keeper 0, 6) ∷ (pass 1, 0) ∷ (at_keeper 0, 0) ∷ [];
      applied = 0;
    } ∷
    -- the loan for ask 3 comes after ask 4
    record {
      clock = 890;
      rows =
          opened ++ (asks 0 Reading, 0) ∷ (asks 0 Reading, 0) ∷ (asks 0 Reading, 0) ∷
          (asks 0 Reading, 0) ∷ (at_keeper 2, 0) ∷ (at 0 4, 5) ∷ [];
      applied = 0;
    } ∷
    -- asked at 1,000 and lent at once: the write called at 1,050 arrives at 1,070 and is applied
    record {
      clock = 890;
      rows =
          lent Writing ++ (pass 50, 0) ∷ (writes 0, 0) ∷ (pass 20, 0) ∷ (at_keeper 2, 0) ∷ [];
      applied = 1;
    } ∷
    -- called at 1,095 it arrives at 1,115, and is passed over
    record {
      clock = 890;
      rows =
          lent Writing ++ (pass 95, 0) ∷ (writes 0, 0) ∷ (pass 20, 0) ∷ (at_keeper 2, 8) ∷ [];
      applied = 0;
    } ∷
    []
