-- A borrower's rules. Whatever comes, they say what is recorded, what is sent, told and shown, the
-- answer, and what it has afterwards.
use Rattle.std.specs.Prelude.{ℕ, Bool, not, ◌&&◌, List, [], ◌∷◌, Some, Ok, Err, Option, Result, if◌then◌else◌, ◌==◌}
use Rattle.part.specs.Parts.{at_1, blank}
use Rattle.message.specs.declared.kind.Kind.{Kind}
use Rattle.message.specs.declared.refusal.Refusal.{Refusal}
use Rattle.message.specs.declared.refusal.Refusal.TheVariants as why
use Rattle.message.specs.Format.{Msg, Ask, Loan, Write, In, Void, Recall, Back}
use Rattle.message.specs.Reading.{read}
use Rattle.message.specs.Directions.{for_borrower}
use Rattle.journal.specs.Records.{Rec, Numbers}
use Rattle.machine.specs.Effects.{Effect, Note, nothing, refused}
use Rattle.machine.specs.Effects as note
use Rattle.machine.specs.Inputs.{Input, Came, Called, Reading, Call}
use Rattle.machine.specs.Inputs as call
use Rattle.borrowing.specs.declared.hold.Part.{Part}
use Rattle.borrowing.specs.declared.on_file.OnFile.{OnFile}
use Rattle.borrowing.specs.declared.hold.Asked.{Asked}
use Rattle.borrowing.specs.Parts.{released, settled, ask_of, showing, write_of, loan_of, raised, passes, same_part, come_up}

-- who it is, and for how long a copy is valid from its ask on
pub record Terms : Type 0 where
  pub who : ℕ
  pub short : ℕ

-- WHAT OUTLASTS A STOP: of each part the numbers on file
abbrev pub Durable : Type 0
Durable = ℕ → OnFile

-- at first nothing was asked for
abbrev pub no_numbers : OnFile
no_numbers = record { ask = 0; write = 0 }

abbrev pub fresh : Durable
fresh = λ q. no_numbers

-- what a record makes of it, as it comes and as it is read back
abbrev pub redo : Durable → Rec → Durable
redo d (Numbers q a w) = at_1 q (record { ask = a; write = w }) d
redo d _ = d

-- WHAT A STOP TAKES AWAY: what it keeps of each part, and the bytes of each copy
pub record Volatile : Type 0 where
  pub parts : ℕ → Part
  pub copies : ℕ → List ℕ

-- COMING UP: nothing is held
abbrev pub wakes : Terms → (clock : ℕ) → Durable → Result (Volatile × Effect) Refusal
wakes t c d = Ok (record { parts = λ q. come_up (d q); copies = blank }, nothing)

-- NUMBERS ON FILE: a record is due where a step changes the part and its numbers pass those on file
abbrev pub is_due : (was : Part) → OnFile → (is : Part) → Bool
is_due p f p' = not (same_part p p') && passes f p'

abbrev pub due : (place : ℕ) (was : Part) → OnFile → (is : Part) → List Rec
due q p f p' = (if is_due p f p' then Numbers q (raised f p').ask (raised f p').write ∷ [] else [])

-- the part at q becomes p, and this comes of it besides
abbrev pub leave : (place : ℕ) → Part → Effect → Durable → Volatile → Volatile × Effect
leave q p e d v = (record v { parts = at_1 q p v.parts }, record e { records = due q (v.parts q) (d q) p })

-- what comes of an answer that sends nothing
abbrev pub answers : Result (Unit {0}) Refusal → Effect
answers r = record nothing { answer = r }

-- CALLS, of the part at q, where p is what is kept of it, settled
abbrev pub asks : (who place : ℕ) → Kind → Result Asked Refusal → Effect
asks i q k (Ok a) = record nothing { sends = Ask i q a.number k a.written ∷ [] }
asks i q k (Err e) = refused e

abbrev pub shows : (place : ℕ) → Result (Unit {0}) Refusal → Effect
shows q (Ok u) = record nothing { shows = q ∷ [] }
shows q (Err e) = refused e

abbrev pub writes : (who place : ℕ) → (bytes : List ℕ) → Result ℕ Refusal → Effect
writes i q bs (Ok n) = record nothing { sends = Write i q n bs ∷ [] }
writes i q bs (Err e) = refused e

-- an ask leaves its number and the time of it
abbrev pub asked : Terms → (clock place : ℕ) → Kind → (settled : Part) → Durable → Volatile
    → Volatile × Effect
asked t c q k p d v = leave q (ask_of c t.short p).0 (asks t.who q k (ask_of c t.short p).1) d v

-- a write leaves its number, and no copy
abbrev pub written : Terms → (place : ℕ) → (bytes : List ℕ) → (settled : Part) → Durable → Volatile
    → Volatile × Effect
written t q bs p d v = leave q (write_of p).0 (writes t.who q bs (write_of p).1) d v

-- the copy, where there is one, is shown as it is
abbrev pub shown : (place : ℕ) → (settled : Part) → Durable → Volatile → Volatile × Effect
shown q p d v = leave q p (shows q (showing p.hold)) d v

-- the copy, if any, is let go, valid or not
abbrev pub forgotten : (place : ℕ) → Durable → Volatile → Volatile × Effect
forgotten q d v = leave q (released (v.parts q)) nothing d v

-- before all but the last the part is settled
abbrev pub called : Terms → (clock : ℕ) → Call → Durable → Volatile → Volatile × Effect
called t c (call.Ask q k) d v = asked t c q k (settled c t.short (v.parts q)) d v
called t c (call.Show q) d v = shown q (settled c t.short (v.parts q)) d v
called t c (call.Write q bs) d v = written t q bs (settled c t.short (v.parts q)) d v
called t c (call.Forget q) d v = forgotten q d v

-- MESSAGES. The bytes of a loan that is taken are the copy
abbrev pub taken : (place : ℕ) → (bytes : List ℕ) → Result (Unit {0}) Refusal → Volatile → Volatile
taken q bs (Ok u) v = record v { copies = at_1 q bs v.copies }
taken q bs (Err e) v = v

abbrev pub lent : (place : ℕ) → (bytes : List ℕ) → Part × Result (Unit {0}) Refusal → Durable → Volatile
    → Volatile × Effect
lent q bs x d v =
    (taken q bs x.1 (leave q x.0 (answers x.1) d v).0, (leave q x.0 (answers x.1) d v).1)

-- a recall is answered by the ask number as it was, and the copy, if any, is released
abbrev pub recalled : (who place : ℕ) → Durable → Volatile → Volatile × Effect
recalled i q d v =
    leave q (released (v.parts q)) (record nothing { sends = Back i q (v.parts q).ask ∷ [] }) d v

-- one that is none for a borrower, or names another, is refused by 1
abbrev pub turned_away : Volatile → Volatile × Effect
turned_away v = (v, refused why.Malformed)

-- what became of a write is told to who sent it
abbrev pub told : (who named : ℕ) → Note → Volatile → Volatile × Effect
told w i x v = (if i == w then (v, record nothing { tells = x ∷ [] }) else turned_away v)

-- a message, where the bytes that came are one
abbrev pub heard : (who : ℕ) → Option Msg → Durable → Volatile → Volatile × Effect
heard w (Some (Loan i q n k bs)) d v =
    (if i == w then lent q bs (loan_of n k (v.parts q)) d v else turned_away v)
heard w (Some (In i q n)) d v = told w i (note.In q n) v
heard w (Some (Void i q n)) d v = told w i (note.Void q n) v
heard w (Some (Recall i q)) d v = (if i == w then recalled i q d v else turned_away v)
heard w _ d v = turned_away v

-- A STEP: nothing comes of the clock alone
abbrev pub step : Terms → (clock : ℕ) → Input → Durable → Volatile → Volatile × Effect
step t c (Came bs) d v = heard t.who (for_borrower (read bs)) d v
step t c (Called x) d v = called t c x d v
step t c Reading d v = (v, nothing)
