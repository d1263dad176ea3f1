-- What comes of each call and each message at a borrower: the record, what is sent, what the writer is told, and the answer.
-- Assumes nothing.
use Rattle.std.specs.Prelude.{◌≡◌, ℕ, Bool, cond, not, ◌&&◌, List, [], ◌∷◌, replicate, Some, None, Ok, Err, Option, Result, ◌==◌}
use Rattle.part.specs.Parts.{at_1, blank}
use Rattle.part.specs.declared.who.Who.{Who}
use Rattle.message.specs.declared.kind.Kind.{Kind}
use Rattle.message.specs.declared.refusal.Refusal.{Refusal}
use Rattle.message.specs.declared.refusal.Refusal.TheVariants.{Malformed}
use Rattle.message.specs.declared.form.Message.{Message}
use Rattle.message.specs.Format.{Msg, Ask, Loan, Write, In, Void, Recall, Back, said}
use Rattle.journal.specs.declared.record.Record.{Record}
use Rattle.journal.specs.Records.{Rec, Applied, VoidUpTo, Numbers}
use Rattle.journal.specs.Logs.{logged}
use Rattle.borrower.specs.declared.hold.Part.{Part}
use Rattle.borrower.specs.declared.hold.OnFile.{OnFile}
use Rattle.borrower.specs.declared.hold.Asked.{Asked}
use Rattle.borrower.specs.declared.outcome.Outcome.{Outcome}
use Rattle.borrower.specs.declared.outcome.Call.{Call}
use Rattle.borrower.specs.declared.outcome.Call.TheVariants as call
use Rattle.borrower.specs.declared.tablet.Tablet.{Tablet}
use Rattle.borrower.specs.Tablets.{part_at, filed_at, copy_at, no_part, no_numbers}
use Rattle.borrower.specs.Steps.{released, settled, ask_of, showing, write_of, loan_of, recall_of, kept_of, passes, same_part, risen}

-- what comes of a step, in numbers: at most one record, message and notice
pub record Effect : Type 0 where
  pub records : List Rec
  pub sends : List Msg
  pub tells : List Msg
  pub answer : Result (Unit {0}) Refusal

abbrev pub sent_by : (v : List ℕ) → Option Message → List Msg
sent_by v None = []
sent_by v (Some m) = said v m ∷ []

abbrev pub recorded_by : Option Record → List Rec
recorded_by r = logged (replicate 1024 0) r

-- what an outcome of the code says, with the bytes v that stand beside a write
abbrev pub effect : (v : List ℕ) → Outcome → Effect
effect v o = record { records = recorded_by o.record; sends = sent_by v o.send; tells = sent_by v o.told; answer = o.answer }

-- NUMBERS ON FILE. A record is due where the step changed the part and its numbers pass those on file
abbrev pub due : (was : Part) → OnFile → (is : Part) → Bool
due p f p' = not (same_part p p') && passes f p'

abbrev pub filed_after : (place : ℕ) (was is : Part) → (ℕ → OnFile) → ℕ → OnFile
filed_after q p p' fs = cond (due p (fs q) p') (at_1 q (kept_of (fs q) p') fs) fs

abbrev pub records_of : (place : ℕ) (was : Part) → OnFile → (is : Part) → List Rec
records_of q p f p' = cond (due p f p') (Numbers q (kept_of f p').ask (kept_of f p').write ∷ []) []

-- what is left of a tablet: these parts, these numbers on file and these copies
pub record Left (was is : Tablet) (ps : ℕ → Part) (fs : ℕ → OnFile) (cs : ℕ → List ℕ) : Type 0 where
  pub parts : part_at is ≡ ps
  pub filed : filed_at is ≡ fs
  pub copies : copy_at is ≡ cs
  pub short : is.short ≡ was.short
  pub who : is.who ≡ was.who

-- after a step that left this of the part at q: every other part and every copy is as it was
abbrev pub Stepped : (was is : Tablet) (q : ℕ) → Part → Type 0
Stepped was is q p = Left was is (at_1 q p (part_at was)) (filed_after q (part_at was q) p (filed_at was)) (copy_at was)

-- CALLS of the borrower w on the part at q, by what they leave of the part
abbrev pub ask_sends : (who place : ℕ) → Kind → Result Asked Refusal → List Msg
ask_sends w q k (Ok a) = Ask w q a.number k a.written ∷ []
ask_sends w q k (Err e) = []

abbrev pub answered : {X : Type 0} → Result X Refusal → Result (Unit {0}) Refusal
answered (Ok x) = Ok tt
answered (Err e) = Err e

abbrev pub write_sends : (who place : ℕ) → (bytes : List ℕ) → Result ℕ Refusal → List Msg
write_sends w q v (Ok n) = Write w q n v ∷ []
write_sends w q v (Err e) = []

-- a step that left this of the part, sent this and gave this answer
abbrev pub step_effect : (place : ℕ) (was : Part) → OnFile → (is : Part) → List Msg → Result (Unit {0}) Refusal → Effect
step_effect q p f p' ms a = record { records = records_of q p f p'; sends = ms; tells = []; answer = a }

abbrev pub ask_effect : (who place : ℕ) → Kind → (clock short : ℕ) → Part → OnFile → Effect
ask_effect w q k c s p f =
    step_effect q p f (ask_of c s (settled c s p)).0 (ask_sends w q k (ask_of c s (settled c s p)).1) (answered (ask_of c s (settled c s p)).1)

abbrev pub show_effect : (place : ℕ) → (clock short : ℕ) → Part → OnFile → Effect
show_effect q c s p f = step_effect q p f (settled c s p) [] (showing (settled c s p).hold)

abbrev pub write_effect : (who place : ℕ) → (bytes : List ℕ) → (clock short : ℕ) → Part → OnFile → Effect
write_effect w q v c s p f =
    step_effect q p f (write_of (settled c s p)).0 (write_sends w q v (write_of (settled c s p)).1) (answered (write_of (settled c s p)).1)

abbrev pub forget_effect : (place : ℕ) → Part → OnFile → Effect
forget_effect q p f = step_effect q p f (released p) [] (Ok tt)

-- what each call leaves of the part
abbrev pub asked_part : (clock short : ℕ) → Part → Part
asked_part c s p = (ask_of c s (settled c s p)).0

abbrev pub written_part : (clock short : ℕ) → Part → Part
written_part c s p = (write_of (settled c s p)).0

-- any call, by its kind
abbrev pub call_effect : (who place : ℕ) → (bytes : List ℕ) → (clock short : ℕ) → Call → Part → OnFile → Effect
call_effect w q v c s (call.Ask k) p f = ask_effect w q k c s p f
call_effect w q v c s call.Show p f = show_effect q c s p f
call_effect w q v c s call.Write p f = write_effect w q v c s p f
call_effect w q v c s call.Forget p f = forget_effect q p f

abbrev pub call_part : (clock short : ℕ) → Call → Part → Part
call_part c s (call.Ask k) p = asked_part c s p
call_part c s call.Show p = settled c s p
call_part c s call.Write p = written_part c s p
call_part c s call.Forget p = released p

-- MESSAGES to the borrower w. One that is none, is not for a borrower or names another is refused by 1
abbrev pub turned_away : Effect
turned_away = record { records = []; sends = []; tells = []; answer = Err Malformed }

abbrev pub told : Msg → Effect
told m = record { records = []; sends = []; tells = m ∷ []; answer = Ok tt }

-- what a loan and a recall leave of the part
abbrev pub lent_part : (number : ℕ) → Kind → Part → Part
lent_part n k p = (loan_of n k p).0

abbrev pub heard_effect : (who : ℕ) → Option Msg → (ℕ → Part) → (ℕ → OnFile) → Effect
heard_effect w None ps fs = turned_away
heard_effect w (Some (Ask i q n k l)) ps fs = turned_away
heard_effect w (Some (Loan i q n k v)) ps fs =
    cond (i == w) (step_effect q (ps q) (fs q) (lent_part n k (ps q)) [] (loan_of n k (ps q)).1) turned_away
heard_effect w (Some (Write i q n v)) ps fs = turned_away
heard_effect w (Some (In i q n)) ps fs = cond (i == w) (told (In i q n)) turned_away
heard_effect w (Some (Void i q n)) ps fs = cond (i == w) (told (Void i q n)) turned_away
heard_effect w (Some (Recall i q)) ps fs =
    cond (i == w) (step_effect q (ps q) (fs q) (recall_of (ps q)).0 (Back i q (recall_of (ps q)).1 ∷ []) (Ok tt)) turned_away
heard_effect w (Some (Back i q n)) ps fs = turned_away

abbrev pub heard_parts : (who : ℕ) → Option Msg → (ℕ → Part) → ℕ → Part
heard_parts w None ps = ps
heard_parts w (Some (Ask i q n k l)) ps = ps
heard_parts w (Some (Loan i q n k v)) ps = cond (i == w) (at_1 q (lent_part n k (ps q)) ps) ps
heard_parts w (Some (Write i q n v)) ps = ps
heard_parts w (Some (In i q n)) ps = ps
heard_parts w (Some (Void i q n)) ps = ps
heard_parts w (Some (Recall i q)) ps = cond (i == w) (at_1 q (recall_of (ps q)).0 ps) ps
heard_parts w (Some (Back i q n)) ps = ps

abbrev pub heard_filed : (who : ℕ) → Option Msg → (ℕ → Part) → (ℕ → OnFile) → ℕ → OnFile
heard_filed w None ps fs = fs
heard_filed w (Some (Ask i q n k l)) ps fs = fs
heard_filed w (Some (Loan i q n k v)) ps fs = cond (i == w) (filed_after q (ps q) (lent_part n k (ps q)) fs) fs
heard_filed w (Some (Write i q n v)) ps fs = fs
heard_filed w (Some (In i q n)) ps fs = fs
heard_filed w (Some (Void i q n)) ps fs = fs
heard_filed w (Some (Recall i q)) ps fs = cond (i == w) (filed_after q (ps q) (recall_of (ps q)).0 fs) fs
heard_filed w (Some (Back i q n)) ps fs = fs

-- the bytes of a loan that is taken are the copy
abbrev pub taken : (place : ℕ) → (bytes : List ℕ) → Result (Unit {0}) Refusal → (ℕ → List ℕ) → ℕ → List ℕ
taken q v (Ok u) cs = at_1 q v cs
taken q v (Err e) cs = cs

abbrev pub heard_copies : (who : ℕ) → Option Msg → (ℕ → Part) → (ℕ → List ℕ) → ℕ → List ℕ
heard_copies w None ps cs = cs
heard_copies w (Some (Ask i q n k l)) ps cs = cs
heard_copies w (Some (Loan i q n k v)) ps cs = cond (i == w) (taken q v (loan_of n k (ps q)).1 cs) cs
heard_copies w (Some (Write i q n v)) ps cs = cs
heard_copies w (Some (In i q n)) ps cs = cs
heard_copies w (Some (Void i q n)) ps cs = cs
heard_copies w (Some (Recall i q)) ps cs = cs
heard_copies w (Some (Back i q n)) ps cs = cs

-- what a message leaves of the borrower
abbrev pub Heard : (was is : Tablet) → Option Msg → Type 0
Heard was is o =
    Left was is (heard_parts was.who.id o (part_at was)) (heard_filed was.who.id o (part_at was) (filed_at was)) (heard_copies was.who.id o (part_at was) (copy_at was))

-- AT FIRST nothing was asked for, and there is no copy
pub record Fresh (w : Who) (s : ℕ) (t : Tablet) : Type 0 where
  pub parts : part_at t ≡ (λ q. no_part)
  pub filed : filed_at t ≡ (λ q. no_numbers)
  pub copies : copy_at t ≡ blank
  pub short : t.short ≡ s
  pub who : t.who ≡ w

-- a record of the journal makes this of the tablet: the part is as after coming up
abbrev pub Reread : (was : Tablet) → Rec → (is : Tablet) → Type 0
Reread was (Numbers q a w) is =
    Left was is (at_1 q (risen (record { ask = a; write = w })) (part_at was)) (at_1 q (record { ask = a; write = w }) (filed_at was)) (copy_at was)
Reread was (Applied i q n v) is = is ≡ was
Reread was (VoidUpTo i q n) is = is ≡ was
