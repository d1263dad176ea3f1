-- What comes of each message at the keeper: the records, what is sent and the answer; its book and its parts afterwards.
-- Assumes nothing.
use Rattle.std.specs.Prelude.{ℕ, List, [], ◌∷◌, Some, None, Ok, Err, Option, Result}
use Rattle.message.specs.declared.kind.Kind.{Kind}
use Rattle.message.specs.declared.form.Ask as ask
use Rattle.message.specs.declared.refusal.Refusal.{Refusal}
use Rattle.message.specs.declared.refusal.Refusal.TheVariants.{Malformed}
use Rattle.message.specs.Format.{Msg, Ask, Loan, Write, In, Void, Recall, Back, said, place_of}
use Rattle.journal.specs.declared.record.Record.{Record}
use Rattle.journal.specs.declared.record.Record.TheVariants as kept
use Rattle.journal.specs.Records.{Rec, recorded}
use Rattle.lender.specs.declared.answer.AskAnswer.{AskAnswer}
use Rattle.lender.specs.declared.answer.WriteAnswer.{WriteAnswer}
use Rattle.lender.specs.declared.answer.Sends.{Sends}
use Rattle.lender.specs.declared.answer.Sends.TheVariants.{Nothing, One, Recalls}
use Rattle.lender.specs.declared.answer.Reply.{Reply}
use Rattle.lender.specs.Answers.{ask_refusal, write_refusal}
use Rattle.lender.specs.Rules.{Book, ask_answer, after_ask, ask_sends, ask_records, recalls, write_answer, after_write, parts_after, write_sends, write_records, given_back}

-- what comes of a message, in numbers
pub record Effect : Type 0 where
  pub records : List Rec
  pub sends : List Msg
  pub answer : Result (Unit {0}) Refusal

-- the part that a record is about
abbrev pub place_in : Record → ℕ
place_in (kept.Applied h) = h.place.at
place_in (kept.VoidUpTo h) = h.place.at
place_in (kept.Numbers p a w) = p.at

abbrev pub recorded_by : (f : ℕ → List ℕ) → Option Record → List Rec
recorded_by f None = []
recorded_by f (Some r) = recorded (f (place_in r)) r ∷ []

abbrev pub sent_by : (f : ℕ → List ℕ) → Sends → List Msg
sent_by f Nothing = []
sent_by f (One m) = said (f (place_of m)) m ∷ []
sent_by f (Recalls p by) = recalls p.at 0 by

-- what a reply of the code says, where the parts have these bytes
abbrev pub effect : (f : ℕ → List ℕ) → Reply → Effect
effect f r = record { records = recorded_by f r.record; sends = sent_by f r.sends; answer = r.answer }

-- one that is no message, or not for the keeper, is refused by 1
abbrev pub turned_away : Effect
turned_away = record { records = []; sends = []; answer = Err Malformed }

abbrev pub ask_effect : (who place number : ℕ) → Kind → (written : ℕ) → (v : List ℕ) → AskAnswer → Effect
ask_effect i q n k l v a = record { records = ask_records i q l a; sends = ask_sends i q n k v a; answer = ask_refusal a }

-- an ask of the code as a message, and what comes of it
abbrev pub asked : ask.Ask → Msg
asked a = Ask a.head.who.id a.head.place.at a.head.number a.kind a.written

abbrev pub effect_of : ask.Ask → (v : List ℕ) → AskAnswer → Effect
effect_of a v r = ask_effect a.head.who.id a.head.place.at a.head.number a.kind a.written v r

abbrev pub write_effect : (who place number : ℕ) → (v : List ℕ) → WriteAnswer → Effect
write_effect i q n v a = record { records = write_records i q n v a; sends = write_sends i q n a; answer = write_refusal a }

-- A MESSAGE, or none, at the reading c
abbrev pub heard_effect : (clock : ℕ) → Option Msg → Book → (ℕ → List ℕ) → Effect
heard_effect c None m f = turned_away
heard_effect c (Some (Ask i q n k l)) m f = ask_effect i q n k l (f q) (ask_answer c i q k l m)
heard_effect c (Some (Loan i q n k v)) m f = turned_away
heard_effect c (Some (Write i q n v)) m f = write_effect i q n v (write_answer c i q n m)
heard_effect c (Some (In i q n)) m f = turned_away
heard_effect c (Some (Void i q n)) m f = turned_away
heard_effect c (Some (Recall i q)) m f = turned_away
heard_effect c (Some (Back i q n)) m f = record { records = []; sends = []; answer = Ok tt }

abbrev pub heard_book : (clock : ℕ) → Option Msg → Book → Book
heard_book c None m = m
heard_book c (Some (Ask i q n k l)) m = after_ask c i q n k l (ask_answer c i q k l m) m
heard_book c (Some (Loan i q n k v)) m = m
heard_book c (Some (Write i q n v)) m = after_write i q n (write_answer c i q n m) m
heard_book c (Some (In i q n)) m = m
heard_book c (Some (Void i q n)) m = m
heard_book c (Some (Recall i q)) m = m
heard_book c (Some (Back i q n)) m = given_back i q n m

abbrev pub heard_parts : (clock : ℕ) → Option Msg → Book → (ℕ → List ℕ) → ℕ → List ℕ
heard_parts c None m f = f
heard_parts c (Some (Ask i q n k l)) m f = f
heard_parts c (Some (Loan i q n k v)) m f = f
heard_parts c (Some (Write i q n v)) m f = parts_after q v (write_answer c i q n m) f
heard_parts c (Some (In i q n)) m f = f
heard_parts c (Some (Void i q n)) m f = f
heard_parts c (Some (Recall i q)) m f = f
heard_parts c (Some (Back i q n)) m f = f
