-- What a host has of a call: its number, the record and the messages in its buffers, and what a writer is told.
use Rattle.std.specs.Prelude.{◌≡◌, ℕ, ◌≤◌, List, [], ◌∷◌, length, map, Some, Option, Result, vec_items}
use Rattle.message.specs.declared.refusal.Refusal.{Refusal}
use Rattle.message.specs.Format.{Msg, Ask, layout}
use Rattle.journal.specs.Records.{bytes_of}
use Rattle.machine.specs.declared.effects.Effects as code
use Rattle.machine.specs.Effects.{Effect, note_of}
use Rattle.machine.specs.Inputs.{Input, Called, Call}
use Rattle.machine.specs.Inputs as call
use Rattle.capi.specs.declared.reply.Answer.{Answer}
use Rattle.capi.specs.Numbers.{answer_number}
use Rattle.capi.specs.Words.{word_in}
use Rattle.capi.specs.Buffers.{Wrote, Row, messages_bytes}

-- the records of a step are in front of one buffer, its messages in front of another, what it tells is told, and the number is that
-- of its answer
pub record Says (e : Effect) (a : Answer) (filed_was filed_is sent_was sent_is : List ℕ) : Type 0 where
  pub number : a.number ≡ answer_number e.answer
  pub filed : Wrote (bytes_of e.records) a.reply.«record_size» filed_was filed_is
  pub sent : Row e.sends a.reply.«message_count» a.reply.«message_size» sent_was sent_is
  pub told : a.reply.told ≡ word_in e.tells

-- the first of some sizes; 0 where there is none
abbrev pub first_of : List ℕ → ℕ
first_of [] = 0
first_of (n ∷ ns) = n

-- the same by what the code has of the step
pub record Copied (o : code.Effects) (r : Result (Unit {0}) Refusal) (a : Answer) (filed_was filed_is sent_was sent_is : List ℕ) : Type 0 where
  pub number : a.number ≡ answer_number r
  pub filed : Wrote (vec_items o.records.bytes) a.reply.«record_size» filed_was filed_is
  pub sent : Wrote (vec_items o.sends.buffer.bytes) (length (vec_items o.sends.buffer.bytes)) sent_was sent_is
  pub count : a.reply.«message_count» ≡ length (vec_items o.sends.sizes)
  pub size : a.reply.«message_size» ≡ first_of (vec_items o.sends.sizes)
  pub told : a.reply.told ≡ word_in (map note_of (vec_items o.tells.items))

-- each of the messages has so many bytes
abbrev pub Alike : (size : ℕ) → List Msg → Type 0
Alike n [] = Unit {0}
Alike n (m ∷ ms) = (length (layout m) ≡ n) × Alike n ms

-- a step makes one record at most, its messages are of one size and have room, and it tells one thing at most
pub record Fits (room : ℕ) (e : Effect) : Type 0 where
  pub records : length e.records ≤ 1
  pub sends : length (messages_bytes e.sends) ≤ room
  pub size : ℕ
  pub alike : Alike size e.sends
  pub tells : length e.tells ≤ 1

-- a part that a message asks for has as many bytes as every part
abbrev pub SizedFor : (parts : ℕ → List ℕ) → Option Msg → Type 0
SizedFor f (Some (Ask i q n k w)) = length (f q) ≡ 1024
SizedFor f _ = Unit {0}

-- and so have the bytes of a write
abbrev pub SizedCall : Call → Type 0
SizedCall (call.Write q bs) = length bs ≡ 1024
SizedCall _ = Unit {0}

abbrev pub SizedInput : Input → Type 0
SizedInput (Called x) = SizedCall x
SizedInput _ = Unit {0}
