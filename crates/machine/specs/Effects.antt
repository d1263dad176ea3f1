-- What comes of a step.
-- Assumes nothing.
use Rattle.std.specs.Prelude.{◌≡◌, ℕ, Bool, false, ◌||◌, List, [], map, vec_items, Ok, Err, Result}
use Rattle.message.specs.declared.refusal.Refusal.{Refusal}
use Rattle.message.specs.Format.{Msg, layout}
use Rattle.message.specs.Buffers.{Grown}
use Rattle.part.specs.declared.place.Place.{Place}
use Rattle.journal.specs.Records.{Rec, bytes_of}
use Rattle.machine.specs.declared.effects.Effects as code
use Rattle.machine.specs.declared.notice.Notice.{Notice}
use Rattle.machine.specs.declared.notice.Notice.TheVariants as notice
use Rattle.machine.specs.Gains.{GainedBy}
use Rattle.machine.specs.Outboxes.{sent, Sent}

-- what a writer is told of a write, in numbers
pub data Note : Type 0 where
  In : (place number : ℕ) → Note
  Void : (place number : ℕ) → Note

abbrev pub note_of : Notice → Note
note_of (notice.In p n) = In p.at n
note_of (notice.Void p n) = Void p.at n

-- the records of the step; the messages that it sends; what writers are told; the parts of which
-- the copies are shown; and the answer
pub record Effect : Type 0 where
  pub records : List Rec
  pub sends : List Msg
  pub tells : List Note
  pub shows : List ℕ
  pub answer : Result (Unit {0}) Refusal

-- done, and nothing comes of it
abbrev pub nothing : Effect
nothing = record { records = []; sends = []; tells = []; shows = []; answer = Ok tt }

abbrev pub refused : Refusal → Effect
refused r = record nothing { answer = Err r }

abbrev pub has_failed : code.Effects → Bool
has_failed o = o.records.failed || (o.sends.buffer.failed || (o.tells.failed || o.shows.failed))

pub record IsEmpty (o : code.Effects) : Type 0 where
  pub records : vec_items o.records.bytes ≡ []
  pub sends : sent o.sends ≡ []
  pub tells : vec_items o.tells.items ≡ []
  pub shows : vec_items o.shows.items ≡ []
  pub failed : has_failed o ≡ false

abbrev pub place_at : Place → ℕ
place_at q = q.at

-- the code's effects have grown by what comes of a step, and the code gave its answer
pub record Gave (e : Effect) (was is : code.Effects) (r : Result (Unit {0}) Refusal) : Type 0 where
  pub records : Grown was.records is.records (bytes_of e.records)
  pub sends : Sent was.sends is.sends (map layout e.sends)
  pub tells : GainedBy note_of was.tells is.tells e.tells
  pub shows : GainedBy place_at was.shows is.shows e.shows
  pub answer : r ≡ e.answer

-- the code's effects are exactly what comes of a step, and the code gave its answer
pub record Gives (e : Effect) (o : code.Effects) (r : Result (Unit {0}) Refusal) : Type 0 where
  pub records : vec_items o.records.bytes ≡ bytes_of e.records
  pub sends : sent o.sends ≡ map layout e.sends
  pub tells : map note_of (vec_items o.tells.items) ≡ e.tells
  pub shows : map place_at (vec_items o.shows.items) ≡ e.shows
  pub failed : has_failed o ≡ false
  pub answer : r ≡ e.answer
