-- What the reader of a journal says of its bytes.
-- Assumes nothing.
use Rattle.std.specs.Prelude.{◌≡◌, ℕ, ◌+◌, ◌≤◌, List, ◌++◌, length, take, drop, Ok, Err, Result, Some, None, Option}
use Rattle.message.specs.declared.form.Malformed.{Malformed}
use Rattle.message.specs.Format.{carried}
use Rattle.journal.specs.declared.record.Owner.{Owner}
use Rattle.journal.specs.declared.record.Record.{Record}
use Rattle.journal.specs.declared.read.Entry.{Entry}
use Rattle.journal.specs.Records.{Rec, recorded, layout, Sound, Torn, NoRecord, bytes_of, records_of, rest_of}

-- the record of the code that ends at a place of the bytes; of a part that is applied the last 1,024 bytes before it
abbrev pub ending : (bs : List ℕ) → (end : ℕ) → Record → Rec
ending bs n r = recorded (carried (take n bs)) r

-- this record stands from the place `at` on, up to the place `end`
pub record Standing (o : Owner) (at : ℕ) (bs : List ℕ) (r : Record) (end : ℕ) : Type 0 where
  pub sound : Sound o (ending bs end r)
  pub long : end ≡ at + length (layout (ending bs end r))
  pub is : drop at bs ≡ layout (ending bs end r) ++ drop end bs

-- what stands from a place on: a record, less than the record that its first byte announces, or neither
abbrev pub Stands : Owner → (at : ℕ) → List ℕ → Result (Option Entry) Malformed → Type 0
Stands o at bs (Ok (Some e)) = Standing o at bs e.«record» e.end
Stands o at bs (Ok None) = Torn o (drop at bs)
Stands o at bs (Err x) = (Torn o (drop at bs) → ⊥) × NoRecord o (drop at bs)

-- the whole records end at this place, and what follows is torn: there the journal is to be cut
pub record Cut (o : Owner) (bs : List ℕ) (n : ℕ) : Type 0 where
  pub long : n ≡ length (bytes_of (records_of o bs))
  pub front : take n bs ≡ bytes_of (records_of o bs)
  pub within : n ≤ length bs
  pub torn : Torn o (drop n bs)

-- what follows the whole records is not torn, and no record: the journal is to be refused
abbrev pub Refused : Owner → List ℕ → Type 0
Refused o bs = (Torn o (rest_of o bs) → ⊥) × NoRecord o (rest_of o bs)

-- where a journal is to be cut, or that it is to be refused
abbrev pub Judged : Owner → List ℕ → Result ℕ Malformed → Type 0
Judged o bs (Ok n) = Cut o bs n
Judged o bs (Err e) = Refused o bs
