-- What the records that some bytes begin with promise: a journal says what was appended to it, also where a stop cut it short.
-- Assumes nothing.
use Rattle.std.specs.Prelude.{◌≡◌, ℕ, ◌-◌, ◌<◌, cond, if◌then◌else◌, List, [], ◌∷◌, ◌++◌, length, take, Ok, Result, nat_lt}
use Rattle.message.specs.declared.form.Malformed.{Malformed}
use Rattle.journal.specs.declared.record.Owner.{Owner}
use Rattle.journal.specs.Records.{Rec, layout, Sound, AllSound, bytes_of, Torn, NoRecord, records_of, rest_of}
use Rattle.journal.specs.Reading.{Cut, Judged}

-- records are read back one after another, whatever follows them
abbrev pub ReadBack : Type 0
ReadBack = (o : Owner) (rs : List Rec) → AllSound o rs → (t : List ℕ) → records_of o (bytes_of rs ++ t) ≡ rs ++ records_of o t

-- a record that is appended whole is read back
abbrev pub AppendRead : Type 0
AppendRead = (o : Owner) (rs : List Rec) → AllSound o rs → (r : Rec) → Sound o r → records_of o (bytes_of rs ++ layout r) ≡ rs ++ (r ∷ [])

-- a proper first part of a record is torn, and leaves the records before it
abbrev pub TornLeaves : Type 0
TornLeaves = (o : Owner) (rs : List Rec) → AllSound o rs → (r : Rec) → Sound o r → (k : ℕ) → k < length (layout r)
    → (records_of o (bytes_of rs ++ take k (layout r)) ≡ rs) × Torn o (take k (layout r))

-- a stop while a record is appended leaves the records before it, and the record if all of its bytes are there
abbrev pub StopLeaves : Type 0
StopLeaves = (o : Owner) (rs : List Rec) → AllSound o rs → (r : Rec) → Sound o r → (k : ℕ)
    → records_of o (bytes_of rs ++ take k (layout r)) ≡ cond (nat_lt k (length (layout r))) rs (rs ++ (r ∷ []))

-- the first records of which all bytes are among the first k
abbrev pub whole_in : (k : ℕ) → List Rec → List Rec
whole_in k [] = []
whole_in k (r ∷ rs) = (if nat_lt k (length (layout r)) then [] else r ∷ whole_in (k - length (layout r)) rs)

-- a stop while several records are appended leaves the records before them, and of them
-- the first, of which all bytes are there
abbrev pub StopLeavesFirst : Type 0
StopLeavesFirst = (o : Owner) (rs more : List Rec) → AllSound o rs → AllSound o more → (k : ℕ)
    → records_of o (bytes_of rs ++ take k (bytes_of more)) ≡ rs ++ whole_in k more

-- the records of any bytes are their first part, each may stand in the journal, and no record follows
abbrev pub FrontIsRecords : Type 0
FrontIsRecords = (o : Owner) (bs : List ℕ) → AllSound o (records_of o bs)
    × (take (length (bytes_of (records_of o bs))) bs ≡ bytes_of (records_of o bs)) × NoRecord o (rest_of o bs)

-- a journal with a torn end is cut after the last whole record
abbrev pub TornIsCut : Type 0
TornIsCut = (o : Owner) (rs : List Rec) → AllSound o rs → (t : List ℕ) → Torn o t → (res : Result ℕ Malformed) → Judged o (bytes_of rs ++ t) res
    → res ≡ Ok (length (bytes_of rs))

-- what is cut has the same records, and is not cut again
abbrev pub CutOnce : Type 0
CutOnce = (o : Owner) (bs : List ℕ) (n : ℕ) → Cut o bs n
    → (records_of o (take n bs) ≡ records_of o bs) × ((res : Result ℕ Malformed) → Judged o (take n bs) res → res ≡ Ok n)
