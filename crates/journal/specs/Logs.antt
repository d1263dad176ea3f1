-- What is appended before what a step sends or shows may leave.
-- Assumes nothing.
use Rattle.std.specs.Prelude.{◌≡◌, ℕ, List, [], ◌∷◌, ◌++◌, Some, None, Option}
use Rattle.journal.specs.declared.record.Record.{Record}
use Rattle.journal.specs.Records.{Rec, recorded, bytes_of}
use Rattle.journal.specs.Stores.{Disk}

-- the records of a step, with the bytes v of the part
abbrev pub logged : (v : List ℕ) → Option Record → List Rec
logged v None = []
logged v (Some r) = recorded v r ∷ []

-- the file has grown by exactly these records, and nothing more is on disk for it
pub record Appended (rs : List Rec) (was is : Disk) : Type 0 where
  pub grown : is.appended ≡ was.appended ++ bytes_of rs
  pub synced : is.synced ≡ was.synced

-- the file has grown by exactly these records, and, if all was synced before, all is synced now
pub record Logged (rs : List Rec) (was is : Disk) : Type 0 where
  pub grown : is.appended ≡ was.appended ++ bytes_of rs
  pub synced : was.synced ≡ was.appended → is.synced ≡ is.appended
