-- The numbers that a tablet has on file are those that its journal says, after coming up, after every call and every message.
-- Assumes nothing.
use Rattle.std.specs.Prelude.{◌≡◌, ℕ, List, [], ◌∷◌}
use Rattle.part.specs.Parts.{at_1}
use Rattle.journal.specs.declared.record.Owner.TheVariants as owner
use Rattle.journal.specs.Records.{Rec, Applied, VoidUpTo, Numbers, bytes_of, records_of}
use Rattle.borrower.specs.declared.hold.OnFile.{OnFile}
use Rattle.borrower.specs.declared.tablet.Tablet.{Tablet}
use Rattle.borrower.specs.Tablets.{filed_at, no_numbers}

-- the numbers that records say, one after another: the last of a part stand
abbrev pub said : List Rec → (ℕ → OnFile) → ℕ → OnFile
said [] fs = fs
said (Numbers q a w ∷ rs) fs = said rs (at_1 q (record { ask = a; write = w }) fs)
said (Applied i q n v ∷ rs) fs = said rs fs
said (VoidUpTo i q n ∷ rs) fs = said rs fs

-- those that the whole records of a journal say
abbrev pub numbers_in : (file : List ℕ) → ℕ → OnFile
numbers_in file = said (records_of owner.Borrower file) (λ q. no_numbers)

-- a journal of whole records, and the numbers that they say
pub record Holds (fs : ℕ → OnFile) (file : List ℕ) : Type 0 where
  pub whole : bytes_of (records_of owner.Borrower file) ≡ file
  pub says : fs ≡ numbers_in file

abbrev pub OnDisk : Tablet → List ℕ → Type 0
OnDisk t file = Holds (filed_at t) file
