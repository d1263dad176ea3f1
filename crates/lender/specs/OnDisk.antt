-- What the keeper's memory has is what its journal replays to, after every message and after coming up.
-- Assumes nothing.
use Rattle.std.specs.Prelude.{◌≡◌, ℕ, List, ◌++◌, take, Ok, Err, Result}
use Rattle.journal.specs.declared.record.Owner.TheVariants as owner
use Rattle.journal.specs.declared.replay.OpenError.{OpenError}
use Rattle.journal.specs.declared.replay.OpenError.TheVariants as why
use Rattle.journal.specs.Records.{records_of, bytes_of}
use Rattle.journal.specs.Reading.{Cut, Refused}
use Rattle.lender.specs.declared.keeper.Keeper.{Keeper}
use Rattle.lender.specs.Book.{keeper_book, keeper_parts}
use Rattle.lender.specs.Replay.{Memory, memory, replay, nothing}

-- a journal of whole records, and the memory that they make
pub record Holds (s : Memory) (file : List ℕ) : Type 0 where
  pub whole : bytes_of (records_of owner.Keeper file) ≡ file
  pub made : s ≡ replay (records_of owner.Keeper file) nothing

abbrev pub OnDisk : Keeper → List ℕ → Type 0
OnDisk k file = Holds (memory (keeper_book k) (keeper_parts k)) file

-- what a journal that is read gives, of which these bytes come behind what was read before: a keeper whose memory is what its whole records
-- make, and where they end; one with something else in it is refused
abbrev pub OpenedAs : (was is : List ℕ) (long : ℕ) → Result (Keeper × ℕ) OpenError → Type 0
OpenedAs was is l (Ok x) = (bs : List ℕ) × (is ≡ was ++ bs) × Cut owner.Keeper bs x.1 × OnDisk x.0 (take x.1 bs) × ((keeper_book x.0).long ≡ l)
OpenedAs was is l (Err why.NoMemory) = is ≡ was
OpenedAs was is l (Err (why.Malformed o)) = (o ≡ owner.Keeper) × (bs : List ℕ) × (is ≡ was ++ bs) × Refused owner.Keeper bs
OpenedAs was is l (Err (why.Store e)) = Unit {0}
