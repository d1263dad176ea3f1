-- What the numbers on file in the code say of each part.
use Rattle.std.specs.Prelude.{◌≡◌, ℕ, fold, vec_items, slice_index_or}
use Rattle.message.specs.Buffers.{Grown}
use Rattle.journal.specs.declared.record.Owner.TheVariants.{Borrower}
use Rattle.journal.specs.Records.{AllSound, bytes_of}
use Rattle.machine.specs.declared.effects.Effects.{Effects}
use Rattle.borrowing.specs.declared.hold.Part.{Part}
use Rattle.borrowing.specs.declared.durable.Durable as code
use Rattle.borrowing.specs.Rules.{Durable, no_numbers, redo, due}

-- the numbers on file of each part
abbrev pub durable_of : code.Durable → Durable
durable_of d q = slice_index_or (vec_items d.numbers) q no_numbers

-- where a step made p' of p, the part at q, and a record is due, it was given, and changed what is on file
pub record Kept (q : ℕ) (p p' : Part) (was is : code.Durable) (out out' : Effects) : Type 0 where
  pub filed : durable_of is ≡ fold redo (durable_of was) (due q p (durable_of was q) p')
  pub records : Grown out.records out'.records (bytes_of (due q p (durable_of was q) p'))
  pub sound : AllSound Borrower (due q p (durable_of was q) p')
  pub rest : out' ≡ record out { records = out'.records }
