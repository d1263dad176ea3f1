-- What the keeper's memory stands for.
-- Assumes nothing.
use Rattle.std.specs.Prelude.{ℕ, List, vec_items, slice_index_or}
use Rattle.lease.specs.Tables.{leases}
use Rattle.lender.specs.declared.numbers.Numbers.{Numbers}
use Rattle.lender.specs.declared.lender.Lender.{Lender}
use Rattle.part.specs.Parts.{parts}
use Rattle.lender.specs.declared.keeper.Keeper.{Keeper}
use Rattle.lender.specs.Numbering.{no_numbers, counts_at}
use Rattle.lender.specs.Rules.{Book}

abbrev pub done_of : List Numbers → ℕ → ℕ → ℕ
done_of ns q i = (counts_at (slice_index_or ns q no_numbers) i).done

abbrev pub void_of : List Numbers → ℕ → ℕ → ℕ
void_of ns q i = (counts_at (slice_index_or ns q no_numbers) i).voided

abbrev pub book : Lender → Book
book k =
    record { done = done_of (vec_items k.numbers); void = void_of (vec_items k.numbers); leases = leases k.table; quiet = k.quiet; long = k.long }

abbrev pub keeper_book : Keeper → Book
keeper_book k = book k.lender

abbrev pub keeper_parts : Keeper → ℕ → List ℕ
keeper_parts k = parts k.files
