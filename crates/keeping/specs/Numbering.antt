-- The numbers of one part.
use Rattle.std.specs.Prelude.{ℕ, replicate, slice_index_or}
use Rattle.keeping.specs.declared.numbers.Counts.{Counts}
use Rattle.keeping.specs.declared.numbers.Numbers.{Numbers}

-- no write is applied, and none is void
abbrev pub no_counts : Counts
no_counts = record { done = 0; voided = 0 }

abbrev pub no_numbers : Numbers
no_numbers = record { counts = replicate 32 no_counts }

abbrev pub counts_at : Numbers → ℕ → Counts
counts_at k i = slice_index_or k.counts i no_counts
