-- What a tablet stands for: each part, the numbers of each in the journal, and the bytes of each copy.
-- Assumes nothing.
use Rattle.std.specs.Prelude.{ℕ, List, None, vec_items, slice_index_or}
use Rattle.part.specs.Parts.{parts}
use Rattle.borrower.specs.declared.hold.Part.{Part}
use Rattle.borrower.specs.declared.hold.OnFile.{OnFile}
use Rattle.borrower.specs.declared.tablet.Kept.{Kept}
use Rattle.borrower.specs.declared.tablet.Tablet.{Tablet}

-- a part that was never asked for
abbrev pub no_part : Part
no_part = record { ask = 0; write = 0; asked = 0; hold = None }

abbrev pub no_numbers : OnFile
no_numbers = record { ask = 0; write = 0 }

abbrev pub kept_at : Tablet → ℕ → Kept
kept_at t q = slice_index_or (vec_items t.kept) q (record { part = no_part; filed = no_numbers })

abbrev pub part_at : Tablet → ℕ → Part
part_at t q = (kept_at t q).part

abbrev pub filed_at : Tablet → ℕ → OnFile
filed_at t q = (kept_at t q).filed

abbrev pub copy_at : Tablet → ℕ → List ℕ
copy_at t = parts t.copies
