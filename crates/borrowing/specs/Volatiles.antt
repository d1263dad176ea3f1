-- What the tables of the code say of each part while it is up.
use Rattle.std.specs.Prelude.{ℕ, List, None, vec_items, slice_index_or}
use Rattle.part.specs.Parts.{parts, at_1}
use Rattle.borrowing.specs.declared.hold.Part.{Part}
use Rattle.borrowing.specs.declared.volatile.Volatile as code
use Rattle.borrowing.specs.Parts.{come_up}
use Rattle.borrowing.specs.Rules.{Durable, Volatile}

-- a part that was never asked for
abbrev pub no_part : Part
no_part = record { ask = 0; write = 0; asked = 0; hold = None }

-- what is kept of each part
abbrev pub part_at : code.Volatile → ℕ → Part
part_at v q = slice_index_or (vec_items v.parts) q no_part

abbrev pub volatile_of : code.Volatile → Volatile
volatile_of v = record { parts = part_at v; copies = parts v.copies }

-- the part at q is this, or its copy is
abbrev pub with_part : (place : ℕ) → Part → Volatile → Volatile
with_part q p v = record v { parts = at_1 q p v.parts }

abbrev pub with_copy : (place : ℕ) → (bytes : List ℕ) → Volatile → Volatile
with_copy q bs v = record v { copies = at_1 q bs v.copies }

-- each part is as after coming up
abbrev pub with_all_up : Durable → Volatile → Volatile
with_all_up d v = record v { parts = λ q. come_up (d q) }
