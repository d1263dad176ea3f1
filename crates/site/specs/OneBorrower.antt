-- What the borrowers of a site are in the world, and what each step leaves of one.
-- Assumes nothing.
use Rattle.std.specs.Prelude.{◌≡◌, ℕ, true, false, List, [], Some, None, Option, Bool}
use Rattle.journal.specs.Memory.{disk_of}
use Rattle.borrower.specs.declared.outcome.Call.{Call}
use Rattle.borrower.specs.declared.outcome.Outcome.{Outcome}
use Rattle.borrower.specs.declared.tablet.Tablet.{Tablet}
use Rattle.borrower.specs.Tablets.{part_at, filed_at, copy_at}
use Rattle.borrower.specs.Outcomes.{effect}
use Rattle.world.specs.World.{Borrower, borrower_down, calls_effect, calls_leave, hear_effect, hear_leaves, torn_file}
use Rattle.site.specs.declared.borrower_node.BorrowerNode.{BorrowerNode}

-- a borrower with this tablet and this journal; without a tablet it is down
abbrev pub borrower_with : Option Tablet → (file : List ℕ) → Borrower
borrower_with None f = borrower_down f
borrower_with (Some t) f = record { parts = part_at t; filed = filed_at t; copies = copy_at t; up = true; file = f }

abbrev pub borrower_of : BorrowerNode → Borrower
borrower_of n = borrower_with n.tablet (disk_of n.journal).appended

-- it is the same borrower
abbrev pub Keeps : (was is : BorrowerNode) → Type 0
Keeps was is = (is.who ≡ was.who) × (is.short ≡ was.short)

-- after a call: it was up, this came of it, and this is left; or it was down, and nothing has changed
abbrev pub Called : (was is : BorrowerNode) → (clock place : ℕ) → Call → Option Outcome → Type 0
Called was is c q k None = ((borrower_of was).up ≡ false) × (borrower_of is ≡ borrower_of was)
Called was is c q k (Some o) =
    ((borrower_of was).up ≡ true)
    × ((v : List ℕ) → effect v o ≡ calls_effect was.who.id q c was.short k v (borrower_of was))
    × ((v : List ℕ) → borrower_of is ≡ calls_leave was.who.id q c was.short k v (borrower_of was))

-- after a call in whose midst it stopped: its journal has grown by so many bytes; or it was down, and nothing has changed
abbrev pub CalledTorn : (was is : BorrowerNode) → (clock place : ℕ) → Call → (left : ℕ) → (up : Bool) → Type 0
CalledTorn was is c q k n false = ((borrower_of was).up ≡ false) × (borrower_of is ≡ borrower_of was)
CalledTorn was is c q k n true =
    ((borrower_of was).up ≡ true)
    × ((v : List ℕ) → borrower_of is ≡ borrower_down (torn_file (borrower_of was).file (calls_effect was.who.id q c was.short k v (borrower_of was)).records n))

-- the same of a message
abbrev pub Heard : (was is : BorrowerNode) → (bytes : List ℕ) → Option Outcome → Type 0
Heard was is bs None = ((borrower_of was).up ≡ false) × (borrower_of is ≡ borrower_of was)
Heard was is bs (Some o) =
    ((borrower_of was).up ≡ true)
    × (effect [] o ≡ hear_effect was.who.id bs (borrower_of was))
    × (borrower_of is ≡ hear_leaves was.who.id bs (borrower_of was))

abbrev pub HeardTorn : (was is : BorrowerNode) → (bytes : List ℕ) → (left : ℕ) → (up : Bool) → Type 0
HeardTorn was is bs n false = ((borrower_of was).up ≡ false) × (borrower_of is ≡ borrower_of was)
HeardTorn was is bs n true =
    ((borrower_of was).up ≡ true)
    × (borrower_of is ≡ borrower_down (torn_file (borrower_of was).file (hear_effect was.who.id bs (borrower_of was)).records n))
