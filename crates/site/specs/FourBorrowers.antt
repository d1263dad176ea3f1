-- What the borrowers of a site are in the world, each by its number, and what each step leaves of them.
-- Assumes nothing.
use Rattle.std.specs.Prelude.{◌≡◌, ℕ, Bool, true, false, List, [], map, Some, None, Option, slice_index_or}
use Rattle.part.specs.Parts.{at_1}
use Rattle.borrower.specs.declared.outcome.Call.{Call}
use Rattle.borrower.specs.declared.outcome.Outcome.{Outcome}
use Rattle.borrower.specs.Outcomes.{effect}
use Rattle.world.specs.World.{Borrower, borrower_down, calls_effect, calls_leave, hear_effect, hear_leaves, torn_file}
use Rattle.site.specs.declared.borrower_node.BorrowerNode.{BorrowerNode}
use Rattle.site.specs.declared.borrowers.Borrowers.{Borrowers}
use Rattle.site.specs.OneBorrower.{borrower_of}

-- those that there are not are down for ever
abbrev pub borrowers_in : List BorrowerNode → ℕ → Borrower
borrowers_in ns i = slice_index_or (map borrower_of ns) i (borrower_down [])

abbrev pub borrowers_of : Borrowers → ℕ → Borrower
borrowers_of s = borrowers_in s.nodes

-- AFTER A STEP of borrower i, where these were the borrowers and these are

-- this is left of it, and of all else nothing has changed
abbrev pub Left : (was is : ℕ → Borrower) → (who : ℕ) → Borrower → Type 0
Left was is i b = is ≡ at_1 i b was

-- nothing came of it, since it was down: nothing has changed
abbrev pub Same : (was is : ℕ → Borrower) → (who : ℕ) → Type 0
Same was is i = ((was i).up ≡ false) × (is ≡ was)

-- after a call
abbrev pub Called : (short : ℕ) (was is : ℕ → Borrower) → (who clock place : ℕ) → Call → Option Outcome → Type 0
Called s was is i c q k None = Same was is i
Called s was is i c q k (Some o) =
    ((was i).up ≡ true)
    × ((v : List ℕ) → effect v o ≡ calls_effect i q c s k v (was i))
    × ((v : List ℕ) → Left was is i (calls_leave i q c s k v (was i)))

-- after one in whose midst it stopped
abbrev pub CalledTorn : (short : ℕ) (was is : ℕ → Borrower) → (who clock place : ℕ) → Call → (left : ℕ) → (up : Bool) → Type 0
CalledTorn s was is i c q k n false = Same was is i
CalledTorn s was is i c q k n true =
    ((was i).up ≡ true) × ((v : List ℕ) → Left was is i (borrower_down (torn_file (was i).file (calls_effect i q c s k v (was i)).records n)))

-- the same of a message
abbrev pub Heard : (was is : ℕ → Borrower) → (who : ℕ) → (bytes : List ℕ) → Option Outcome → Type 0
Heard was is i bs None = Same was is i
Heard was is i bs (Some o) = ((was i).up ≡ true) × (effect [] o ≡ hear_effect i bs (was i)) × Left was is i (hear_leaves i bs (was i))

abbrev pub HeardTorn : (was is : ℕ → Borrower) → (who : ℕ) → (bytes : List ℕ) → (left : ℕ) → (up : Bool) → Type 0
HeardTorn was is i bs n false = Same was is i
HeardTorn was is i bs n true = ((was i).up ≡ true) × Left was is i (borrower_down (torn_file (was i).file (hear_effect i bs (was i)).records n))
