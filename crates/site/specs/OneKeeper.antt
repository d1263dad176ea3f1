-- What the keeper of a site is in the world, and what each step leaves of it.
-- Assumes nothing.
use Rattle.std.specs.Prelude.{◌≡◌, ℕ, Bool, true, false, List, Some, None, Option}
use Rattle.journal.specs.Memory.{disk_of}
use Rattle.lender.specs.declared.answer.Reply.{Reply}
use Rattle.lender.specs.declared.keeper.Keeper.{Keeper}
use Rattle.lender.specs.Book.{keeper_book, keeper_parts}
use Rattle.lender.specs.Replies.{effect}
use Rattle.world.specs.World.{Lender, keeper_down, serve_effect, serve_leaves, torn_file}
use Rattle.site.specs.declared.keeper_node.KeeperNode.{KeeperNode}

-- a keeper with this memory and this journal; without memory it is down
abbrev pub lender_with : Option Keeper → (long : ℕ) → (file : List ℕ) → Lender
lender_with None l f = keeper_down l f
lender_with (Some k) l f = record { book = keeper_book k; parts = keeper_parts k; up = true; file = f }

abbrev pub lender_of : KeeperNode → Lender
lender_of n = lender_with n.memory n.long (disk_of n.journal).appended

-- after a message: it was up, this came of it, and this is left; or it was down, and nothing has changed
abbrev pub Served : (was is : KeeperNode) → (clock : ℕ) → (bytes : List ℕ) → Option Reply → Type 0
Served was is c bs None = ((lender_of was).up ≡ false) × (lender_of is ≡ lender_of was)
Served was is c bs (Some r) =
    ((lender_of was).up ≡ true)
    × (effect (lender_of is).parts r ≡ serve_effect c bs (lender_of was))
    × (lender_of is ≡ serve_leaves c bs (lender_of was))

-- after a message in whose midst it stopped: its journal has grown by so many bytes; or it was down, and nothing has changed
abbrev pub ServedTorn : (was is : KeeperNode) → (clock : ℕ) → (bytes : List ℕ) → (left : ℕ) → (up : Bool) → Type 0
ServedTorn was is c bs n false = ((lender_of was).up ≡ false) × (lender_of is ≡ lender_of was)
ServedTorn was is c bs n true =
    ((lender_of was).up ≡ true) × (lender_of is ≡ keeper_down was.long (torn_file (lender_of was).file (serve_effect c bs (lender_of was)).records n))
