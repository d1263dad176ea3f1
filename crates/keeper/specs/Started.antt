-- What the keeper's program is when it was opened.
use Rattle.std.specs.Prelude.{◌≡◌, ℕ, List}
use Rattle.journal.specs.declared.record.Owner.TheVariants as owner
use Rattle.journal.specs.declared.store.file.FileStore.{FileStore}
use Rattle.journal.specs.Told.{told}
use Rattle.machine.specs.Nodes.{state_of}
use Rattle.keeping.specs.declared.keeper.Keeper.{Keeper}
use Rattle.keeping.specs.Keepers.{long, durable, volatile}
use Rattle.keeping.specs.Rules.{fresh, redo}
use Rattle.startup.specs.declared.session.Session.{Session}
use Rattle.startup.specs.Openings.{Began}

-- a keeper whose leases run so long, from what the file has; it has not come up
abbrev pub Started : {P : Type 0} → (long : ℕ) → Session Keeper FileStore P → Type 0
Started l s =
    Began owner.Keeper redo fresh (state_of long durable volatile (λ f. told f.told))
    (λ f. f.told.found) l s
