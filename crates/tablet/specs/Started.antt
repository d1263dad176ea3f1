-- What a tablet's program is when it was opened.
use Rattle.std.specs.Prelude.{ℕ}
use Rattle.part.specs.declared.who.Who.{Who}
use Rattle.journal.specs.declared.record.Owner.TheVariants as owner
use Rattle.journal.specs.declared.store.file.FileStore.{FileStore}
use Rattle.journal.specs.Told.{told}
use Rattle.machine.specs.Nodes.{state_of}
use Rattle.borrowing.specs.declared.tablet.Tablet.{Tablet}
use Rattle.borrowing.specs.Tablets.{terms, durable, volatile}
use Rattle.borrowing.specs.Rules.{fresh, redo}
use Rattle.startup.specs.declared.session.Session.{Session}
use Rattle.startup.specs.Openings.{Began}

-- this borrower, whose copies are valid so long, from what the file has; it has not come up
abbrev pub Started : {P : Type 0} → Who → (short : ℕ) → Session Tablet FileStore P → Type 0
Started w s x =
    Began owner.Borrower redo fresh (state_of terms durable volatile (λ f. told f.told))
    (λ f. f.told.found) (record { who = w.id; short = s }) x
