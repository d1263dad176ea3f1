-- What a session is when it was opened, and what is left of a file of which none was made.
use Rattle.std.specs.Prelude.{◌≡◌, ◌⊎◌, List, ℕ, true}
use Rattle.journal.specs.declared.record.Owner.{Owner}
use Rattle.journal.specs.declared.replay.OpenError.{OpenError}
use Rattle.journal.specs.declared.replay.OpenError.TheVariants as why
use Rattle.journal.specs.declared.source.file.CutError.{CutError}
use Rattle.journal.specs.declared.source.file.CutError.TheVariants as uncut
use Rattle.journal.specs.declared.store.told.Told.{Told}
use Rattle.journal.specs.Reading.{Refused}
use Rattle.journal.specs.Records.{Rec, bytes_of, records_of}
use Rattle.journal.specs.Made.{IsMade}
use Rattle.machine.specs.declared.node.Node.{Node}
use Rattle.machine.specs.Nodes.{State, asleep}
use Rattle.startup.specs.declared.session.Session.{Session}
use Rattle.startup.specs.declared.unopened.Unopened.{Unopened}

-- its machine has these terms, is what the file's records make, and has not come up; the file has the
-- whole records that were found in it and nothing else, all on the disk; and its clock was not read yet
pub record Began {M S P T D V : Type 0} (o : Owner) (redo : D → Rec → D) (fresh : D)
    (state : Node M S → State T D V) (found : S → List ℕ) (terms : T) (s : Session M S P)
    : Type 0 where
  pub durable : D
  pub machine : (state s.node).machine ≡ asleep terms durable
  pub made : IsMade o redo fresh durable (state s.node).disk.appended
  pub cut : (state s.node).disk.appended ≡ bytes_of (records_of o (found s.node.store))
  pub safe : (state s.node).disk.synced ≡ (state s.node).disk.appended
  pub last : s.last ≡ 0

-- the file that was locked has all that was found in it, on the disk
abbrev pub IsLeft : Told → Type 0
IsLeft f = (f.appended ≡ f.found) × (f.synced ≡ f.found) × (f.locked ≡ true)

-- what is known of a file that was not cut
abbrev pub told_by : CutError → Told
told_by (uncut.Unread f) = f
told_by (uncut.Failed f) = f

-- what is left of a file of which no session was made: all that was found in it; or, where the disk
-- failed, that or its whole records
abbrev pub Spared : Owner → OpenError → Told → Type 0
Spared o why.NoMemory f = IsLeft f
Spared o (why.Malformed p) f = (p ≡ o) × Refused o f.found × IsLeft f
Spared o (why.Store e) f =
    (f.appended ≡ f.found) ⊎ (f.appended ≡ bytes_of (records_of o f.found))

abbrev pub NotBegun : Owner → Unopened → Type 0
NotBegun o u = Spared o u.why u.known
