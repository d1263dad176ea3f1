-- What opening makes of the bytes of a journal, and what the host has of it.
use Rattle.std.specs.Prelude.{◌≡◌, ℕ, ◌≤◌, List, take, Some, None, Ok, Err, Option, Result}
use Rattle.part.specs.Parts.{blank}
use Rattle.journal.specs.declared.record.Owner.{Owner}
use Rattle.journal.specs.declared.record.Owner.TheVariants as owner
use Rattle.journal.specs.Made.{IsMade}
use Rattle.journal.specs.Reading.{Cut, Refused}
use Rattle.journal.specs.Records.{Rec}
use Rattle.machine.specs.Nodes.{Has}
use Rattle.keeping.specs.Rules as keeping
use Rattle.borrowing.specs.Parts.{come_up}
use Rattle.borrowing.specs.Rules as borrowing
use Rattle.capi.specs.declared.content.Machine.{Machine}
use Rattle.capi.specs.declared.content.Machine.TheVariants as holds
use Rattle.capi.specs.declared.misuse.Misuse.{Misuse}
use Rattle.capi.specs.declared.misuse.Misuse.TheVariants as why
use Rattle.capi.specs.Machines.{keeper_has, tablet_has}

-- why nothing was opened: there is no memory, or these bytes are to be refused
abbrev pub NotOpened : Owner → (journal : List ℕ) → Misuse → Type 0
NotOpened o bs why.Handle = ⊥
NotOpened o bs why.Argument = ⊥
NotOpened o bs why.NoMemory = Unit {0}
NotOpened o bs why.NoJournal = Refused o bs

module _ (o : Owner) {T D V : Type 0} (redo : D → Rec → D) (fresh : D) (t : T) where
  -- a machine with these terms, which has what the whole records make; and how many bytes these have: there the host cuts the file
  pub record MachineOf (journal : List ℕ) (m : Has T D V) (n : ℕ) : Type 0 where
    pub cut : Cut o journal n
    pub made : IsMade o redo fresh m.durable (take n journal)
    pub terms : m.terms ≡ t

  -- of bytes that are a journal it gives such a machine, which has not come up; other bytes are refused
  abbrev pub OpenedFrom : {R : Type 0} → (has : R → Has T D V) → (journal : List ℕ) → Result (R × ℕ) Misuse → Type 0
  OpenedFrom has bs (Ok x) = MachineOf bs (has x.0) x.1 × ((has x.0).volatile ≡ None)
  OpenedFrom has bs (Err e) = NotOpened o bs e

-- an empty handle holds a keeper from then on, which is not up yet; of a call that was not made the handle is as it was
abbrev pub KeeperOpens : (was is : Option Machine) (long : ℕ) (journal : List ℕ) → Result ℕ Misuse → Type 0
KeeperOpens (Some m) is l bs r = (r ≡ Err why.Handle) × (is ≡ Some m)
KeeperOpens None None l bs (Ok n) = ⊥
KeeperOpens None (Some (holds.Keeper x)) l bs (Ok n) =
    MachineOf owner.Keeper keeping.redo keeping.fresh l bs (keeper_has x) n × ((keeper_has x).volatile ≡ None)
KeeperOpens None (Some (holds.Tablet t)) l bs (Ok n) = ⊥
KeeperOpens None is l bs (Err e) = (is ≡ None) × NotOpened owner.Keeper bs e

-- a tablet that came up: nothing is held
abbrev pub woken : borrowing.Durable → borrowing.Volatile
woken d = record { parts = λ q. come_up (d q); copies = blank }

-- an empty handle holds it from then on, for a borrower that there is
abbrev pub TabletOpens : (was is : Option Machine) (who short : ℕ) (journal : List ℕ) → Result ℕ Misuse → Type 0
TabletOpens (Some m) is w s bs r = (r ≡ Err why.Handle) × (is ≡ Some m)
TabletOpens None None w s bs (Ok n) = ⊥
TabletOpens None (Some (holds.Tablet t)) w s bs (Ok n) =
    MachineOf owner.Borrower borrowing.redo borrowing.fresh (record { who = w; short = s }) bs (tablet_has t) n
    × ((tablet_has t).volatile ≡ Some (woken (tablet_has t).durable))
TabletOpens None (Some (holds.Keeper x)) w s bs (Ok n) = ⊥
TabletOpens None is w s bs (Err why.Argument) = (is ≡ None) × (32 ≤ w)
TabletOpens None is w s bs (Err e) = (is ≡ None) × NotOpened owner.Borrower bs e
