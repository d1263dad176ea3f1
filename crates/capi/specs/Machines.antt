-- What the calls do to a keeper or a tablet behind a handle.
use Rattle.std.specs.Prelude.{◌≡◌, ℕ, List, [], Some, None, Ok, Err, Option, Result}
use Rattle.message.specs.declared.refusal.Refusal.{Refusal}
use Rattle.journal.specs.declared.record.Owner.TheVariants as owner
use Rattle.machine.specs.Inputs.{Input, Came, Called, Show}
use Rattle.machine.specs.Nodes.{Has}
use Rattle.keeping.specs.declared.keeper.Keeper.{Keeper}
use Rattle.keeping.specs.Keepers as keepers
use Rattle.keeping.specs.Rules as keeping
use Rattle.borrowing.specs.declared.tablet.Tablet.{Tablet}
use Rattle.borrowing.specs.Tablets as tablets
use Rattle.borrowing.specs.Rules as borrowing
use Rattle.capi.specs.declared.content.Machine.{Machine}
use Rattle.capi.specs.declared.content.Machine.TheVariants as holds
use Rattle.capi.specs.declared.misuse.Misuse.{Misuse}
use Rattle.capi.specs.declared.misuse.Misuse.TheVariants as why
use Rattle.capi.specs.declared.reply.Answer.{Answer}
use Rattle.capi.specs.declared.run.Run.{Run}
use Rattle.capi.specs.Buffers.{copied}
use Rattle.capi.specs.Numbers.{answer_number}
use Rattle.capi.specs.Runs.{has, CameUp, Ran}

abbrev pub keeper_has : Run Keeper → Has ℕ keeping.Durable keeping.Volatile
keeper_has = has keepers.long keepers.durable keepers.volatile

abbrev pub tablet_has : Run Tablet → Has borrowing.Terms borrowing.Durable borrowing.Volatile
tablet_has = has tablets.terms tablets.durable tablets.volatile

-- a keeper came up, or is refused, and the number says so
pub record RaisedAs (clock : ℕ) (was is : Run Keeper) (number : ℕ) : Type 0 where
  pub answer : Result (Unit {0}) Refusal
  pub came : CameUp keeping.redo keeping.wakes clock (keeper_has was) (keeper_has is) answer
  pub told : number ≡ answer_number answer

-- or it is no keeper, and all is as it was
abbrev pub KeeperRaised : (clock : ℕ) → (was is : Machine) → Result ℕ Misuse → Type 0
KeeperRaised c (holds.Keeper x) (holds.Keeper y) (Ok n) = RaisedAs c x y n
KeeperRaised c (holds.Keeper x) is r = ⊥
KeeperRaised c (holds.Tablet t) is r = (r ≡ Err why.Handle) × (is ≡ holds.Tablet t)

-- a message came to a keeper; or it is no keeper, and all is as it was
abbrev pub KeeperDid : (clock : ℕ) → (bytes : List ℕ) → (was is : Machine) → Result Answer Misuse → (filed_was filed_is sent_was sent_is : List ℕ) → Type 0
KeeperDid c bs (holds.Keeper x) (holds.Keeper y) r fw fi sw si =
    Ran owner.Keeper keeping.redo (λ l. keeping.step l c (Came bs)) keeper_has x y r fw fi sw si
KeeperDid c bs (holds.Keeper x) (holds.Tablet t) r fw fi sw si = ⊥
KeeperDid c bs (holds.Tablet t) is r fw fi sw si = (r ≡ Err why.Handle) × (is ≡ holds.Tablet t) × (fi ≡ fw) × (si ≡ sw)

-- a tablet does this, or it is no tablet, and all is as it was
abbrev pub IfTablet : (P : Run Tablet → Run Tablet → Type 0) → (was is : Machine) → Result Answer Misuse → (same : Type 0) → Type 0
IfTablet P (holds.Tablet t) (holds.Tablet u) r s = P t u
IfTablet P (holds.Tablet t) (holds.Keeper x) r s = ⊥
IfTablet P (holds.Keeper x) is r s = (r ≡ Err why.Handle) × (is ≡ holds.Keeper x) × s

-- something came to a tablet
abbrev pub TabletRan : (clock : ℕ) → Input → (was is : Run Tablet) → Result Answer Misuse → (filed_was filed_is sent_was sent_is : List ℕ) → Type 0
TabletRan c x = Ran owner.Borrower borrowing.redo (λ t. borrowing.step t c x) tablet_has

abbrev pub TabletDid : (clock : ℕ) → Input → (was is : Machine) → Result Answer Misuse → (filed_was filed_is sent_was sent_is : List ℕ) → Type 0
TabletDid c x was is r fw fi sw si = IfTablet (λ t u. TabletRan c x t u r fw fi sw si) was is r ((fi ≡ fw) × (si ≡ sw))

-- the copy of a part, if it is up
abbrev pub copy_of : Option borrowing.Volatile → (place : ℕ) → List ℕ
copy_of None q = []
copy_of (Some v) q = v.copies q

-- a copy is in front of the buffer where the call is answered by 0; by any other number the buffer is as it was
abbrev pub Showing : (is : Run Tablet) → (place : ℕ) → Result Answer Misuse → (copy_was copy_is : List ℕ) → Type 0
Showing u q (Ok a) cw ci = ci ≡ copied a.number (copy_of (tablets.volatile u.machine) q) cw
Showing u q (Err e) cw ci = ci ≡ cw

-- a call to show: nothing is sent
pub record Showed (clock place : ℕ) (was is : Run Tablet) (r : Result Answer Misuse) (filed_was filed_is copy_was copy_is : List ℕ) : Type 0 where
  pub ran : TabletRan clock (Called (Show place)) was is r filed_was filed_is [] []
  pub copy : Showing is place r copy_was copy_is

abbrev pub TabletShowed : (clock place : ℕ) → (was is : Machine) → Result Answer Misuse → (filed_was filed_is copy_was copy_is : List ℕ) → Type 0
TabletShowed c q was is r fw fi cw ci = IfTablet (λ t u. Showed c q t u r fw fi cw ci) was is r ((fi ≡ fw) × (ci ≡ cw))
