-- What the calls do to what a handle holds, and when they are not made.
use Rattle.std.specs.Prelude.{◌≡◌, ℕ, ◌<◌, ◌⊎◌, List, length, Some, None, Err, Option, Result}
use Rattle.machine.specs.Inputs.{Input}
use Rattle.capi.specs.declared.content.Machine.{Machine}
use Rattle.capi.specs.declared.misuse.Misuse.{Misuse}
use Rattle.capi.specs.declared.misuse.Misuse.TheVariants as why
use Rattle.capi.specs.declared.reply.Answer.{Answer}
use Rattle.capi.specs.Handles.{kept_after}
use Rattle.capi.specs.Machines.{KeeperRaised, KeeperDid, TabletDid, TabletShowed}

-- a buffer has less room than is said
abbrev pub TooShort : (record_room room : ℕ) → (filed other : List ℕ) → Type 0
TooShort m n f s = (length f < m) ⊎ (length s < n)

-- a handle that holds nothing goes on holding nothing
abbrev pub KeeperRaises : (clock : ℕ) → (was is : Option Machine) → Result ℕ Misuse → Type 0
KeeperRaises c None is r = (r ≡ Err why.Handle) × (is ≡ None)
KeeperRaises c (Some m) (Some n) r = KeeperRaised c m n r
KeeperRaises c (Some m) None r = ⊥

-- A CALL WITH BUFFERS: the machine behind the handle did this, and is held from then on, but where there was no memory for what
-- came of it: then the handle is empty, and the buffers are as they were; with bad arguments, and where the handle is empty, all is
-- as it was
abbrev pub Behind : (P : (was is : Machine) → Result Answer Misuse → Type 0) → (bad same : Type 0) → (was is : Option Machine) → Result Answer Misuse → Type 0
Behind P b s was is (Err why.Argument) = b × (is ≡ was) × s
Behind P b s None is r = (r ≡ Err why.Handle) × (is ≡ None) × s
Behind P b s (Some m) is r = (n : Machine) × P m n r × (is ≡ kept_after r n)

abbrev pub KeeperReceives : (clock : ℕ) → (bytes : List ℕ) → (was is : Option Machine) → Result Answer Misuse → (filed_was filed_is sent_was sent_is : List ℕ) → Type 0
KeeperReceives c bs was is r fw fi sw si =
    Behind (λ m n x. KeeperDid c bs m n x fw fi sw si) (TooShort 1032 1033 fw sw) ((fi ≡ fw) × (si ≡ sw)) was is r

-- something comes to a tablet, if the arguments name it
abbrev pub Steps : (clock : ℕ) → Option Input → (was is : Option Machine) → Result Answer Misuse → (filed_was filed_is sent_was sent_is : List ℕ) → Type 0
Steps c (Some x) was is r fw fi sw si =
    Behind (λ m n a. TabletDid c x m n a fw fi sw si) (TooShort 1032 1033 fw sw) ((fi ≡ fw) × (si ≡ sw)) was is r
Steps c None was is r fw fi sw si = (r ≡ Err why.Argument) × (is ≡ was) × (fi ≡ fw) × (si ≡ sw)

-- a call to show the part that is named, if one is
abbrev pub Shows : (clock : ℕ) → Option ℕ → (was is : Option Machine) → Result Answer Misuse → (filed_was filed_is copy_was copy_is : List ℕ) → Type 0
Shows c (Some q) was is r fw fi cw ci =
    Behind (λ m n a. TabletShowed c q m n a fw fi cw ci) (TooShort 1032 1024 fw cw) ((fi ≡ fw) × (ci ≡ cw)) was is r
Shows c None was is r fw fi cw ci = (r ≡ Err why.Argument) × (is ≡ was) × (fi ≡ fw) × (ci ≡ cw)
