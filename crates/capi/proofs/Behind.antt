-- What a handle holds after its machine did something.
-- Assumes nothing.
use Rattle.std.proofs.Common.{◌≡◌, ℕ, List, Some, None, Ok, Err, Option, Result, sym, subst}
use Rattle.machine.specs.Inputs.{Input}
use Rattle.capi.specs.declared.content.Machine.{Machine}
use Rattle.capi.specs.declared.content.Machine.TheVariants as holds
use Rattle.capi.specs.declared.misuse.Misuse.{Misuse}
use Rattle.capi.specs.declared.misuse.Misuse.TheVariants as why
use Rattle.capi.specs.declared.reply.Answer.{Answer}
use Rattle.capi.specs.Handles.{kept_after}
use Rattle.capi.specs.Machines.{KeeperDid, TabletDid, TabletShowed}
use Rattle.capi.specs.Hearing.{Behind, TooShort, KeeperReceives, Steps, Shows}

did : (P : (was is : Machine) → Result Answer Misuse → Type 0) (b s : Type 0) (m n : Machine) (is : Option Machine) (r : Result Answer Misuse)
    → P m n r → (P m n (Err why.Argument) → ⊥) → is ≡ kept_after r n → Behind P b s (Some m) is r
did P b s m n is (Ok a) p z k = (n, p, k)
did P b s m n is (Err why.Handle) p z k = (n, p, k)
did P b s m n is (Err why.Argument) p z k = absurd (z p)
did P b s m n is (Err why.NoMemory) p z k = (n, p, k)
did P b s m n is (Err why.NoJournal) p z k = (n, p, k)

pub behind : (P : (was is : Machine) → Result Answer Misuse → Type 0) (b s : Type 0) (m n : Machine) (was is : Option Machine) (r : Result Answer Misuse)
    → was ≡ Some m → P m n r → (P m n (Err why.Argument) → ⊥) → is ≡ kept_after r n → Behind P b s was is r
behind P b s m n was is r e p z k = subst (λ (w : Option Machine). Behind P b s w is r) (sym e) (did P b s m n is r p z k)

pub keeper_no : (c : ℕ) (bs : List ℕ) (m n : Machine) (fw fi sw si : List ℕ) → KeeperDid c bs m n (Err why.Argument) fw fi sw si → ⊥
keeper_no c bs (holds.Keeper x) (holds.Keeper y) fw fi sw si h = h
keeper_no c bs (holds.Keeper x) (holds.Tablet t) fw fi sw si h = h
keeper_no c bs (holds.Tablet t) n fw fi sw si h = let e = h.0 in cc

pub tablet_no : (c : ℕ) (x : Input) (m n : Machine) (fw fi sw si : List ℕ) → TabletDid c x m n (Err why.Argument) fw fi sw si → ⊥
tablet_no c x (holds.Tablet t) (holds.Tablet u) fw fi sw si h = h
tablet_no c x (holds.Tablet t) (holds.Keeper y) fw fi sw si h = h
tablet_no c x (holds.Keeper y) n fw fi sw si h = let e = h.0 in cc

pub showed_no : (c q : ℕ) (m n : Machine) (fw fi cw ci : List ℕ) → TabletShowed c q m n (Err why.Argument) fw fi cw ci → ⊥
showed_no c q (holds.Tablet t) (holds.Tablet u) fw fi cw ci h = h.ran
showed_no c q (holds.Tablet t) (holds.Keeper y) fw fi cw ci h = h
showed_no c q (holds.Keeper y) n fw fi cw ci h = let e = h.0 in cc

pub keeper_behind : (c : ℕ) (bs : List ℕ) (m n : Machine) (was is : Option Machine) (r : Result Answer Misuse) (fw fi sw si : List ℕ)
    → was ≡ Some m → KeeperDid c bs m n r fw fi sw si → is ≡ kept_after r n → KeeperReceives c bs was is r fw fi sw si
keeper_behind c bs m n was is r fw fi sw si e p k =
    behind (λ x y a. KeeperDid c bs x y a fw fi sw si) (TooShort 1032 1033 fw sw) ((fi ≡ fw) × (si ≡ sw)) m n was is r e p (keeper_no c bs m n fw fi sw si) k

pub tablet_behind : (c : ℕ) (x : Input) (m n : Machine) (was is : Option Machine) (r : Result Answer Misuse) (fw fi sw si : List ℕ)
    → was ≡ Some m → TabletDid c x m n r fw fi sw si → is ≡ kept_after r n → Steps c (Some x) was is r fw fi sw si
tablet_behind c x m n was is r fw fi sw si e p k =
    behind (λ y z a. TabletDid c x y z a fw fi sw si) (TooShort 1032 1033 fw sw) ((fi ≡ fw) × (si ≡ sw)) m n was is r e p (tablet_no c x m n fw fi sw si) k

pub shows_behind : (c q : ℕ) (m n : Machine) (was is : Option Machine) (r : Result Answer Misuse) (fw fi cw ci : List ℕ)
    → was ≡ Some m → TabletShowed c q m n r fw fi cw ci → is ≡ kept_after r n → Shows c (Some q) was is r fw fi cw ci
shows_behind c q m n was is r fw fi cw ci e p k =
    behind (λ y z a. TabletShowed c q y z a fw fi cw ci) (TooShort 1032 1024 fw cw) ((fi ≡ fw) × (ci ≡ cw)) m n was is r e p (showed_no c q m n fw fi cw ci) k
