-- What a tablet stands for, and what the steps of the code leave of it, by the rules.
use Rattle.std.specs.Prelude.{◌≡◌, ℕ, Some, None, Option, Result, if◌then◌else◌, fold}
use Rattle.message.specs.declared.refusal.Refusal.{Refusal}
use Rattle.message.specs.Format.{Msg}
use Rattle.journal.specs.declared.record.Owner.TheVariants.{Borrower}
use Rattle.journal.specs.Records.{AllSound}
use Rattle.machine.specs.declared.effects.Effects.{Effects}
use Rattle.machine.specs.Effects.{Effect, Note, Gave}
use Rattle.machine.specs.Inputs.{Call}
use Rattle.borrowing.specs.declared.hold.Part.{Part}
use Rattle.borrowing.specs.declared.setting.Setting.{Setting}
use Rattle.borrowing.specs.declared.tablet.Tablet.{Tablet}
use Rattle.borrowing.specs.Rules.{Terms, Durable, Volatile, redo, called, forgotten, heard, told}
use Rattle.borrowing.specs.Durables.{durable_of, Kept}
use Rattle.borrowing.specs.Volatiles.{volatile_of, with_part}

abbrev pub terms_of : Setting → Terms
terms_of s = record { who = s.who.id; short = s.short }

abbrev pub terms : Tablet → Terms
terms t = terms_of t.setting

abbrev pub durable : Tablet → Durable
durable t = durable_of t.durable

-- what it has beside, whether it is up or not
abbrev pub beside : Tablet → Volatile
beside t = volatile_of t.volatile

abbrev pub volatile : Tablet → Option Volatile
volatile t = (if t.is_up then Some (beside t) else None)

abbrev pub Answer : Type 0
Answer = Result (Unit {0}) Refusal

-- what never changes of a tablet, and, while it is up, that it is
pub record Same (was is : Tablet) : Type 0 where
  pub who : is.setting.who.id ≡ was.setting.who.id
  pub short : is.setting.short ≡ was.setting.short
  pub is_up : is.is_up ≡ was.is_up

-- the part at q has become p, and a record was given where that is due
pub record Left (q : ℕ) (p : Part) (was is : Tablet) (out out' : Effects) : Type 0 where
  pub volatile : beside is ≡ with_part q p (beside was)
  pub durable : Kept q ((beside was).parts q) p was.durable is.durable out out'
  pub same : Same was is

-- a step of a tablet that is up goes as the rules say
pub record Went (x : Volatile × Effect) (was is : Tablet) (out out' : Effects) (r : Answer) : Type 0 where
  pub kept : beside is ≡ x.0
  pub filed : durable is ≡ fold redo (durable was) x.1.records
  pub gave : Gave x.1 out out' r
  pub sound : AllSound Borrower x.1.records
  pub same : Same was is

-- a call, and letting a copy go at any reading
abbrev pub Called : (clock : ℕ) → Call → (was is : Tablet) → (out out' : Effects) → Answer → Type 0
Called c x was is o o' r = Went (called (terms was) c x (durable was) (beside was)) was is o o' r

abbrev pub Forgotten : (place : ℕ) → (was is : Tablet) → (out out' : Effects) → Answer → Type 0
Forgotten q was is o o' r = Went (forgotten q (durable was) (beside was)) was is o o' r

-- a message, and what became of a write of the borrower that it names
abbrev pub Heard : Msg → (was is : Tablet) → (out out' : Effects) → Answer → Type 0
Heard m was is o o' r = Went (heard (terms was).who (Some m) (durable was) (beside was)) was is o o' r

abbrev pub Told : (named : ℕ) → Note → Tablet → (out out' : Effects) → Answer → Type 0
Told i x t o o' r = Went (told (terms t).who i x (beside t)) t t o o' r
