-- The keeper of the code in the words of the rules, and what a step of it leaves.
use Rattle.std.specs.Prelude.{◌≡◌, ℕ, List, fold, if◌then◌else◌, Some, None, Option, Result}
use Rattle.part.specs.declared.head.Head.{Head}
use Rattle.message.specs.declared.form.Ask.{Ask}
use Rattle.message.specs.declared.refusal.Refusal.{Refusal}
use Rattle.message.specs.declared.to_keeper.ToKeeper.{ToKeeper}
use Rattle.message.specs.Directions.{up_msg}
use Rattle.journal.specs.declared.record.Owner.TheVariants as owner
use Rattle.journal.specs.Records.{AllSound}
use Rattle.machine.specs.declared.effects.Effects.{Effects}
use Rattle.machine.specs.Effects.{Effect, Gave}
use Rattle.keeping.specs.declared.keeper.Keeper.{Keeper}
use Rattle.keeping.specs.Durables.{durable_of}
use Rattle.keeping.specs.Volatiles.{volatile_of}
use Rattle.keeping.specs.Rules.{Durable, Volatile, redo, granted, asked, written, heard}

abbrev pub durable : Keeper → Durable
durable k = durable_of k.durable

-- none while it has not come up
abbrev pub volatile : Keeper → Option Volatile
volatile k = (if k.is_up then Some (volatile_of k.volatile) else None)

abbrev pub long : Keeper → ℕ
long k = k.long

-- WHAT A STEP MAY BE, before it is known how long a lease runs, and of which keeper it is
abbrev pub Rules : Type 0
Rules = (long : ℕ) → Durable → Volatile → Volatile × Effect

-- a loan, an ask, a write and a message of the code
abbrev pub granted_for : (clock : ℕ) → Ask → Rules
granted_for c a l d v = granted l c a.head.who.id a.head.place.at a.head.number a.kind a.written d v

abbrev pub asked_for : (clock : ℕ) → Ask → Rules
asked_for c a l d v = asked l c a.head.who.id a.head.place.at a.head.number a.kind a.written d v

abbrev pub written_by : (clock : ℕ) → Head → (bytes : List ℕ) → Rules
written_by c h bs l d v = (v, written c h.who.id h.place.at h.number bs d v)

abbrev pub heard_of : (clock : ℕ) → ToKeeper → Rules
heard_of c m l d v = heard l c (Some (up_msg m)) d v

-- a keeper that is up has become this, what outlasts a stop by the records alone, and has given what
-- comes of it
pub record Became (x : Volatile × Effect) (was is : Keeper) (out out' : Effects)
    (r : Result (Unit {0}) Refusal) : Type 0 where
  pub volatile : volatile_of is.volatile ≡ x.0
  pub durable : durable is ≡ fold redo (durable was) x.1.records
  pub gave : Gave x.1 out out' r
  pub sound : AllSound owner.Keeper x.1.records
  pub long : is.long ≡ was.long
  pub up : is.is_up ≡ was.is_up

-- it does as these rules say
abbrev pub GoesBy : Rules → (was is : Keeper) → (out out' : Effects) → Result (Unit {0}) Refusal → Type 0
GoesBy f was is o o' r = Became (f was.long (durable was) (volatile_of was.volatile)) was is o o' r
