-- What the calls on a machine leave of it, by its rules. What outlasts a stop, D, changes by records alone; the rest, V, is made when
-- the machine comes up, and lost when it stops.
use Rattle.std.specs.Prelude.{◌≡◌, List, [], fold, Some, None, Ok, Err, Option, Result}
use Rattle.message.specs.declared.refusal.Refusal.{Refusal}
use Rattle.message.specs.declared.refusal.Refusal.TheVariants.{Malformed}
use Rattle.journal.specs.Records.{Rec}
use Rattle.machine.specs.declared.effects.Effects.{Effects}
use Rattle.machine.specs.Effects.{Effect, Gave}

-- it has become what the rules say, and has given what comes of that
pub record Became {D V : Type 0} (redo : D → Rec → D) (x : V × Effect) (d d' : D) (v' : Option V) (out out' : Effects)
    (r : Result (Unit {0}) Refusal) : Type 0 where
  pub volatile : v' ≡ Some x.0
  pub durable : d' ≡ fold redo d x.1.records
  pub gave : Gave x.1 out out' r

-- nothing has changed, and this refusal was given
pub record Refused {D V : Type 0} (why : Refusal) (d d' : D) (v v' : Option V) (out out' : Effects)
    (r : Result (Unit {0}) Refusal) : Type 0 where
  pub volatile : v' ≡ v
  pub durable : d' ≡ d
  pub effects : out' ≡ out
  pub answer : r ≡ Err why

-- a step of a machine that is up goes by the rules; one that has not come up refuses all by 1
abbrev pub Stepped : {D V : Type 0} → (redo : D → Rec → D) → (rules : D → V → V × Effect) → (d d' : D) → (v v' : Option V) →
    (out out' : Effects) → Result (Unit {0}) Refusal → Type 0
Stepped redo rules d d' (Some v) v' o o' r = Became redo (rules d v) d d' v' o o' r
Stepped redo rules d d' None v' o o' r = Refused Malformed d d' None v' o o' r

-- it comes up as its rules say, or they refuse that
abbrev pub WokeBy : {D V : Type 0} → (redo : D → Rec → D) → Result (V × Effect) Refusal → (d d' : D) → (v' : Option V) →
    (out out' : Effects) → Result (Unit {0}) Refusal → Type 0
WokeBy redo (Ok x) d d' v' o o' r = Became redo x d d' v' o o' r
WokeBy redo (Err why) d d' v' o o' r = Refused why d d' None v' o o' r

-- one that is up is refused by 1
abbrev pub Woke : {D V : Type 0} → (redo : D → Rec → D) → (wakes : D → Result (V × Effect) Refusal) → (d d' : D) → (v v' : Option V) →
    (out out' : Effects) → Result (Unit {0}) Refusal → Type 0
Woke redo wakes d d' None v' o o' r = WokeBy redo (wakes d) d d' v' o o' r
Woke redo wakes d d' (Some v) v' o o' r = Refused Malformed d d' (Some v) v' o o' r

-- the records of coming up
abbrev pub woken_records : {V : Type 0} → Result (V × Effect) Refusal → List Rec
woken_records (Ok x) = x.1.records
woken_records (Err why) = []
