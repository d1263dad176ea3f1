-- What the calls on a node leave of it, by the rules of its machine.
use Rattle.std.specs.Prelude.{◌≡◌, ℕ, List, [], ◌++◌, ◌≢◌, Bool, true, false, fold, take, Some, None, Option, is_some, Ok, Err, Result, vec_items}
use Rattle.message.specs.declared.refusal.Refusal.{Refusal}
use Rattle.message.specs.declared.refusal.Refusal.TheVariants.{Malformed}
use Rattle.journal.specs.declared.record.Owner.{Owner}
use Rattle.journal.specs.declared.store.StoreError.{StoreError}
use Rattle.journal.specs.declared.replay.OpenError.{OpenError}
use Rattle.journal.specs.declared.replay.OpenError.TheVariants as unopened
use Rattle.journal.specs.Reading.{Refused}
use Rattle.journal.specs.Records.{Rec, bytes_of, records_of}
use Rattle.journal.specs.Stores.{Disk}
use Rattle.journal.specs.Made.{IsMade}
use Rattle.machine.specs.declared.effects.Effects.{Effects}
use Rattle.machine.specs.declared.node.Node.{Node}
use Rattle.machine.specs.Effects.{Effect, Gives, IsEmpty, has_failed}
use Rattle.machine.specs.Inputs.{Input}

-- what a machine has: its terms; what outlasts a stop; and what a stop takes away, where it has
-- come up
pub record Has (T D V : Type 0) : Type 0 where
  pub terms : T
  pub durable : D
  pub volatile : Option V

-- a node: what its machine has, where it has one, and its file
pub record State (T D V : Type 0) : Type 0 where
  pub machine : Option (Has T D V)
  pub disk : Disk

-- what a machine of the code has
abbrev pub has : {M T D V : Type 0} → (M → T) → (M → D) → (M → Option V) → Option M
    → Option (Has T D V)
has t d v None = None
has t d v (Some m) = Some (record { terms = t m; durable = d m; volatile = v m })

-- what a node of the code is
abbrev pub state_of : {M S T D V : Type 0} → (M → T) → (M → D) → (M → Option V) → (S → Disk)
    → Node M S → State T D V
state_of t d v f n = record { machine = has t d v n.machine; disk = f n.store }

-- a machine that is up, and one that has not come up
abbrev pub up : {T D V : Type 0} → T → D → V → Option (Has T D V)
up t d v = Some (record { terms = t; durable = d; volatile = Some v })

abbrev pub asleep : {T D V : Type 0} → T → D → Option (Has T D V)
asleep t d = Some (record { terms = t; durable = d; volatile = None })

abbrev pub is_up : {T D V : Type 0} → Option (Has T D V) → Bool
is_up None = false
is_up (Some m) = is_some m.volatile

-- more is appended
abbrev pub and : Disk → List ℕ → Disk
and d more = record d { appended = d.appended ++ more }

-- the records' bytes are appended; or some first part of them, where that failed; or none, where
-- there was no memory for what came of the step. To append nothing doesn't fail
abbrev pub Appended : (was : Disk) → (out : Effects) → (is : Disk) → Result (Unit {0}) StoreError
    → Type 0
Appended was o is (Ok x) = (has_failed o ≡ false) × (is ≡ and was (vec_items o.records.bytes))
Appended was o is (Err e) =
    (left : ℕ) × (has_failed o ≡ true → left ≡ 0)
    × (has_failed o ≡ false → vec_items o.records.bytes ≢ [])
    × (is ≡ and was (take left (vec_items o.records.bytes)))

-- the machine is out of its node, where it was up
abbrev pub TookOut : {M S V : Type 0} → (volatile : M → Option V) → (was is : Node M S) → Option M
    → Type 0
TookOut volatile was is None = (is ≡ was) × ((m : _) → was.machine ≡ Some m → volatile m ≡ None)
TookOut {V = V} volatile was is (Some m) =
    (v : V) × (volatile m ≡ Some v) × (was.machine ≡ Some m) × (is ≡ record was { machine = None })

-- what the machine, where there is one, has of what outlasts a stop is what the file makes
abbrev pub Holds : Owner → {T D V : Type 0} → (redo : D → Rec → D) → (fresh : D)
    → Option (Has T D V) → (file : List ℕ) → Type 0
Holds o redo fresh None file = Unit {0}
Holds o redo fresh (Some m) file = IsMade o redo fresh m.durable file

abbrev pub IsKept : Owner → {T D V : Type 0} → (redo : D → Rec → D) → (fresh : D) → State T D V
    → Type 0
IsKept o redo fresh s = Holds o redo fresh s.machine s.disk.appended

-- nothing has changed, and nothing came of it
pub record Stayed {T D V : Type 0} (was is : State T D V) (out : Effects) : Type 0 where
  pub state : is ≡ was
  pub effects : IsEmpty out

-- the machine is gone, and of the records some first bytes are appended
pub record Failed {T D V : Type 0} (e : Effect) (was is : State T D V) : Type 0 where
  pub machine : is.machine ≡ None
  pub left : ℕ
  pub disk : is.disk ≡ and was.disk (take left (bytes_of e.records))

-- what a machine answers
abbrev pub Answer : Type 0
Answer = Result (Unit {0}) Refusal

module _ {T D V : Type 0} (redo : D → Rec → D) where
  -- from d it has become what x says, and what came of that is given; the records are appended,
  -- and nothing is synced
  pub record Turned (t : T) (d : D) (x : V × Effect) (was is : State T D V) (out : Effects)
      (r : Answer) : Type 0 where
    pub machine : is.machine ≡ up t (fold redo d x.1.records) x.0
    pub disk : is.disk ≡ and was.disk (bytes_of x.1.records)
    pub gives : Gives x.1 out r

  module _ (rules : T → (clock : ℕ) → Input → D → V → V × Effect) (c : ℕ) (x : Input) where
    -- a step by the rules; or it was not up, and nothing changed; or its records were not all
    -- appended, and it is down
    abbrev pub Took : (was is : State T D V) → (out : Effects) → Result (Option Answer) StoreError
        → Type 0
    Took was is o (Err e) =
        (t : T) × (d : D) × (v : V) × (was.machine ≡ up t d v) × Failed (rules t c x d v).1 was is
    Took was is o (Ok None) = (is_up was.machine ≡ false) × Stayed was is o
    Took was is o (Ok (Some r)) =
        (t : T) × (d : D) × (v : V) × (was.machine ≡ up t d v)
        × Turned t d (rules t c x d v) was is o r

    -- it stopped in the midst of a step: of the records so many first bytes are appended; or it was
    -- not up, and nothing changed
    abbrev pub Torn : (left : ℕ) → (was is : State T D V) → Result Bool StoreError → Type 0
    Torn n was is (Err e) =
        (t : T) × (d : D) × (v : V) × (was.machine ≡ up t d v) × Failed (rules t c x d v).1 was is
    Torn n was is (Ok false) = (is_up was.machine ≡ false) × (is ≡ was)
    Torn n was is (Ok true) =
        (t : T) × (d : D) × (v : V) × (was.machine ≡ up t d v)
        × (is ≡ record {
          machine = None;
          disk = and was.disk (take n (bytes_of (rules t c x d v).1.records));
        })

  -- what coming up leaves of a machine with these terms, where its rules say y: one that is up is
  -- refused by 1; one that is not comes up, or is refused
  abbrev pub WokenBy : T → D → Option V → (y : Result (V × Effect) Refusal)
      → (was is : State T D V) → (out : Effects) → Answer → Type 0
  WokenBy t d (Some v) y was is o r = Stayed was is o × (r ≡ Err Malformed)
  WokenBy t d None (Err why) was is o r = Stayed was is o × (r ≡ Err why)
  WokenBy t d None (Ok x) was is o r = Turned t d x was is o r

  module _ (wakes : T → (clock : ℕ) → D → Result (V × Effect) Refusal) (c : ℕ) where
    abbrev pub Woken : Has T D V → (was is : State T D V) → (out : Effects) → Answer → Type 0
    Woken m was is o r =
        WokenBy m.terms m.durable m.volatile (wakes m.terms c m.durable) was is o r

    -- the same; or there was no machine, and nothing changed; or its records were not all appended,
    -- and it is down
    abbrev pub WokeUp : (was is : State T D V) → (out : Effects) → Result (Option Answer) StoreError
        → Type 0
    WokeUp was is o (Err e) =
        (t : T) × (d : D) × (x : V × Effect) × (was.machine ≡ asleep t d) × (wakes t c d ≡ Ok x)
        × Failed x.1 was is
    WokeUp was is o (Ok None) = (was.machine ≡ None) × Stayed was is o
    WokeUp was is o (Ok (Some r)) =
        (m : Has T D V) × (was.machine ≡ Some m) × Woken m was is o r

-- COMING UP FROM THE FILE: the whole records of a file and nothing else, on disk
abbrev pub whole : Owner → Disk → Disk
whole o f =
    record {
      appended = bytes_of (records_of o f.appended);
      synced = bytes_of (records_of o f.appended);
    }

-- what they make
abbrev pub made_of : Owner → {D : Type 0} → (redo : D → Rec → D) → (fresh : D) → Disk → D
made_of o redo fresh f = fold redo fresh (records_of o f.appended)

module _ {T D V : Type 0} (o : Owner) (redo : D → Rec → D) (fresh : D) (t : T) where
  -- where its rules say y of coming up: the file is cut after its whole records, and those of
  -- coming up go behind them; or it is refused, and the file is as it was
  abbrev pub CameUpBy : (y : Result (V × Effect) Refusal) → (was is : State T D V)
      → (out : Effects) → Answer → Type 0
  CameUpBy (Ok x) was is out r =
      Turned redo t (made_of o redo fresh was.disk) x (record was { disk = whole o was.disk }) is
      out r
  CameUpBy (Err why) was is out r =
      Stayed (record was { machine = None }) is out × (r ≡ Err why)

  module _ (wakes : T → (clock : ℕ) → D → Result (V × Effect) Refusal) (c : ℕ) where
    -- the same; or there is no machine, and the file is as it was, or has its whole records still
    -- where it could not be written
    abbrev pub CameUp : (was is : State T D V) → (out : Effects) → Result Answer OpenError → Type 0
    CameUp was is out (Ok r) = CameUpBy (wakes t c (made_of o redo fresh was.disk)) was is out r
    CameUp was is out (Err unopened.NoMemory) = is ≡ record was { machine = None }
    CameUp was is out (Err (unopened.Malformed p)) =
        (is ≡ record was { machine = None })
        × (p ≡ o) × ((n : ℕ) × Refused o (take n was.disk.appended))
    CameUp was is out (Err (unopened.Store e)) =
        (is.machine ≡ None)
        × ((more : List ℕ) × (is.disk.appended ≡ bytes_of (records_of o was.disk.appended) ++ more))
