-- What a line does to a program's machine with its journal, and what is printed of it.
use Rattle.std.specs.Prelude.{◌≡◌, ℕ, Bool, true, false, List, [], ◌++◌, fold, Some, None, Option, Ok, Err, Result, MatchBool, MatchResult, nat_lt}
use Rattle.message.specs.declared.refusal.Refusal.{Refusal}
use Rattle.message.specs.declared.refusal.Refusal.TheVariants.{Malformed}
use Rattle.journal.specs.Records.{Rec, bytes_of}
use Rattle.journal.specs.Stores.{Disk}
use Rattle.machine.specs.declared.node.Node.{Node}
use Rattle.machine.specs.Effects.{Effect}
use Rattle.machine.specs.Inputs.{Input}
use Rattle.machine.specs.Nodes.{Has, State, up, and}
use Rattle.startup.specs.declared.session.Session.{Session}
use Rattle.startup.specs.Prints.{refused_text, given_text, effect_text}

-- the bytes of each copy that a machine shows, where there is a machine
abbrev pub copies_in : {M : Type 0} → (copies : M → ℕ → List ℕ) → Option M → (place : ℕ) → List ℕ
copies_in f None q = []
copies_in f (Some m) q = f m q

-- all that was appended is synced, where each line's records are synced by themselves; else nothing is
abbrev pub Synced : (each : Bool) → (was is : Disk) → Type 0
Synced false was is = is ≡ was
Synced true was is = (is.appended ≡ was.appended) × (is.synced ≡ was.appended)

-- a machine with these terms and this becomes x, and the records of that are appended
pub record Became {T D V : Type 0} (redo : D → Rec → D) (each : Bool) (t : T) (d : D) (x : V × Effect) (was is : State T D V) : Type 0 where
  pub machine : is.machine ≡ up t (fold redo d x.1.records) x.0
  pub disk : Synced each (and was.disk (bytes_of x.1.records)) is.disk

module _ {M S T D V : Type 0} (state : Node M S → State T D V) (redo : D → Rec → D) (each : Bool) (copies : M → ℕ → List ℕ) where
  -- something comes at a reading of the clock: a step by the rules, of which all is printed
  abbrev pub Stepped : (rules : T → (clock : ℕ) → Input → D → V → V × Effect) → (clock : ℕ) → Input → (was is : Node M S)
      → (printed_was printed_is : List ℕ) → Type 0
  Stepped rules c x was is p p' =
      (t : T) × (d : D) × (v : V) × ((state was).machine ≡ up t d v) × Became redo each t d (rules t c x d v) (state was) (state is)
      × (p' ≡ p ++ effect_text (copies_in copies is.machine) (rules t c x d v).1)

  -- one that is up stays so; another comes up where its rules let it, and what it gives is printed
  abbrev pub Woken : (t : T) (d : D) → Option V → Result (V × Effect) Refusal → (was is : Node M S) → (printed_was printed_is : List ℕ)
      → Result (Unit {0}) Refusal → Type 0
  Woken t d (Some v) y was is p p' r = (is ≡ was) × (p' ≡ p) × (r ≡ Ok tt)
  Woken t d None (Err why) was is p p' r =
      ((state is).machine ≡ (state was).machine) × Synced each (state was).disk (state is).disk × (p' ≡ p) × (r ≡ Err why)
  Woken t d None (Ok x) was is p p' r =
      Became redo each t d x (state was) (state is) × (p' ≡ p ++ given_text (copies_in copies is.machine) x.1) × (r ≡ x.1.answer)

  abbrev pub CameUp : (wakes : T → (clock : ℕ) → D → Result (V × Effect) Refusal) → (clock : ℕ) → (was is : Node M S)
      → (printed_was printed_is : List ℕ) → Result (Unit {0}) Refusal → Type 0
  CameUp wakes c was is p p' r =
      (m : Has T D V) × ((state was).machine ≡ Some m) × Woken m.terms m.durable m.volatile (wakes m.terms c m.durable) was is p p' r

  -- at the first reading it comes up, and where that is refused nothing else is done
  abbrev pub Heard : (rules : T → (clock : ℕ) → Input → D → V → V × Effect) → (wakes : T → (clock : ℕ) → D → Result (V × Effect) Refusal)
      → (clock : ℕ) → Input → (was is : Node M S) → (printed_was printed_is : List ℕ) → Type 0
  Heard rules wakes c x was is p p' =
      (mid : Node M S) × (q : List ℕ) × (r : Result (Unit {0}) Refusal) × CameUp wakes c was mid p q r
      × MatchResult r (λ u. Stepped rules c x mid is q p') (λ why. (is ≡ mid) × (p' ≡ q ++ refused_text why))

  -- A LINE, by what it says: one in no form is refused by 1 and changes nothing, and so is a reading below an earlier one; another
  -- counts, also where what comes with it is refused
  abbrev pub Done : {P : Type 0} → (rules : T → (clock : ℕ) → Input → D → V → V × Effect)
      → (wakes : T → (clock : ℕ) → D → Result (V × Effect) Refusal) → Option (ℕ × Input) → (was is : Session M S P)
      → (printed_was printed_is : List ℕ) → Type 0
  Done rules wakes None was is p p' = (is ≡ was) × (p' ≡ p ++ refused_text Malformed)
  Done rules wakes (Some (c, x)) was is p p' =
      MatchBool (nat_lt c was.last) ((is ≡ was) × (p' ≡ p ++ refused_text Malformed))
      ((is.last ≡ c) × Heard rules wakes c x was.node is.node p p')
