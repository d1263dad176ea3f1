-- What a refusal leaves: all as it was, but for a copy that was no longer valid.
use Rattle.std.specs.Prelude.{◌≡◌, ℕ, true, ◌⊎◌, [], Err}
use Rattle.part.specs.Parts.{at_1}
use Rattle.message.specs.declared.refusal.Refusal.{Refusal}
use Rattle.machine.specs.Effects.{Effect}
use Rattle.machine.specs.Inputs.{Input}
use Rattle.borrowing.specs.Parts.{stale, released}
use Rattle.borrowing.specs.Rules.{Terms, Durable, Volatile, due, step}

-- nothing has changed
pub record Unchanged (v : Volatile) (x : Volatile × Effect) : Type 0 where
  pub volatile : x.0 ≡ v
  pub records : x.1.records ≡ []

-- the copy of the part at q was no longer valid, and was let go
pub record LetGo (c s q : ℕ) (d : Durable) (v : Volatile) (x : Volatile × Effect) : Type 0 where
  pub stale : stale c s (v.parts q).hold ≡ true
  pub volatile : x.0 ≡ record v { parts = at_1 q (released (v.parts q)) v.parts }
  pub records : x.1.records ≡ due q (v.parts q) (d q) (released (v.parts q))

-- nothing is sent, told or shown either
pub record Refuses (c s : ℕ) (d : Durable) (v : Volatile) (x : Volatile × Effect) : Type 0 where
  pub sends : x.1.sends ≡ []
  pub tells : x.1.tells ≡ []
  pub shows : x.1.shows ≡ []
  pub left : Unchanged v x ⊎ ((q : ℕ) × LetGo c s q d v x)

abbrev pub RefusalsChangeNothing : Type 0
RefusalsChangeNothing = (t : Terms) (c : ℕ) (x : Input) (d : Durable) (v : Volatile) (why : Refusal)
    → (step t c x d v).1.answer ≡ Err why → Refuses c t.short d v (step t c x d v)
