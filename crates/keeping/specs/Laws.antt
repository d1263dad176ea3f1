-- What the rules promise, whatever comes to the keeper.
use Rattle.std.specs.Prelude.{◌≡◌, ℕ, ◌≤◌, [], Err}
use Rattle.message.specs.declared.refusal.Refusal.{Refusal}
use Rattle.lease.specs.Exclusion.{Exclusive}
use Rattle.machine.specs.Inputs.{Input}
use Rattle.keeping.specs.Rules.{Durable, Volatile, step}

-- a step that is refused makes no record, and leaves leases and grace period as they were
abbrev pub RefusalsChangeNothing : Type 0
RefusalsChangeNothing =
    (l c : ℕ) (x : Input) (d : Durable) (v : Volatile) (why : Refusal) →
    (step l c x d v).1.answer ≡ Err why →
    ((step l c x d v).1.records ≡ []) × ((step l c x d v).0 ≡ v)

-- where no two leases that run clash, none do after a step, at that reading of the clock or a later one
abbrev pub LeasesNeverClash : Type 0
LeasesNeverClash =
    (l c e : ℕ) (x : Input) (d : Durable) (v : Volatile) → c ≤ e → Exclusive c v.leases →
    Exclusive e (step l e x d v).0.leases
