-- Why a store or a source did not do what it was asked.
use Rattle.std.specs.Prelude.{ℕ, ◌<◌, ◌≤◌, Result, IsErrOf}
use Rattle.journal.specs.declared.store.StoreError.{StoreError}
use Rattle.journal.specs.declared.store.StoreError.TheVariants.{Failed}

-- The disk has failed no less often than before; `Failed` is told only where it has failed since.
pub record HasCause {T : Type 0} (before now : ℕ) (result : Result T StoreError) : Type 0 where
  pub later : before ≤ now
  pub failed : IsErrOf result Failed → before < now
