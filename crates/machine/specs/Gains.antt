-- What is left of items to which some were added: unless memory ran out, those that were there, and these.
-- Assumes nothing.
use Rattle.std.specs.Prelude.{◌≡◌, List, ◌++◌, false, map}
use Rattle.machine.specs.declared.items.Items.{Items}

pub record More {T : Type 0} (was is : Items T) (more : List T) : Type 0 where
  pub before : was.failed ≡ false
  pub items : is.items.items ≡ was.items.items ++ more

abbrev pub Gained : {T : Type 0} → (was is : Items T) → (more : List T) → Type 0
Gained was is more = is.failed ≡ false → More was is more

-- the same by what each stands for
pub record MoreBy {T X : Type 0} (f : T → X) (was is : Items T) (more : List X) : Type 0 where
  pub before : was.failed ≡ false
  pub items : map f is.items.items ≡ map f was.items.items ++ more

abbrev pub GainedBy : {T X : Type 0} → (f : T → X) → (was is : Items T) → (more : List X) → Type 0
GainedBy f was is more = is.failed ≡ false → MoreBy f was is more
