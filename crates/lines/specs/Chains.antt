-- Going on where there is a value. It stays beside std's `option_and_then`, which takes the function first:
-- a row of steps reads better with the function last.
-- Assumes nothing.
use Rattle.std.specs.Prelude.{Some, None, Option}

abbrev pub and_then : {A B : Type 0} → Option A → (A → Option B) → Option B
and_then None f = None
and_then (Some x) f = f x
