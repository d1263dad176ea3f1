-- What a writer leaves of a buffer: unless memory ran out, what was there and these bytes.
-- Assumes nothing.
use Rattle.std.specs.Prelude.{◌≡◌, ℕ, List, ◌++◌, false}
use Rattle.message.specs.declared.buffer.Buffer.{Buffer}

pub record Longer (was is : Buffer) (more : List ℕ) : Type 0 where
  pub before : was.failed ≡ false
  pub bytes : is.bytes.items ≡ was.bytes.items ++ more

abbrev pub Grown : (was is : Buffer) → (more : List ℕ) → Type 0
Grown was is more = is.failed ≡ false → Longer was is more
