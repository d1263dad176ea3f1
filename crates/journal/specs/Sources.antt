-- What reading a file gives.
-- Assumes nothing.
use Rattle.std.specs.Prelude.{◌≡◌, ℕ, ◌<◌, ◌≤◌, List, ◌++◌, take, Ok, Err, Result}

-- so many bytes came, of which there is room for: they follow what was read before; none came only at the end of the file.
-- Where reading failed, none were read
abbrev pub Fetched : {E : Type 0} → (was is : List ℕ) → (ended : Type 0) → (room : ℕ) → (block : List ℕ) → Result ℕ E → Type 0
Fetched was is ended room block (Ok n) = (n ≤ room) × (is ≡ was ++ take n block) × (n ≡ 0 → 0 < room → ended)
Fetched was is ended room block (Err e) = is ≡ was
