-- A block of the bytes of a file.
-- Assumes nothing.
use Rattle.std.specs.Prelude.{◌≡◌, ℕ, ◌<◌, List, ◌++◌, length, take, Ok, Err, Result}
use Rattle.journal.specs.declared.block.Block.{Block}

-- what it holds
abbrev pub left : Block → List ℕ
left b = take b.held b.bytes

-- so many bytes came, behind what was read and behind what is held; where there was room, none came only at the end of the file.
-- Where reading failed, none came
abbrev pub Filled : {E : Type 0} → (was is : List ℕ) → (ended : Type 0) → (l m : List ℕ) → Result ℕ E → Type 0
Filled was is ended l m (Ok n) = (got : List ℕ) × (length got ≡ n) × (is ≡ was ++ got) × (m ≡ l ++ got) × (n ≡ 0 → length l < 65536 → ended)
Filled was is ended l m (Err e) = (is ≡ was) × (m ≡ l)
