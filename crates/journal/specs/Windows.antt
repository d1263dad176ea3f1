-- What a window shows of a file that is read.
use Rattle.std.specs.Prelude.{◌≡◌, ℕ, List, ◌++◌, length, take, Ok, Err, Result}
use Rattle.journal.specs.declared.window.Window.{Window}
use Rattle.journal.specs.declared.replay.OpenError.{OpenError}
use Rattle.journal.specs.declared.replay.OpenError.TheVariants as why

-- what it holds
abbrev pub left : Window → List ℕ
left w = take w.held w.bytes.items

-- so many bytes came, behind what was read and behind what is held: none only at the end of
-- the file. Where none could be read, or there was no memory for them, none came
abbrev pub Filled : (was is : List ℕ) → (ended : Type 0) → (l m : List ℕ)
    → Result ℕ OpenError → Type 0
Filled was is ended l m (Ok n) =
    (got : List ℕ) × (length got ≡ n) × (is ≡ was ++ got) × (m ≡ l ++ got)
    × (n ≡ 0 → ended)
Filled was is ended l m (Err (why.Malformed o)) = ⊥
Filled was is ended l m (Err why.NoMemory) = (is ≡ was) × (m ≡ l)
Filled was is ended l m (Err (why.Store e)) = (is ≡ was) × (m ≡ l)
