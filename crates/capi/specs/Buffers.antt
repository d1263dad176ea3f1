-- What is written to the buffers of a caller.
-- Assumes nothing.
use Rattle.std.specs.Prelude.{◌≡◌, ℕ, ◌*◌, List, ◌++◌, length, drop, if◌then◌else◌, ◌==◌}
use Rattle.std.specs.List.{flat_map}
use Rattle.message.specs.Format.{Msg, layout}

-- these bytes are in front, so many, and behind them is what was there
abbrev pub Wrote : (bytes : List ℕ) → (size : ℕ) → (was is : List ℕ) → Type 0
Wrote bs n was is = (n ≡ length bs) × (is ≡ bs ++ drop n was)

-- the bytes of messages, one after another
abbrev pub messages_bytes : List Msg → List ℕ
messages_bytes ms = flat_map layout ms

-- these messages are in front, so many, of so many bytes each
abbrev pub Row : List Msg → (count size : ℕ) → (was is : List ℕ) → Type 0
Row ms n k was is = (n ≡ length ms) × Wrote (messages_bytes ms) (n * k) was is

-- the bytes of a copy are in front where it is shown by 0; by any other number the buffer is as it was
abbrev pub copied : (number : ℕ) → (copy : List ℕ) → (was : List ℕ) → List ℕ
copied n v was = (if n == 0 then v ++ drop 1024 was else was)
