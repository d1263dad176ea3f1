-- What the layout promises: bytes mean one message, and a proper first part of a message means none.
-- Assumes nothing.
use Rattle.std.specs.Prelude.{◌≡◌, ℕ, ◌<◌, ◌≤◌, List, length, take, Some, None, Ok, Err, Result}
use Rattle.message.specs.declared.form.Malformed.{Malformed}
use Rattle.message.specs.declared.form.Message.{Message}
use Rattle.message.specs.Format.{Msg, said, carried, WellFormed, layout, Decoded}
use Rattle.message.specs.Reading.{read}

-- the reader gave this message, of these bytes
abbrev pub Gave : List ℕ → Result Message Malformed → Msg → Type 0
Gave xs (Ok x) m = said (carried xs) x ≡ m
Gave xs (Err e) m = ⊥

abbrev pub Refused : Result Message Malformed → Type 0
Refused (Ok x) = ⊥
Refused (Err e) = Unit {0}

-- no two messages have the same bytes
abbrev pub Distinct : Type 0
Distinct = (m n : Msg) → WellFormed m → WellFormed n → layout m ≡ layout n → m ≡ n

-- what reads the bytes of a message gives that message
abbrev pub Exact : Type 0
Exact = (m : Msg) → WellFormed m → (r : Result Message Malformed) → Decoded (layout m) r → Gave (layout m) r m

-- what reads a proper first part of the bytes of a message refuses it
abbrev pub CutRefused : Type 0
CutRefused = (m : Msg) → WellFormed m → (n : ℕ) → n < length (layout m)
    → (r : Result Message Malformed) → Decoded (take n (layout m)) r → Refused r

-- `read` gives exactly the well-formed message that has these bytes, and no message of a proper first part of one
abbrev pub ReadsExactly : Type 0
ReadsExactly =
    ((m : Msg) → WellFormed m → read (layout m) ≡ Some m) ×
    ((xs : List ℕ) (m : Msg) → read xs ≡ Some m → WellFormed m × (layout m ≡ xs)) ×
    ((m : Msg) → WellFormed m → (n : ℕ) → n < length (layout m) → read (take n (layout m)) ≡ None)

-- no message has more bytes
abbrev pub NoneLonger : (most : ℕ) → Type 0
NoneLonger most = (m : Msg) → WellFormed m → length (layout m) ≤ most
