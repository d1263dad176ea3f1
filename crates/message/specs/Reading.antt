-- The message that some bytes are, as a function: the only one that they could be, where it is well-formed and has these bytes.
-- Assumes nothing.
use Rattle.std.specs.Prelude.{◌≡◌, ◌≢◌, ℕ, ◌+◌, ◌*◌, Bool, true, false, cond, ◌&&◌, List, [], ◌∷◌, length, drop, Some, None, Ok, Err, Option, Result, ◌==◌, nat_lt, slice_index, slice_index_or}
use Rattle.message.specs.declared.kind.Kind.{Kind}
use Rattle.message.specs.declared.kind.Kind.TheVariants.{Reading, Writing}
use Rattle.message.specs.declared.form.Malformed.{Malformed}
use Rattle.message.specs.declared.form.Message.{Message}
use Rattle.message.specs.Format.{Msg, Ask, Loan, Write, In, Void, Recall, Back, said, carried, tag, body, layout, WellFormed}

-- the number whose four bytes stand from the place i on
abbrev pub number : (i : ℕ) → List ℕ → ℕ
number i xs = slice_index xs i * 16777216 + slice_index xs (i + 1) * 65536 + slice_index xs (i + 2) * 256 + slice_index xs (i + 3)

abbrev pub kind : ℕ → Kind
kind b = cond (b == 0) Reading Writing

abbrev pub place : List ℕ → ℕ
place xs = slice_index xs 2 * 256 + slice_index xs 3

-- the only message that the bytes could be
abbrev pub guess : List ℕ → Msg
guess xs =
    let t = slice_index_or xs 0 0 in
    let w = slice_index_or xs 1 0 in
    let q = place xs in
    let n = number 4 xs in
    cond (t == 1) (Ask w q n (kind (slice_index xs 8)) (number 9 xs))
    (cond (t == 2) (Loan w q n (kind (slice_index xs 8)) (drop 9 xs))
    (cond (t == 3) (Write w q n (drop 8 xs))
    (cond (t == 4) (In w q n)
    (cond (t == 5) (Void w q n)
    (cond (t == 6) (Recall w q) (Back w q n))))))

-- the test of what is well-formed
abbrev pub named : (who place number : ℕ) → Bool
named w q n = nat_lt w 32 && (nat_lt q 16384 && nat_lt n 4294967296)

abbrev pub formed : Msg → Bool
formed (Ask w q n k l) = named w q n && nat_lt l 4294967296
formed (Loan w q n k v) = named w q n && length v == 1024
formed (Write w q n v) = named w q n && length v == 1024
formed (In w q n) = named w q n
formed (Void w q n) = named w q n
formed (Recall w q) = nat_lt w 32 && nat_lt q 16384
formed (Back w q n) = named w q n

unfoldable pub same_bytes : List ℕ → List ℕ → Bool
same_bytes [] [] = true
same_bytes [] (y ∷ ys) = false
same_bytes (x ∷ xs) [] = false
same_bytes (x ∷ xs) (y ∷ ys) = x == y && same_bytes xs ys

-- the message that the bytes are, where they are one
unfoldable pub read : List ℕ → Option Msg
read xs = cond (formed (guess xs) && same_bytes (layout (guess xs)) xs) (Some (guess xs)) None

-- what a reader of the bytes after a first byte gives: the message that has this first byte
-- and these bytes after it, or that there is none
abbrev pub ReadBody : (first : ℕ) → List ℕ → Option Msg → Type 0
ReadBody t ys (Some m) = WellFormed m × (tag m ≡ t) × (body m ≡ ys)
ReadBody t ys None = (m : Msg) → WellFormed m → tag m ≡ t → body m ≢ ys

-- what a reader of the bytes gave
abbrev pub heard : List ℕ → Result Message Malformed → Option Msg
heard xs (Ok m) = Some (said (carried xs) m)
heard xs (Err e) = None
