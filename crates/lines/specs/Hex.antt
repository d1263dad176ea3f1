-- Bytes as hexadecimal text: which texts are bytes, which bytes they are, and how bytes are written.
-- Assumes nothing.
use Rattle.std.specs.Prelude.{ℕ, ◌+◌, ◌-◌, ◌*◌, ◌/◌, ◌%◌, Bool, cond, ◌&&◌, List, [], ◌∷◌, ◌++◌, length, take, drop, is_some, Some, None, Option, ◌==◌, nat_le, nat_lt}
use Rattle.std.specs.List.{list_all}
use Rattle.std.specs.Option.{unwrap_or}

-- the value of a digit in either case
abbrev pub hex_digit : ℕ → Option ℕ
hex_digit b =
    cond (nat_le 48 b && nat_le b 57) (Some (b - 48))
    (cond (nat_le 97 b && nat_le b 102) (Some (b - 87))
    (cond (nat_le 65 b && nat_le b 70) (Some (b - 55)) None))

-- the value of a byte that is a digit
unfoldable pub hex_value : ℕ → ℕ
hex_value b = unwrap_or (hex_digit b) 0

abbrev pub all_hex : List ℕ → Bool
all_hex text = list_all (λ b. is_some (hex_digit b)) text

-- the text stands for one byte or more: digits only, two for each byte
unfoldable pub is_hex : List ℕ → Bool
is_hex text = nat_lt 0 (length text) && (length text % 2 == 0 && all_hex text)

-- the bytes that a text stands for
abbrev pub hex_bytes : List ℕ → List ℕ
hex_bytes [] = []
hex_bytes (h ∷ []) = []
hex_bytes (h ∷ l ∷ text) = (hex_value h * 16 + hex_value l) ∷ hex_bytes text

-- out with bytes written at its front, as many as there is room for
abbrev pub fronted : List ℕ → List ℕ → List ℕ
fronted bytes out = take (length out) bytes ++ drop (length bytes) out

-- the digit that a value below 16 is written as, in lower case
abbrev pub hex_letter : ℕ → ℕ
hex_letter v = cond (nat_lt v 10) (v + 48) (v + 87)

-- what is written for some bytes: two digits each
abbrev pub hex_text : List ℕ → List ℕ
hex_text [] = []
hex_text (b ∷ bs) = hex_letter (b / 16) ∷ hex_letter (b % 16) ∷ hex_text bs
