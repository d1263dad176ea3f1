-- What the programs print: text, numbers in decimal, bytes in hexadecimal, whole or without the zeros at their end.
-- Assumes nothing.
use Rattle.std.specs.Prelude.{ℕ, ◌-◌, cond, List, [], ◌∷◌, ◌++◌, length, take, is_ok, vec_items, Result, nat_eq}
use Rattle.std.specs.List.{suffix_len}
use Rattle.lines.specs.Hex.{hex_text}
use Rattle.lines.specs.declared.output.Output.{Output}

-- the bytes to be printed so far
abbrev pub printed : Output → List ℕ
printed out = vec_items out.bytes

-- bytes after more was to be appended: all of it is there where that went well, else nothing
abbrev pub appended_to : {T E : Type 0} → List ℕ → List ℕ → Result T E → List ℕ
appended_to was more r = cond (is_ok r) (was ++ more) was

-- bytes without the zeros at their end
unfoldable pub trimmed : List ℕ → List ℕ
trimmed bytes = take (length bytes - suffix_len (λ b. nat_eq b 0) bytes) bytes

-- a text, or a dash where it is empty
abbrev pub or_dash : List ℕ → List ℕ
or_dash [] = 45 ∷ []
or_dash (b ∷ bs) = b ∷ bs

-- bytes in hexadecimal without the zeros at their end, or a dash where all are zero
abbrev pub trimmed_text : List ℕ → List ℕ
trimmed_text bytes = or_dash (hex_text (trimmed bytes))
