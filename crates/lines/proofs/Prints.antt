-- The digits of a number from the last to the first, and the zeros at the end of some bytes.
-- Assumes nothing.
use Rattle.std.proofs.Common.{◌≡◌, ℕ, ◌+◌, ◌-◌, ◌<◌, ◌≤◌, eqb, List, [], ◌∷◌, length, get_or, take, sym, refl, ap, ◌∙◌, arith}
use Rattle.std.specs.List.{suffix_len}
use Rattle.std.proofs.lemmas.List.{nil_from_length, take_all}
use Rattle.std.proofs.lemmas.List.Sums.{suffix_len-take_no}
use Rattle.std.proofs.lemmas.Bool.{ne_eqb}
use Rattle.lines.specs.Hex.{hex_text}
use Rattle.lines.specs.Outputs.{trimmed, or_dash, trimmed_text}

abbrev zeros : List ℕ → ℕ
zeros bytes = suffix_len (λ b. eqb b 0) bytes

-- what is left of some bytes when some of the zeros at their end are gone
pub record Zeros (bytes rest : List ℕ) : Type 0 where
  pub front : rest ≡ take (length rest) bytes
  pub within : length rest ≤ length bytes
  pub same : length rest + zeros bytes ≡ length bytes + zeros rest

-- no zero is left at the end: nothing is left, or a byte that is none
zeros_end : (bytes rest : List ℕ) → zeros rest ≡ 0 → Zeros bytes rest → rest ≡ trimmed bytes
unfolding trimmed
zeros_end bytes rest none z =
    let e : length rest ≡ length bytes - zeros bytes = omega (arith, z.same, none) in
    z.front ∙ ap (λ (k : ℕ). take k bytes) e

pub zeros_all : (bytes rest : List ℕ) → length rest < 1 → Zeros bytes rest → rest ≡ trimmed bytes
zeros_all bytes rest h z = zeros_end bytes rest (ap zeros (nil_from_length rest (omega arith))) z

pub zeros_stop : (bytes rest : List ℕ) → 1 ≤ length rest → (get_or rest (length rest - 1) 0 ≡ 0 → ⊥) → Zeros bytes rest → rest ≡ trimmed bytes
zeros_stop bytes rest some other z =
    zeros_end bytes rest
    (ap zeros (sym (take_all (length rest) rest (omega arith))) ∙ suffix_len-take_no (λ b. eqb b 0) rest (length rest) 0 some (omega arith) (ne_eqb _ 0 other)) z

-- what is printed of the bytes that are left
pub dash_none : (front bytes : List ℕ) → front ≡ trimmed bytes → length front ≡ 0 → 45 ∷ [] ≡ trimmed_text bytes
dash_none front bytes e none = ap (λ (q : List ℕ). or_dash (hex_text q)) (sym (nil_from_length front none) ∙ e)

dash_some : (front : List ℕ) → 0 < length front → hex_text front ≡ or_dash (hex_text front)
dash_some [] h = absurd (omega arith)
dash_some (b ∷ bs) h = refl

pub text_some : (front bytes : List ℕ) → front ≡ trimmed bytes → 0 < length front → hex_text front ≡ trimmed_text bytes
text_some front bytes e some = dash_some front some ∙ ap (λ (q : List ℕ). or_dash (hex_text q)) e
