-- What comes of the lines of a program's input.
-- Assumes nothing.
use Rattle.std.specs.Prelude.{◌≡◌, ℕ, List, ◌++◌}
use Rattle.lines.specs.declared.input.Line.{Line}
use Rattle.lines.specs.declared.input.Line.TheVariants.{Whole, Cut}
use Rattle.message.specs.declared.refusal.Refusal.TheVariants.{Malformed}
use Rattle.startup.specs.Prints.{refused_text}

-- a whole line does what D says of it; one that the end of the input cut short is refused by 1, and does nothing
abbrev pub HandedOn : {A : Type 0} → (D : A → (line printed_was printed_is : List ℕ) → A → Type 0) → Line → (was is : A) → (text printed_was printed_is : List ℕ) → Type 0
HandedOn D Whole was is l p p' = D was l p p' is
HandedOn D Cut was is l p p' = (is ≡ was) × (p' ≡ p ++ refused_text Malformed)
