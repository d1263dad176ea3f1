-- What a part is lent for.
-- Assumes nothing.
use Rattle.std.specs.Prelude.{◌≡◌, ◌≤◌, ℕ, Bool, true, false, Result, MatchResult}
use Rattle.message.specs.declared.form.Malformed.{Malformed}
use Rattle.message.specs.declared.kind.Kind.{Kind}
use Rattle.message.specs.declared.kind.Kind.TheVariants.{Reading, Writing}

-- the byte of a message that stands for a kind
abbrev pub kind_byte : Kind → ℕ
kind_byte Reading = 0
kind_byte Writing = 1

-- the kind that a byte of a message stands for: 0 reading, 1 writing, any other none
abbrev pub KindOf : ℕ → Result Kind Malformed → Type 0
KindOf b r = MatchResult r (λ k. kind_byte k ≡ b) (λ _. 2 ≤ b)

-- a copy of this kind may be written
abbrev pub writes : Kind → Bool
writes Reading = false
writes Writing = true
