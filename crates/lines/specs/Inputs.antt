-- What was read and not yet handed out, and how it is handed out in lines.
-- Assumes nothing.
use Rattle.std.specs.Prelude.{◌≡◌, ℕ, ◌-◌, ◌<◌, List, [], ◌++◌, length, take, drop, Some, None, Option, vec_items}
use Rattle.std.specs.Io.KnownBytes.{Consumes, IsAtEnd}
use Rattle.lines.specs.Words.{before, behind}
use Rattle.lines.specs.declared.input.Input.{Input}
use Rattle.lines.specs.declared.input.Line.{Line}
use Rattle.lines.specs.declared.input.Line.TheVariants.{Whole, Cut}

-- the bytes that were read and not yet handed out
abbrev pub rest : Input → List ℕ
rest i = drop i.next (vec_items i.held)

-- the line that was handed out last
abbrev pub line_of : Input → List ℕ
line_of i = take (i.last - i.first) (drop i.first (vec_items i.held))

-- how a line is handed out of the bytes that were there and those that were read to get it:
-- up to the next newline, or all where the input is over and some byte is left
abbrev pub Handed : Option Line → (all line left : List ℕ) → Type 0
Handed (Some Whole) all line left = (line ≡ before 10 all) × (Some left ≡ behind 10 all)
Handed (Some Cut) all line left = (line ≡ all) × (None ≡ behind 10 all) × (left ≡ []) × (0 < length all)
Handed None all line left = (all ≡ []) × (left ≡ [])

-- the input is over where no line was handed out, or one that its end cut short
abbrev pub Over : Option Line → (input : Option (List ℕ)) → Type 0
Over (Some Whole) input = Unit {0}
Over (Some Cut) input = IsAtEnd input
Over None input = IsAtEnd input

-- how a line is handed out of the bytes that were left, and of those that were read to get it, which come from the input
abbrev pub HandedOut : Option Line → (left : List ℕ) (input_was input_is : Option (List ℕ)) (line left_is : List ℕ) → Type 0
HandedOut l r a b line s = (got : List ℕ) × Handed l (r ++ got) line s × Consumes a b got × Over l b
