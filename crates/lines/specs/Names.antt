-- What one or two words name: a small number, a part, a kind of ask.
-- Assumes nothing.
use Rattle.std.specs.Prelude.{ℕ, ◌+◌, ◌*◌, cond, List, Some, None, Option, ◌==◌, nat_lt}
use Rattle.std.specs.Option.{option_map}
use Rattle.message.specs.declared.kind.Kind.{Kind}
use Rattle.message.specs.declared.kind.Kind.TheVariants.{Reading, Writing}
use Rattle.lines.specs.Chains.{and_then}
use Rattle.lines.specs.Decimals.{number_of}

-- the number that a word stands for, where it is below a limit
abbrev pub small_of : List ℕ → ℕ → Option ℕ
small_of w limit = and_then (number_of w) (λ n. cond (nat_lt n limit) (Some n) None)

-- the part of a file, by the number of each
abbrev pub place_of : (file part : List ℕ) → Option ℕ
place_of file part = and_then (small_of file 64) (λ f. option_map (λ p. 256 * f + p) (small_of part 256))

-- the kind of an ask: 0 reading, 1 writing
abbrev pub kind_of : List ℕ → Option Kind
kind_of w = and_then (number_of w) (λ n. cond (n == 0) (Some Reading) (cond (n == 1) (Some Writing) None))
