-- Which texts are decimal numbers of 64 bits, and the number that each stands for.
-- Assumes nothing.
use Rattle.std.specs.Prelude.{ℕ, ◌+◌, ◌-◌, ◌*◌, ◌^◌, Bool, true, false, cond, ◌&&◌, List, [], ◌∷◌, Some, None, Option, nat_le, nat_lt}

-- the byte is one of the ten digits
abbrev pub is_digit : ℕ → Bool
is_digit b = nat_le 48 b && nat_le b 57

abbrev pub all_digits : List ℕ → Bool
all_digits [] = true
all_digits (b ∷ bs) = is_digit b && all_digits bs

-- the number that digits stand for after a number whose digits come before them
abbrev pub value_after : ℕ → List ℕ → ℕ
value_after n [] = n
value_after n (b ∷ bs) = value_after (n * 10 + (b - 48)) bs

-- a number with one more digit behind it, where the byte is a digit and 64 bits hold the number
abbrev pub appended : ℕ → ℕ → Option ℕ
appended n b = cond (is_digit b && nat_lt (n * 10 + (b - 48)) (2 ^ 64)) (Some (n * 10 + (b - 48))) None

-- the number that digits stand for, in base ten
abbrev pub digits_value : List ℕ → ℕ
digits_value bs = value_after 0 bs

-- the text is a number of 64 bits: one digit or more and nothing else, and the value is not too large
abbrev pub is_number : List ℕ → Bool
is_number [] = false
is_number (b ∷ bs) = all_digits (b ∷ bs) && nat_lt (digits_value (b ∷ bs)) (2 ^ 64)

-- the number that a text stands for, where it is one
unfoldable pub number_of : List ℕ → Option ℕ
number_of bs = cond (is_number bs) (Some (digits_value bs)) None
