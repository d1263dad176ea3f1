-- Numbers as bytes, high byte first, and what a write at a place of some bytes leaves.
-- Assumes nothing.
use Rattle.std.specs.Prelude.{◌≡◌, ℕ, ◌+◌, ◌/◌, ◌%◌, ◌<◌, ◌≤◌, List, [], ◌∷◌, ◌++◌, length, take, drop}

-- a number of 32 bits, high byte first
abbrev pub four : ℕ → List ℕ
four n = (n / 16777216 % 256) ∷ (n / 65536 % 256) ∷ (n / 256 % 256) ∷ (n % 256) ∷ []

-- xs with ys written over it from the place `at` on
abbrev pub placed : (at : ℕ) → (ys xs : List ℕ) → List ℕ
placed at ys xs = take at xs ++ (ys ++ drop (at + length ys) xs)

-- the borrower, the part and the number that most messages and records begin with, and what follows:
-- one byte each for the borrower, the file and the part in it, four for the number
abbrev pub headed : (who place number : ℕ) → (more : List ℕ) → List ℕ
headed w q n more = w ∷ (q / 256) ∷ (q % 256) ∷ (four n ++ more)

-- there is such a borrower and such a part, and the number has 32 bits
abbrev pub Named : (who place number : ℕ) → Type 0
Named w q n = (w < 32) × (q < 16384) × (n < 4294967296)

-- the four bytes of n stand in xs from the place `at` on
pub record Stands (xs : List ℕ) (at n : ℕ) : Type 0 where
  pub inside : at + 4 ≤ length xs
  pub small : n < 4294967296
  pub bytes : take 4 (drop at xs) ≡ four n
