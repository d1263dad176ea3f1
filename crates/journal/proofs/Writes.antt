-- What writing a record leaves, one write after another.
-- Assumes nothing.
use Rattle.std.proofs.Common.{◌≡◌, ℕ, ◌/◌, ◌%◌, ◌≤◌, List, [], ◌∷◌, ◌++◌, length, drop, set, refl, arith}
use Rattle.part.specs.Bytes.{placed, four, headed}
use Rattle.part.proofs.Writes.{next}
use Rattle.journal.specs.Records.{Rec, Applied, Numbers, layout}

-- so many bytes, and the record stands in front
abbrev pub Wrote : ℕ → Rec → List ℕ → List ℕ → Type 0
Wrote r m xs out = (r ≡ length (layout m)) × (out ≡ layout m ++ drop r xs)

pub applied_wrote : (w q n : ℕ) (xs was v out : List ℕ) (m : Rec) → m ≡ Applied w q n v → was ≡ (8 ∷ headed w q n []) ++ drop 8 xs
    → length v ≡ 1024 → out ≡ placed 8 v was → Wrote 1032 m xs out
applied_wrote w q n xs was v out m i e lv o = rw i (omega arith, next 8 1024 (8 ∷ headed w q n []) out xs v was refl lv e o)

-- the first three bytes, written one by one
three : (a b c : ℕ) (xs : List ℕ) → 3 ≤ length xs → set (set (set xs 0 a) 1 b) 2 c ≡ (a ∷ b ∷ c ∷ []) ++ drop 3 xs
three a b c [] l = absurd (omega arith)
three a b c (x ∷ []) l = absurd (omega arith)
three a b c (x ∷ y ∷ []) l = absurd (omega arith)
three a b c (x ∷ y ∷ z ∷ xs) l = refl

pub numbers_wrote : (q a w f p : ℕ) (xs was out : List ℕ) (m : Rec) → m ≡ Numbers q a w → 11 ≤ length xs → f ≡ q / 256 → p ≡ q % 256
    → was ≡ placed 3 (four a) (set (set (set xs 0 10) 1 f) 2 p) → out ≡ placed 7 (four w) was → Wrote 11 m xs out
numbers_wrote q a w f p xs was out m i l fe pe e o =
    rw (i, ← fe, ← pe) (
      refl,
      next 7 4 (10 ∷ f ∷ p ∷ four a) out xs (four w) was refl refl
          (next 3 4 (10 ∷ f ∷ p ∷ []) was xs (four a) _ refl refl (three 10 f p xs (omega arith)) e) o,
    )
