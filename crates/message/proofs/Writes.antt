-- What writing a message leaves, one write after another.
-- Assumes nothing.
use Rattle.std.proofs.Common.{◌≡◌, ℕ, ◌<◌, ◌≤◌, List, [], ◌∷◌, ◌++◌, length, drop, set, refl, ap, ◌∙◌, arith}
use Rattle.std.proofs.lemmas.List.{length-drop}
use Rattle.part.specs.Bytes.{placed, four, headed}
use Rattle.part.proofs.Writes.{put_one, next}
use Rattle.message.specs.declared.kind.Kind.{Kind}
use Rattle.message.specs.Kinds.{kind_byte}
use Rattle.message.specs.Format.{Msg, Ask, Loan, Write, layout}

-- it is this message, and it stands in front
abbrev pub Wrote : ℕ → Msg → List ℕ → List ℕ → Type 0
Wrote r m xs out = (r ≡ length (layout m)) × (out ≡ layout m ++ drop r xs)

module _ (w q n : ℕ) (xs was : List ℕ) where
  -- one more byte behind a head
  one_more : (t b : ℕ) → was ≡ (t ∷ headed w q n []) ++ drop 8 xs → 9 ≤ length xs → set was 8 b ≡ (t ∷ headed w q n (b ∷ [])) ++ drop 9 xs
  one_more t b e l =
      let h : 8 < length was = omega (arith, simp length-drop at (ap length e)) in
      next 8 1 (t ∷ headed w q n []) (set was 8 b) xs (b ∷ []) was refl refl e (put_one 8 was b h)

  pub ask_wrote : was ≡ (1 ∷ headed w q n []) ++ drop 8 xs → (k : Kind) (l b : ℕ) (out : List ℕ) (m : Msg) → m ≡ Ask w q n k l
      → 13 ≤ length xs → b ≡ kind_byte k → out ≡ placed 9 (four l) (set was 8 b) → Wrote 13 m xs out
  ask_wrote e k l b out m i f g o =
      rw i (
        refl,
        next 9 4 (1 ∷ headed w q n (b ∷ [])) out xs (four l) _ refl refl (one_more 1 b e (omega arith)) o ∙ rw g refl,
      )

  pub loan_wrote : was ≡ (2 ∷ headed w q n []) ++ drop 8 xs → (k : Kind) (v : List ℕ) (b : ℕ) (out : List ℕ) (m : Msg) → m ≡ Loan w q n k v
      → 1033 ≤ length xs → length v ≡ 1024 → b ≡ kind_byte k → out ≡ placed 9 v (set was 8 b) → Wrote 1033 m xs out
  loan_wrote e k v b out m i f lv g o =
      rw i (
        omega arith,
        next 9 1024 (2 ∷ headed w q n (b ∷ [])) out xs v _ refl lv (one_more 2 b e (omega arith)) o ∙ rw g refl,
      )

  pub write_wrote : was ≡ (3 ∷ headed w q n []) ++ drop 8 xs → (v : List ℕ) (out : List ℕ) (m : Msg) → m ≡ Write w q n v
      → length v ≡ 1024 → out ≡ placed 8 v was → Wrote 1032 m xs out
  write_wrote e v out m i lv o = rw i (omega arith, next 8 1024 (3 ∷ headed w q n []) out xs v was refl lv e o)
