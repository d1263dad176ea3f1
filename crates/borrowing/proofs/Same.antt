-- A list in which all items are the same one.
-- Assumes nothing.
use Rattle.std.proofs.Common.{◌≡◌, ℕ, get_or, replicate, inl, inr, arith}
use Rattle.std.proofs.lemmas.List.{get_or_past, get_or-replicate, length-replicate}
use Rattle.std.proofs.lemmas.Bool.{cases_lt}

pub all_same : {X : Type 0} (n : ℕ) (x : X) (q : ℕ) → get_or (replicate n x) q x ≡ x
all_same n x q =
    elim (cases_lt q n) [
      | inl h ↦ get_or-replicate n q x x h
      | inr h ↦ get_or_past (replicate n x) q x (simp length-replicate (omega arith))
    ]
