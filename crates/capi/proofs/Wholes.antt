-- The first 1,024 bytes of 1,024.
-- Assumes nothing.
use Rattle.std.proofs.Common.{◌≡◌, ◌≢◌, ℕ, ◌<◌, List, length, Some, None, Option, MatchOption, ◌∙◌, arith, Bor}
use Rattle.std.specs.Array.{IsFirstChunk}
use Rattle.std.proofs.lemmas.List.{take_all}

pub whole : (r : Option (Bor (List ℕ))) (bs : List ℕ) → length bs ≡ 1024 → MatchOption r (length bs < 1024) (λ v. IsFirstChunk bs v.now 1024)
    → MatchOption r (length bs ≢ 1024) (λ v. (v.now ≡ bs) × (length bs ≡ 1024))
whole None bs l h = absurd (omega (arith, l, h))
whole (Some v) bs l h = (h.same ∙ take_all 1024 bs (omega (arith, l)), l)
