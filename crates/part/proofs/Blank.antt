-- Zeros are blank parts.
-- Assumes nothing.
use Rattle.std.proofs.Common.{◌≡◌, ℕ, cond, ltb, List, [], get_or, replicate, ap, ◌∙◌, arith}
use mathlib.Core.Path.{fun_ext}
use Rattle.std.proofs.lemmas.List.{length-replicate, get_or-replicate, get_or_past}
use Rattle.std.proofs.lemmas.Bool.{cond_both, ltb-true, ltb-false}
use Rattle.part.specs.Parts.{blank}

some_of : (n q : ℕ) (z : List ℕ) → get_or (replicate n z) q [] ≡ cond (ltb q n) z []
some_of n q z =
    cond_both (ltb q n) z [] (λ x. get_or (replicate n z) q [] ≡ x)
    (λ h. get_or-replicate n q z [] (ltb-true q n h))
    (λ h. get_or_past (replicate n z) q [] (omega (arith, ltb-false q n h, length-replicate n z)))

pub all_blank : (xs : List (List ℕ)) → xs ≡ replicate 16384 (replicate {A = ℕ} 1024 0) → (λ q. get_or xs q []) ≡ blank
unfolding blank
all_blank xs e = fun_ext (λ q. ap (λ (ys : List (List ℕ)). get_or ys q []) e ∙ some_of 16384 q (replicate {A = ℕ} 1024 0))
