-- The first place of a byte, as the kit's search says it, is its position.
-- Assumes nothing.
use Rattle.std.proofs.Common.{◌≡◌, ℕ, zero, suc, ◌+◌, ◌<◌, ◌≤◌, Bool, true, false, not, cond, ltb, List, [], ◌∷◌, length, get_or, Some, None, Option, refl, sym, ap, ◌∙◌, arith}
use Rattle.std.specs.List.{position, position_or_len}
use Rattle.std.proofs.lemmas.Bool.{lt-ltb, cond-true, both_ways}
use Rattle.std.proofs.lemmas.List.Quantifiers.{position-Some}
use Rattle.memchr.specs.Find.{IsFirstByte}

one_more : (b : Bool) (n k : ℕ) → n ≤ k → cond (not b) (1 + n) 0 ≤ suc k
one_more true n k h = omega arith
one_more false n k h = omega (arith, h)

one_place : (k i : ℕ) → (i < k → ⊥) → (k < i → ⊥) → k ≡ i
one_place k i a c = omega (arith, a, c)

-- a byte that passes stands at the first place that does, or behind it
reached : (p : ℕ → Bool) (xs : List ℕ) (k : ℕ) → k < length xs → p (get_or xs k 0) ≡ true → position_or_len p xs ≤ k
reached p [] k h e = absurd (omega (arith, h))
reached p (x ∷ xs) zero h e = rw e (omega arith)
reached p (x ∷ xs) (suc k) h e = one_more (p x) (position_or_len p xs) k (reached p xs k (omega (arith, h)) e)

pub first_is : (p : ℕ → Bool) (xs : List ℕ) (r : Option ℕ) → IsFirstByte p xs r → r ≡ position p xs
first_is p xs r h = go r (position p xs) refl h
  where
    go : (r o : Option ℕ) → position p xs ≡ o → IsFirstByte p xs r → r ≡ position p xs
    go None None e n = sym e
    go None (Some i) e n =
        let s = position-Some p xs i 0 e in
        absurd (n i (omega arith) s.0 s.1)
    go (Some k) None e (b, t) =
        absurd (cc (e, cond-true (ltb (position_or_len p xs) (length xs)) (Some (position_or_len p xs)) None (lt-ltb (position_or_len p xs) (length xs) (omega (arith, reached p xs k b.high t, b.high)))))
    go (Some k) (Some i) e (b, t) =
        let s = position-Some p xs i 0 e in
        ap (λ (n : ℕ). Some n) (one_place k i (λ l. b.before i (omega arith) l s.1) (λ l. both_ways (p (get_or xs k 0)) (s.2 k l) t)) ∙ sym e
