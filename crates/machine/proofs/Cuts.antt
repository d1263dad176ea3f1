-- Bytes cut into messages, when one more comes.
-- Assumes nothing.
use Rattle.std.proofs.Common.{◌≡◌, ℕ, ◌-◌, ◌≤◌, List, [], ◌∷◌, ◌++◌, length, take, drop, sum, refl, sym, ap, ◌∙◌, arith}
use Rattle.std.proofs.lemmas.List.{take-append-le, drop-append-le, take_all, length-drop, length-append}
use Rattle.std.proofs.lemmas.List.Sums.{sum_by-cons}
use Rattle.machine.specs.Outboxes.{cut_by}

none : (bs : List ℕ) → length bs ≡ 0 → bs ≡ []
none [] e = refl
none (b ∷ bs) e = absurd (omega (arith, e))

pub no_messages : (bs : List ℕ) → cut_by [] bs ≡ []
unfolding cut_by
no_messages bs = refl

pub one_more : (ns bs m : List ℕ) → sum ns ≡ length bs → cut_by (ns ++ (length m ∷ [])) (bs ++ m) ≡ cut_by ns bs ++ (m ∷ [])
unfolding cut_by
one_more [] bs m e = rw (none bs (sym e)) (ap (λ (x : List ℕ). x ∷ []) (take_all (length m) m (omega arith)))
one_more (n ∷ ns) bs m e =
    let l : n ≤ length bs = omega (arith, e, sum_by-cons (λ (x : ℕ). x) n ns) in
    let d : sum ns ≡ length (drop n bs) = omega (arith, e, length-drop n bs, sum_by-cons (λ (x : ℕ). x) n ns) in
    ap (λ (x : List ℕ). x ∷ cut_by (ns ++ (length m ∷ [])) (drop n (bs ++ m))) (take-append-le n bs m l)
    ∙ ap (λ (x : List ℕ). take n bs ∷ cut_by (ns ++ (length m ∷ [])) x) (drop-append-le n bs m l)
    ∙ ap (λ (x : List (List ℕ)). take n bs ∷ x) (one_more ns (drop n bs) m d)

-- what an outbox has when one more message stands behind its bytes, and its size behind their sizes
pub sent_more : (ns ms bs cs m : List ℕ) (l : ℕ) → sum ns ≡ length bs → cs ≡ bs ++ m → ms ≡ ns ++ (l ∷ []) → l ≡ length cs - length bs
    → cut_by ms cs ≡ cut_by ns bs ++ (m ∷ [])
sent_more ns ms bs cs m l s c n e =
    let k : l ≡ length m = omega (arith, e, ap (λ (xs : List ℕ). length xs) c, length-append bs m) in
    rw n (rw c (rw k (one_more ns bs m s)))
