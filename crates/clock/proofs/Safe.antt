-- Terms that fit are safe for clocks within the error.
use Rattle.std.proofs.Common.{ℕ, zero, suc, ◌+◌, ◌-◌, ◌*◌, ◌<◌, ◌≤◌, ⊎_elim, mul-le-mul_right, arith}
use Rattle.std.proofs.lemmas.Bool.{cases_lt}
use Rattle.clock.specs.Moments.{million}
use Rattle.clock.specs.Terms.{TermsSafe, short_reach, long_reach}

-- e and f are a million less and plus the rate, g a millisecond in millionths of a unit
crossed : (e f g time x y short long : ℕ) → 0 < g → time * e ≤ (x + 1) * g → x < short → y * g ≤ time * f + g → short * f < long * e → long < y → ⊥
crossed e f g time x y short long pos slow small fast apart big =
    let a : time * e * f ≤ (x + 1) * g * f = mul-le-mul_right f slow in
    let b : y * g * e ≤ (time * f + g) * e = mul-le-mul_right e fast in
    let c : suc x * (g * f) ≤ short * (g * f) = mul-le-mul_right (g * f) small in
    let d : suc long * (g * e) ≤ y * (g * e) = mul-le-mul_right (g * e) big in
    let h : suc (short * f) * g ≤ long * e * g = mul-le-mul_right g apart in
    omega arith

not_above : (a b : ℕ) → (b ≤ a → ⊥) → a < b
not_above a b h = ⊎_elim (λ l. l) (λ l. absurd (h l)) (cases_lt a b)

-- terms that fit have a long of at least one, so that one less than it is reached too
one_less : (rate short long y : ℕ) → short_reach rate short ≤ long_reach rate long → long ≤ y → long - 1 < y
one_less rate short zero y apart h = absurd (omega arith)
one_less rate short (suc long) y apart h = omega arith

pub terms_safe : TermsSafe
terms_safe rate grain short long o n pos fits later between i runs =
    not_above _ _
    (λ over.
    crossed (million - rate) (million + rate) (million * grain) (n.true - o.true) (n.hand (suc i) - o.hand (suc i)) (n.hand 0 - o.hand 0) short (long - 1) (omega arith)
    (omega (arith, (between (suc i)).slow)) (omega (arith, later.hand (suc i))) (omega (arith, (between 0).fast)) (omega (arith, fits.3))
    (one_less rate short long (n.hand 0 - o.hand 0) fits.3 (omega arith)))
