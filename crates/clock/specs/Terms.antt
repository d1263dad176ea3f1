-- The terms of leases: how long a lease runs for the borrower and for the keeper, and when that is safe for clocks that run off by a rate.
use Rattle.std.specs.Prelude.{ℕ, List, suc, ◌+◌, ◌-◌, ◌*◌, ◌<◌, ◌≤◌, cond, codes, Some, None, Option, nat_le, nat_lt}
use Rattle.clock.specs.Moments.{million, Moment, Later, Between}
use Rattle.clock.specs.declared.terms.Unfit.{Unfit}
use Rattle.clock.specs.declared.terms.Unfit.TheVariants.{RateTooHigh, ShortTooShort, LongTooLong, TooClose}

-- how far a borrower's lease reaches at most, and the keeper's at least, in parts that can be compared
abbrev pub short_reach : (rate short : ℕ) → ℕ
short_reach rate short = (short + 1) * (million + rate) + 2 * million

abbrev pub long_reach : (rate long : ℕ) → ℕ
long_reach rate long = (long - 1) * (million - rate)

-- terms that fit together: clocks run off by at most one in a hundred, a lease runs for at least a millisecond for the borrower
-- and for at most an hour for the keeper, and it ends for the borrower before it ends for the keeper, by any two clocks within the error
abbrev pub Fits : (rate short long : ℕ) → Type 0
Fits rate short long = (rate ≤ 10000) × (1 ≤ short) × (long ≤ 3600000) × (short_reach rate short ≤ long_reach rate long)

-- the first condition that fails, if one does
abbrev pub verdict : (rate short long : ℕ) → Option Unfit
verdict rate short long =
    cond (nat_lt 10000 rate) (Some RateTooHigh)
    (cond (nat_lt short 1) (Some ShortTooShort)
    (cond (nat_lt 3600000 long) (Some LongTooLong)
    (cond (nat_le (short_reach rate short) (long_reach rate long)) None (Some TooClose))))

-- what is printed of the condition that fails
abbrev pub unfit_text : Unfit → List ℕ
unfit_text RateTooHigh = codes "RATE is above 10000"
unfit_text ShortTooShort = codes "SHORT is below 1"
unfit_text LongTooLong = codes "LONG is above 3600000"
unfit_text TooClose = codes "LONG is too close to SHORT: (SHORT + 1)(1000000 + RATE) + 2000000 is above (LONG - 1)(1000000 - RATE)"

-- where a borrower's clock has gone on by less than short, the keeper's has gone on by less than long
abbrev pub Covers : (short long : ℕ) (o n : Moment) → Type 0
Covers short long o n = (i : ℕ) → n.hand (suc i) < o.hand (suc i) + short → n.hand 0 < o.hand 0 + long

-- the point of terms that fit: between any two moments within the error a lease that runs for a borrower still runs for the keeper
abbrev pub TermsSafe : Type 0
TermsSafe =
    (rate grain short long : ℕ) (o n : Moment) → 0 < grain → Fits rate short long → Later o n → Between rate grain o n → Covers short long o n
