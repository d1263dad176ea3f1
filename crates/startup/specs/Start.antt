-- Why a program does not start, by the numbers that its arguments stand for.
-- Assumes nothing.
use Rattle.std.specs.Prelude.{ℕ, List, codes, Some, None, Option}
use Rattle.clock.specs.declared.terms.Unfit.{Unfit as Reason}
use Rattle.clock.specs.Terms.{unfit_text, verdict}
use Rattle.startup.specs.declared.NoStart.{NoStart}
use Rattle.startup.specs.declared.NoStart.TheVariants.{NoNumber, Unfit}

abbrev pub unfit_start : Reason → NoStart
unfit_start u = Unfit u

-- what is printed of it
abbrev pub no_start_text : NoStart → List ℕ
no_start_text NoNumber = codes "RATE, SHORT and LONG are numbers, decimal digits only"
no_start_text (Unfit u) = unfit_text u

abbrev pub verdict_of : Option Reason → Option NoStart
verdict_of None = None
verdict_of (Some u) = Some (unfit_start u)

-- nothing where all is well
abbrev pub why : (rate short long : Option ℕ) → Option NoStart
why None s l = Some NoNumber
why (Some r) None l = Some NoNumber
why (Some r) (Some s) None = Some NoNumber
why (Some r) (Some s) (Some l) = verdict_of (verdict r s l)
