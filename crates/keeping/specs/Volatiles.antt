-- What the code has of what a stop takes away, in the words of the rules.
use Rattle.std.specs.Prelude.{ℕ}
use Rattle.message.specs.declared.form.Ask.{Ask}
use Rattle.lease.specs.Tables.{leases}
use Rattle.keeping.specs.declared.volatile.Volatile as code
use Rattle.keeping.specs.Rules.{Volatile, lend}

abbrev pub volatile_of : code.Volatile → Volatile
volatile_of v = record { leases = leases v.table; quiet = v.quiet }

-- a lease for an ask of the code is added
abbrev pub lend_for : (long clock : ℕ) → Ask → Volatile → Volatile
lend_for l c a v = lend l c a.head.who.id a.head.place.at a.head.number a.kind v
