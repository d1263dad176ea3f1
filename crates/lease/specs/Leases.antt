-- The tests on one lease, and on a list of them.
-- Assumes nothing.
use Rattle.std.specs.Prelude.{ℕ, Bool, not, ◌&&◌, ◌||◌, ◌==◌, nat_lt}
use Rattle.message.specs.declared.kind.Kind.{Kind}
use Rattle.message.specs.declared.kind.Kind.TheVariants.{Reading}
use Rattle.message.specs.Kinds.{writes}
use Rattle.part.specs.declared.head.Head.{Head}
use Rattle.message.specs.declared.form.Ask.{Ask}
use Rattle.lease.specs.declared.lease.Lease.{Lease}

-- it runs at this reading of the keeper's clock
abbrev pub running : (clock : ℕ) → Lease → Bool
running c l = nat_lt c l.until

-- it runs, is another's of the same part, and one of the two is for writing
abbrev pub barring : (clock who place : ℕ) → Kind → Lease → Bool
barring c w q k l = running c l && (l.place == q && (not (l.who == w) && (writes k || writes l.kind)))

-- it runs, and lets this borrower write this part
abbrev pub allowing : (clock who place : ℕ) → Lease → Bool
allowing c w q l = running c l && (l.place == q && (l.who == w && writes l.kind))

-- it is not one that this borrower gave back: of this part, for an ask up to this number
abbrev pub staying : (who place number : ℕ) → Lease → Bool
staying w q n l = not (l.who == w) || (not (l.place == q) || nat_lt n l.number)

-- the same of what a message of the code asks for, writes or gives back
abbrev pub barring_ask : (clock : ℕ) → Ask → Lease → Bool
barring_ask c a = barring c a.head.who.id a.head.place.at a.kind

abbrev pub allowing_write : (clock : ℕ) → Head → Lease → Bool
allowing_write c h = allowing c h.who.id h.place.at

abbrev pub staying_after : Head → Lease → Bool
staying_after h = staying h.who.id h.place.at h.number

-- it passes, and is this borrower's
abbrev pub of_borrower : (Lease → Bool) → (who : ℕ) → Lease → Bool
of_borrower p w l = p l && l.who == w

-- what a read past a list's end is taken for
abbrev pub no_lease : Lease
no_lease = record { who = 0; place = 0; kind = Reading; number = 0; until = 0 }
