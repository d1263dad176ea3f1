-- What a tablet is after coming up from its journal.
-- Assumes nothing.
use Rattle.std.specs.Prelude.{◌≡◌, ℕ, List, ◌++◌, take, Ok, Err, Result}
use Rattle.part.specs.declared.who.Who.{Who}
use Rattle.part.specs.Parts.{blank}
use Rattle.journal.specs.declared.record.Owner.TheVariants as owner
use Rattle.journal.specs.declared.replay.OpenError.{OpenError}
use Rattle.journal.specs.declared.replay.OpenError.TheVariants as why
use Rattle.journal.specs.Reading.{Cut, Refused}
use Rattle.borrower.specs.declared.tablet.Tablet.{Tablet}
use Rattle.borrower.specs.Steps.{risen}
use Rattle.borrower.specs.Tablets.{part_at, filed_at, copy_at}
use Rattle.borrower.specs.OnDisk.{numbers_in, OnDisk}

-- it holds nothing, has no copies, and has the numbers that its journal says
pub record CameUp (w : Who) (s : ℕ) (file : List ℕ) (t : Tablet) : Type 0 where
  pub filed : filed_at t ≡ numbers_in file
  pub parts : part_at t ≡ (λ q. risen (filed_at t q))
  pub copies : copy_at t ≡ blank
  pub short : t.short ≡ s
  pub who : t.who ≡ w

-- what a journal that is read gives, of which these bytes come behind what was read before: a tablet that came up, and where the whole
-- records end, which say what it has on file; one with something else in it is refused
abbrev pub OpenedAs : (was is : List ℕ) → Who → (short : ℕ) → Result (Tablet × ℕ) OpenError → Type 0
OpenedAs was is w s (Ok x) = (bs : List ℕ) × (is ≡ was ++ bs) × Cut owner.Borrower bs x.1 × CameUp w s bs x.0 × OnDisk x.0 (take x.1 bs)
OpenedAs was is w s (Err why.NoMemory) = is ≡ was
OpenedAs was is w s (Err (why.Malformed o)) = (o ≡ owner.Borrower) × (bs : List ℕ) × (is ≡ was ++ bs) × Refused owner.Borrower bs
OpenedAs was is w s (Err (why.Store e)) = Unit {0}
