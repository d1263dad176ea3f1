-- What is made of a journal that is read.
use Rattle.std.specs.Prelude.{◌≡◌, ℕ, List, ◌++◌, take, Ok, Err, Result, None, Option}
use Rattle.journal.specs.declared.record.Owner.{Owner}
use Rattle.journal.specs.declared.replay.OpenError.{OpenError}
use Rattle.journal.specs.declared.replay.OpenError.TheVariants as why
use Rattle.journal.specs.Made.{IsMade}
use Rattle.journal.specs.Reading.{Cut, Refused}
use Rattle.journal.specs.Records.{Rec}

module _ (o : Owner) {M T D V : Type 0} (redo : D → Rec → D) (fresh : D) (t : T) (terms : M → T)
    (durable : M → D) (volatile : M → Option V) where
  -- of the bytes of a journal: a machine with the terms t that has not come up and has what the
  -- whole records make, and where they end; or that something else stands in it. Without memory,
  -- and where it can't be read on, nothing is known
  abbrev pub Opened : (bs : List ℕ) → Result (M × ℕ) OpenError → Type 0
  Opened bs (Ok x) =
      Cut o bs x.1 × IsMade o redo fresh (durable x.0) (take x.1 bs)
      × (terms x.0 ≡ t) × (volatile x.0 ≡ None)
  Opened bs (Err (why.Malformed p)) = (p ≡ o) × Refused o bs
  Opened bs (Err why.NoMemory) = Unit {0}
  Opened bs (Err (why.Store e)) = Unit {0}

  -- the same of bytes that were read behind what was read before
  abbrev pub OpenedAs : (was is : List ℕ) → Result (M × ℕ) OpenError → Type 0
  OpenedAs was is r = (bs : List ℕ) × (is ≡ was ++ bs) × Opened bs r

  -- the same of all these bytes, or, where something else stands in them, of so many first ones
  abbrev pub Reread : (bs : List ℕ) → Result (M × ℕ) OpenError → Type 0
  Reread bs (Ok x) = Opened bs (Ok x)
  Reread bs (Err e) = (n : ℕ) × Opened (take n bs) (Err e)
