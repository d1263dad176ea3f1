-- What the records of a journal make of a state that they are applied to, one after another.
use Rattle.std.specs.Prelude.{◌≡◌, List, ℕ, ◌++◌, fold, Ok, Err, Result}
use Rattle.message.specs.declared.form.Malformed.{Malformed}
use Rattle.journal.specs.declared.record.Owner.{Owner}
use Rattle.journal.specs.declared.replay.OpenError.{OpenError}
use Rattle.journal.specs.declared.replay.OpenError.TheVariants as why
use Rattle.journal.specs.Records.{Rec, bytes_of, records_of}
use Rattle.journal.specs.Reading.{Cut, Refused, Judged}

-- what is known of a journal of which these bytes were read: where its whole records end,
-- or that it is refused. Without memory, and where it can't be read on, nothing is known
abbrev pub Opened : Owner → (bs : List ℕ) → Result ℕ OpenError → Type 0
Opened o bs (Ok n) = Cut o bs n
Opened o bs (Err (why.Malformed p)) = (p ≡ o) × Refused o bs
Opened o bs (Err why.NoMemory) = Unit {0}
Opened o bs (Err (why.Store e)) = Unit {0}

module _ (o : Owner) {S : Type 0} (redo : S → Rec → S) where
  -- the file is whole records and nothing else, and d is what they make of a fresh state
  pub record IsMade (fresh d : S) (file : List ℕ) : Type 0 where
    pub whole : bytes_of (records_of o file) ≡ file
    pub made : d ≡ fold redo fresh (records_of o file)

  -- the whole records of the bytes were applied, up to where they end;
  -- or the bytes are refused, and none was
  abbrev pub Replayed : (bs : List ℕ) → (s t : S) → Result ℕ Malformed → Type 0
  Replayed bs s t (Ok n) = Cut o bs n × (t ≡ fold redo s (records_of o bs))
  Replayed bs s t (Err e) = Refused o bs × (t ≡ s)

  -- some bytes were read behind what was read before, and their whole records were applied,
  -- whatever the answer is
  pub record ReadThrough (was is : List ℕ) (s t : S) (r : Result ℕ OpenError) : Type 0 where
    pub bytes : List ℕ
    pub read : is ≡ was ++ bytes
    pub made : t ≡ fold redo s (records_of o bytes)
    pub opened : Opened o bytes r

  -- the whole records of the bytes were applied, whatever follows them
  pub record Redone (bs : List ℕ) (s t : S) (r : Result ℕ Malformed) : Type 0 where
    pub made : t ≡ fold redo s (records_of o bs)
    pub judged : Judged o bs r
