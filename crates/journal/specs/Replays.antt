-- What a journal makes of a state that its records are applied to, one after another.
-- Assumes nothing.
use Rattle.std.specs.Prelude.{◌≡◌, ℕ, List, [], ◌∷◌, ◌++◌, codes, Ok, Err, Result}
use Rattle.message.specs.declared.form.Malformed.{Malformed}
use Rattle.journal.specs.declared.record.Owner.{Owner}
use Rattle.journal.specs.declared.record.Owner.TheVariants as owner
use Rattle.journal.specs.declared.replay.OpenError.{OpenError}
use Rattle.journal.specs.declared.replay.OpenError.TheVariants as why
use Rattle.journal.specs.Records.{Rec, records_of}
use Rattle.journal.specs.Reading.{Cut, Refused}

-- from the state s through these records, in their order, to the state t, where P says what one record makes of a state
abbrev pub Through : {S : Type 0} → (P : S → Rec → S → Type 0) → S → List Rec → S → Type 0
Through P s [] t = s ≡ t
Through {S = S} P s (r ∷ rs) t = (m : S) × P s r m × Through P m rs t

-- where the whole records end, and that the state went through them; or that the journal is refused and the state is as it was
abbrev pub Replayed : {S : Type 0} → (P : S → Rec → S → Type 0) → Owner → List ℕ → (s t : S) → Result ℕ Malformed → Type 0
Replayed P o bs s t (Ok n) = Cut o bs n × Through P s (records_of o bs) t
Replayed P o bs s t (Err e) = Refused o bs × (s ≡ t)

-- what was read of a file behind what was read before is what its records are of: where the whole ones end, and that the state went
-- through them; or that it is refused, and nothing more was read. Where the file can't be read on, nothing is known of the state;
-- for want of memory it never fails
abbrev pub ReadThrough : {S : Type 0} → (P : S → Rec → S → Type 0) → Owner → (was is : List ℕ) → (s t : S) → Result ℕ OpenError → Type 0
ReadThrough P o was is s t (Ok n) = (bs : List ℕ) × (is ≡ was ++ bs) × Cut o bs n × Through P s (records_of o bs) t
ReadThrough P o was is s t (Err why.NoMemory) = ⊥
ReadThrough P o was is s t (Err (why.Malformed p)) = (p ≡ o) × (bs : List ℕ) × (is ≡ was ++ bs) × Refused o bs
ReadThrough P o was is s t (Err (why.Store e)) = Unit {0}

-- what is printed where no journal was opened
abbrev pub unopened_text : OpenError → List ℕ
unopened_text why.NoMemory = codes "there is no memory for the parts"
unopened_text (why.Malformed owner.Keeper) = codes "FILE is no journal of a keeper; it is left as it is"
unopened_text (why.Malformed owner.Borrower) = codes "FILE is no journal of a borrower; it is left as it is"
unopened_text (why.Store e) = codes "FILE could not be read, cut or synced"
