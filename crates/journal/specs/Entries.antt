-- What a record of the code says, and what reading one says of the bytes.
use Rattle.std.specs.Prelude.{◌≡◌, ℕ, List, ◌++◌, length, drop}
use Rattle.std.specs.Prelude.{Ok, Err, Result, Some, None, Option}
use Rattle.message.specs.declared.form.Malformed.{Malformed}
use Rattle.journal.specs.declared.record.Owner.{Owner}
use Rattle.journal.specs.declared.entry.Entry.{Entry}
use Rattle.journal.specs.declared.entry.Entry.TheVariants as code
use Rattle.journal.specs.Records.{Rec, Applied, VoidUpTo, Numbers, layout, Sound, Torn, NoRecord}

abbrev pub rec_of : Entry → Rec
rec_of (code.Applied h p) = Applied h.who.id h.place.at h.number p.now
rec_of (code.VoidUpTo h) = VoidUpTo h.who.id h.place.at h.number
rec_of (code.Numbers p a w) = Numbers p.at a w

-- what some bytes begin with: this record, of so many bytes;
-- less than the record that their first byte announces; or neither
abbrev pub Begins : Owner → (bs : List ℕ) → Result (Option (Entry × ℕ)) Malformed → Type 0
Begins o bs (Ok (Some (e, n))) =
    Sound o (rec_of e) × (n ≡ length (layout (rec_of e)))
    × (bs ≡ layout (rec_of e) ++ drop n bs)
Begins o bs (Ok None) = Torn o bs
Begins o bs (Err x) = (Torn o bs → ⊥) × NoRecord o bs
