-- What the records of a journal make of a state: of more bytes what they make of it after those before.
use Rattle.std.proofs.Common.{◌≡◌, ℕ, List, ◌++◌, fold, take, sym, refl, ap, ◌∙◌}
use Rattle.std.proofs.lemmas.List.Sums.{fold-append}
use Rattle.journal.specs.declared.record.Owner.{Owner}
use Rattle.journal.specs.Records.{Rec, AllSound, bytes_of, records_of}
use Rattle.journal.specs.Reading.{Cut}
use Rattle.journal.specs.Made.{IsMade}
use Rattle.journal.proofs.Readers.{cut_once}
use Rattle.journal.proofs.Grown.{grown_records, grown_whole}

-- what is made of a journal goes on being so when records are appended and redone
pub made_more : (o : Owner) {S : Type 0} (redo : S → Rec → S) (fresh d t : S) (rs : List Rec) → AllSound o rs → t ≡ fold redo d rs
    → (file : List ℕ) → IsMade o redo fresh d file → IsMade o redo fresh t (file ++ bytes_of rs)
made_more o redo fresh d t rs s m file h =
    record {
      whole = grown_whole o file (file ++ bytes_of rs) rs h.whole s refl;
      made = m ∙ ap (λ x. fold redo x rs) h.made ∙ sym (fold-append redo fresh (records_of o file) rs)
          ∙ ap (λ (q : List Rec). fold redo fresh q) (sym (grown_records o file (file ++ bytes_of rs) rs h.whole s refl));
    }

-- what is made of a journal is made of it when it is cut where its whole records end
pub made_of_cut : (o : Owner) {S : Type 0} (redo : S → Rec → S) (fresh d : S) (file : List ℕ) (n : ℕ) → Cut o file n
    → d ≡ fold redo fresh (records_of o file) → IsMade o redo fresh d (take n file)
made_of_cut o redo fresh d file n c m =
    let e = (cut_once o file n c).0 in
    record { whole = ap bytes_of e ∙ sym c.front; made = m ∙ ap (λ (q : List Rec). fold redo fresh q) (sym e) }
