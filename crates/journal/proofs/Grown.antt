-- A journal of whole records to which more are appended.
-- Assumes nothing.
use Rattle.std.proofs.Common.{◌≡◌, ℕ, List, [], ◌++◌, sym, ap, ◌∙◌, append-nil}
use Rattle.std.proofs.lemmas.Grind.{flat_map-append}
use Rattle.journal.specs.declared.record.Owner.{Owner}
use Rattle.journal.specs.Records.{Rec, layout, AllSound, bytes_of, records_of}
use Rattle.journal.proofs.Journals.{front_is_records, read_back, torn_end}

-- records and nothing else
pub read_all : (o : Owner) (rs : List Rec) → AllSound o rs → records_of o (bytes_of rs) ≡ rs
read_all o rs h = ap (records_of o) (sym (append-nil (bytes_of rs))) ∙ torn_end o rs h [] tt

module _ (o : Owner) (was is : List ℕ) (rs : List Rec) (whole : bytes_of (records_of o was) ≡ was) (sound : AllSound o rs) (grown : is ≡ was ++ bytes_of rs) where
  pub grown_records : records_of o is ≡ records_of o was ++ rs
  grown_records =
      ap (records_of o) (grown ∙ ap (λ (q : List ℕ). q ++ bytes_of rs) (sym whole)) ∙ read_back o (records_of o was) (front_is_records o was).0 (bytes_of rs)
      ∙ ap (λ (q : List Rec). records_of o was ++ q) (read_all o rs sound)

  pub grown_whole : bytes_of (records_of o is) ≡ is
  grown_whole =
      ap bytes_of grown_records ∙ flat_map-append layout (records_of o was) rs ∙ ap (λ (q : List ℕ). q ++ bytes_of rs) whole ∙ sym grown
