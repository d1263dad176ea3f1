-- What was made of a journal is what its whole records make.
use Rattle.std.proofs.Common.{◌≡◌, ℕ, List, take, fold, sym, ap, ◌∙◌}
use Rattle.journal.specs.declared.record.Owner.{Owner}
use Rattle.journal.specs.Records.{Rec, bytes_of, records_of}
use Rattle.journal.specs.Reading.{Cut}
use Rattle.journal.specs.Made.{IsMade}
use Rattle.journal.proofs.Journals.{front_is_records}
use Rattle.journal.proofs.Grown.{read_all}

module _ (o : Owner) (bs : List ℕ) (n : ℕ) (c : Cut o bs n) where
  pub read_again : records_of o (take n bs) ≡ records_of o bs
  read_again = ap (records_of o) c.front ∙ read_all o (records_of o bs) (front_is_records o bs).0

  pub made_of_whole : {D : Type 0} (redo : D → Rec → D) (fresh d : D)
      → d ≡ fold redo fresh (records_of o bs) → IsMade o redo fresh d (take n bs)
  made_of_whole redo fresh d m =
      record {
        whole = ap bytes_of read_again ∙ sym c.front;
        made = m ∙ ap (λ (rs : List Rec). fold redo fresh rs) (sym read_again);
      }
