-- What the code has of what outlasts a stop, in the words of the rules.
use Rattle.std.specs.Prelude.{◌≡◌, ℕ, List, fold, vec_items, slice_index_or}
use Rattle.part.specs.Parts.{parts}
use Rattle.part.specs.declared.head.Head.{Head}
use Rattle.message.specs.Buffers.{Grown}
use Rattle.message.specs.Format.{Msg, Loan}
use Rattle.message.specs.declared.form.Ask.{Ask}
use Rattle.journal.specs.Records.{Rec, bytes_of}
use Rattle.machine.specs.declared.effects.Effects.{Effects}
use Rattle.keeping.specs.declared.numbers.Counts.{Counts}
use Rattle.keeping.specs.declared.numbers.Numbers.{Numbers}
use Rattle.keeping.specs.declared.durable.Durable as code
use Rattle.keeping.specs.Numbering.{no_numbers, counts_at}
use Rattle.keeping.specs.Rules.{Durable, at_2, redo, voids}

abbrev pub done_of : List Numbers → ℕ → ℕ → ℕ
done_of ns q i = (counts_at (slice_index_or ns q no_numbers) i).done

abbrev pub void_of : List Numbers → ℕ → ℕ → ℕ
void_of ns q i = (counts_at (slice_index_or ns q no_numbers) i).voided

abbrev pub durable_of : code.Durable → Durable
durable_of d = record {
  done = done_of (vec_items d.numbers);
  void = void_of (vec_items d.numbers);
  parts = parts d.files;
}

-- the two numbers of the part and the borrower that a head names
abbrev pub counts_for : Head → Durable → Counts
counts_for h d = record { done = d.done h.place.at h.who.id; voided = d.void h.place.at h.who.id }

-- the write that the head names is the last one applied, or the last one that is void
abbrev pub with_done : Head → Durable → Durable
with_done h d = record d { done = at_2 h.place.at h.who.id h.number d.done }

abbrev pub with_void : Head → Durable → Durable
with_void h d = record d { void = at_2 h.place.at h.who.id h.number d.void }

-- the records that an ask of the code makes, and the loan that answers it
abbrev pub voids_for : Ask → Durable → List Rec
voids_for a d = voids a.head.who.id a.head.place.at a.written d

abbrev pub loan_for : Ask → Durable → Msg
loan_for a d = Loan a.head.who.id a.head.place.at a.head.number a.kind (d.parts a.head.place.at)

-- these records are applied and given out, and no more comes of it
pub record Entered (rs : List Rec) (was is : code.Durable) (out out' : Effects) : Type 0 where
  pub durable : durable_of is ≡ fold redo (durable_of was) rs
  pub records : Grown out.records out'.records (bytes_of rs)
  pub rest : out' ≡ record out { records = out'.records }
