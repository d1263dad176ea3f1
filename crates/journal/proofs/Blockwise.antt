-- A journal that is read in blocks: what was applied so far, and what is left over of each.
use Rattle.std.proofs.Common.{◌≡◌, ℕ, ◌+◌, List, [], ◌++◌, length, drop, fold, Ok, Err, Result, IsErr, IsErrAnd, sym, refl, ap, ◌∙◌, subst, arith}
use Rattle.std.proofs.lemmas.List.{append_assoc, append-nil}
use Rattle.std.proofs.lemmas.List.Sums.{fold-append}
use Rattle.message.specs.declared.form.Malformed.{Malformed}
use Rattle.journal.specs.declared.record.Owner.{Owner}
use Rattle.journal.specs.declared.replay.OpenError.{OpenError}
use Rattle.journal.specs.declared.replay.OpenError.TheVariants as why
use Rattle.journal.specs.declared.store.StoreError.{StoreError}
use Rattle.journal.specs.Records.{Rec, bytes_of, records_of}
use Rattle.journal.specs.Reading.{Cut, Refused}
use Rattle.journal.specs.Made.{Opened, ReadThrough, Redone}
use Rattle.journal.proofs.Parses.{torn_none}
use Rattle.journal.proofs.Journals.{none}
use Rattle.journal.proofs.Cuts.{records_on, left_on, cut_on, refused_on}

no_records : (o : Owner) → records_of o [] ≡ []
no_records o = none o [] (torn_none o [] tt)

no_memory : (o : Owner) (bs : List ℕ) (r : Result ℕ OpenError) → IsErr r × IsErrAnd r (λ e. e ≡ why.NoMemory) → Opened o bs r
no_memory o bs (Ok n) h = let f = h.0 in absurd (cc)
no_memory o bs (Err why.NoMemory) h = tt
no_memory o bs (Err (why.Malformed p)) h = let f = h.1 in absurd (cc)
no_memory o bs (Err (why.Store e)) h = tt

module _ {S : Type 0} (redo : S → Rec → S) (o : Owner) (was : List ℕ) (s : S) where
  -- nothing was read for want of memory
  pub unread : (r : Result ℕ OpenError) → IsErr r × IsErrAnd r (λ e. e ≡ why.NoMemory) → ReadThrough o redo was was s s r
  unread r h =
      record { bytes = []; read = sym (append-nil was); made = ap (λ (rs : List Rec). fold redo s rs) (sym (no_records o)); opened = no_memory o [] r h }

  -- what was read so far and applied: these bytes, of which the last are left over
  pub record Ahead (had : List ℕ) (m : S) (size : ℕ) (left : List ℕ) : Type 0 where
    pub bytes : List ℕ
    pub read : had ≡ was ++ bytes
    pub cut : Cut o bytes size
    pub made : m ≡ fold redo s (records_of o bytes)
    pub over : left ≡ drop size bytes

  pub ahead_none : (left : List ℕ) → left ≡ [] → Ahead was s 0 left
  ahead_none left l =
      let e = no_records o in
      record {
        bytes = [];
        read = sym (append-nil was);
        cut = record { long = ap (λ (rs : List Rec). length (bytes_of rs)) (sym e); front = ap bytes_of (sym e); within = omega arith; torn = tt };
        made = ap (λ (rs : List Rec). fold redo s rs) (sym e);
        over = l;
      }

  -- where more came behind what was left over: its records are those of both
  module _ (had is : List ℕ) (m t : S) (size : ℕ) (left got block : List ℕ) (a : Ahead had m size left)
      (e : is ≡ had ++ got) (f : block ≡ left ++ got) where
    abbrev all : List ℕ
    all = a.bytes ++ got

    block_is : block ≡ drop size a.bytes ++ got
    block_is = f ∙ ap (λ (q : List ℕ). q ++ got) a.over

    all_read : is ≡ was ++ all
    all_read = e ∙ ap (λ (q : List ℕ). q ++ got) a.read ∙ append_assoc was a.bytes got

    all_made : t ≡ fold redo m (records_of o block) → t ≡ fold redo s (records_of o all)
    all_made h =
        let rs : List Rec = records_of o (drop size a.bytes ++ got) in
        h ∙ ap (λ (q : List ℕ). fold redo m (records_of o q)) block_is ∙ ap (λ x. fold redo x rs) a.made
        ∙ sym (fold-append redo s (records_of o a.bytes) rs) ∙ ap (λ (q : List Rec). fold redo s q) (sym (records_on o a.bytes got size a.cut))

    pub ahead_more : (done next : ℕ) (over : List ℕ) → Redone o redo block m t (Ok done) → next ≡ size + done → over ≡ drop done block → Ahead is t next over
    ahead_more done next over r n d =
        let C : List ℕ → Type 0 = λ q. Cut o q done in
        let N : ℕ → Type 0 = λ j. Cut o all j in
        record {
          bytes = all;
          read = all_read;
          cut = subst N (sym n) (cut_on o a.bytes got size a.cut done (subst C block_is r.judged));
          made = all_made r.made;
          over = d ∙ ap (drop done) block_is ∙ sym (left_on o a.bytes got size a.cut done) ∙ ap (λ (j : ℕ). drop j all) (sym n);
        }

    -- where it is refused, all that was read is
    pub ahead_refused : (x : Malformed) → Redone o redo block m t (Err x) → ReadThrough o redo was is s t (Err (why.Malformed o))
    ahead_refused x r =
        let R : List ℕ → Type 0 = Refused o in
        record { bytes = all; read = all_read; made = all_made r.made; opened = (refl, refused_on o a.bytes got size a.cut (subst R block_is r.judged)) }

    -- where its records are too long to be counted
    pub ahead_failed : (done : ℕ) (x : StoreError) → Redone o redo block m t (Ok done) → ReadThrough o redo was is s t (Err (why.Store x))
    ahead_failed done x r = record { bytes = all; read = all_read; made = all_made r.made; opened = tt }
