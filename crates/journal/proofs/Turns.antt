-- One record after another: what is left of a journal leads where all of it leads.
-- Assumes nothing.
use Rattle.std.proofs.Common.{◌≡◌, ℕ, ◌-◌, ◌<◌, ◌≤◌, List, [], ◌∷◌, length, take, drop, fold, sym, refl, ap, ◌∙◌, subst, arith}
use Rattle.std.proofs.lemmas.List.{length-drop}
use Rattle.message.specs.Format.{carried}
use Rattle.journal.specs.declared.record.Owner.{Owner}
use Rattle.journal.specs.declared.record.Record.{Record}
use Rattle.journal.specs.declared.record.Record.TheVariants as code
use Rattle.journal.specs.Records.{Rec, recorded, WellFormed, NoRecord, records_of}
use Rattle.journal.specs.Reading.{ending, Standing}
use Rattle.journal.specs.Replays.{Through}
use Rattle.journal.proofs.Journals.{none}
use Rattle.journal.proofs.Readers.{ahead_more, within_more}

-- a record that ends before a part's length has none
pub no_part : (v w : List ℕ) (r : Record) → WellFormed (recorded v r) → length v < 1024 → recorded w r ≡ recorded v r
no_part v w (code.Applied h) f l = absurd (omega arith)
no_part v w (code.VoidUpTo h) f l = refl
no_part v w (code.Numbers p a n) f l = refl

pub too_short : (bs : List ℕ) (end : ℕ) → length (take (end - 0) bs) < 1024 → length (carried (take end bs)) < 1024
too_short bs end l =
    let e : end - 0 ≡ end = omega arith in
    let f : length (take (end - 0) bs) ≡ length (take end bs) = ap (λ (n : ℕ). length (take n bs)) e in
    omega (arith, length-drop (length (take end bs) - 1024) (take end bs))

module _ {S : Type 0} (P : S → Rec → S → Type 0) (o : Owner) (bs : List ℕ) where
  -- wherever the records ahead lead from here, all of them lead from the start
  abbrev pub Leading : S → ℕ → S → Type 0
  Leading s at m = (at ≤ length bs) × ((t : S) → Through P m (records_of o (drop at bs)) t → Through P s (records_of o bs) t)

  pub leading_more : (s m n : S) (at end : ℕ) (r : Record) → Leading s at m → Standing o at bs r end → P m (ending bs end r) n → Leading s end n
  leading_more s m n at end r (l, h) k p =
      let Q : S → List Rec → Type 0 = λ t rs. Through P m rs t in
      ((within_more o bs at end r l k).1, λ t q. h t (subst (Q t) (sym (ahead_more o bs at end r k)) (n, p, q)))

  pub leading_end : (s m : S) (at : ℕ) → Leading s at m → NoRecord o (drop at bs) → Through P s (records_of o bs) m
  leading_end s m at (l, h) k =
      let Q : List Rec → Type 0 = λ rs. Through P m rs m in
      h m (subst Q (sym (none o (drop at bs) k)) refl)

-- where each record makes of a view of the state what f makes of it, the journal makes of it what f makes of all records
pub viewed : {S V : Type 0} (P : S → Rec → S → Type 0) (view : S → V) (f : V → Rec → V) → ((s : S) (r : Rec) (t : S) → P s r t → view t ≡ f (view s) r)
    → (rs : List Rec) (s t : S) → Through P s rs t → view t ≡ fold f (view s) rs
viewed P view f h [] s t e = ap view (sym e)
viewed P view f h (r ∷ rs) s t (m, p, q) = viewed P view f h rs m t q ∙ ap (λ v. fold f v rs) (h s r m p)
