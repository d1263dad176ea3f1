-- A tablet that went through the records of its journal has come up.
-- Assumes nothing.
use Rattle.std.proofs.Common.{◌≡◌, ℕ, cond, eqb, List, [], ◌∷◌, take, sym, ap, ◌∙◌, subst}
use mathlib.Core.Path.{fun_ext}
use Rattle.std.proofs.lemmas.Bool.{cond_both}
use Rattle.part.specs.declared.who.Who.{Who}
use Rattle.part.specs.Parts.{at_1, blank}
use Rattle.journal.specs.declared.record.Owner.TheVariants.{Borrower}
use Rattle.journal.specs.Records.{Rec, Applied, VoidUpTo, Numbers, bytes_of}
use Rattle.journal.specs.Reading.{Cut}
use Rattle.journal.specs.Replays.{Through}
use Rattle.journal.proofs.Readers.{cut_once}
use Rattle.borrower.specs.declared.hold.OnFile.{OnFile}
use Rattle.borrower.specs.declared.hold.Part.{Part}
use Rattle.borrower.specs.declared.tablet.Tablet.{Tablet}
use Rattle.borrower.specs.Steps.{risen}
use Rattle.borrower.specs.Tablets.{part_at, filed_at, copy_at, no_numbers}
use Rattle.borrower.specs.Outcomes.{Reread}
use Rattle.borrower.specs.OnDisk.{said, OnDisk}
use Rattle.borrower.specs.Opened.{CameUp}

-- so many records on
pub record Came (w : Who) (s : ℕ) (fs : ℕ → OnFile) (t : Tablet) : Type 0 where
  pub filed : filed_at t ≡ fs
  pub parts : part_at t ≡ (λ q. risen (filed_at t q))
  pub copies : copy_at t ≡ blank
  pub short : t.short ≡ s
  pub who : t.who ≡ w

-- a part that came up, among others that did
risen_at : (q : ℕ) (n : OnFile) (fs : ℕ → OnFile) → ◌≡◌ {A = ℕ → Part} (at_1 q (risen n) (λ x. risen (fs x))) (λ x. risen (at_1 q n fs x))
risen_at q n fs = fun_ext (λ x. cond_both (eqb x q) n (fs x) (λ (m : OnFile). cond (eqb x q) (risen n) (risen (fs x)) ≡ risen m) (λ e. rw e) (λ e. rw e))

pub through : (w : Who) (s : ℕ) (rs : List Rec) (t u : Tablet) (fs : ℕ → OnFile) → Came w s fs t → Through Reread t rs u → Came w s (said rs fs) u
through w s [] t u fs c e = subst (Came w s fs) e c
through w s (Numbers q a n ∷ rs) t u fs c (m, p, r) =
    let k : OnFile = record { ask = a; write = n } in
    through w s rs m u (at_1 q k fs)
    (record {
      filed = p.filed ∙ ap (at_1 q k) c.filed;
      parts = p.parts ∙ ap (at_1 q (risen k)) c.parts ∙ risen_at q k (filed_at t) ∙ ap (λ (f : ℕ → OnFile). λ x. risen (f x)) (sym p.filed);
      copies = p.copies ∙ c.copies;
      short = p.short ∙ c.short;
      who = p.who ∙ c.who;
    })
    r
through w s (Applied i q n v ∷ rs) t u fs c (m, p, r) = through w s rs m u fs (rw p c) r
through w s (VoidUpTo i q n ∷ rs) t u fs c (m, p, r) = through w s rs m u fs (rw p c) r

-- it came up from what its journal has after it was cut, too
pub cut_too : (w : Who) (s n : ℕ) (bs : List ℕ) (t : Tablet) → Cut Borrower bs n → CameUp w s bs t → CameUp w s (take n bs) t
cut_too w s n bs t c u = record {
  filed = u.filed ∙ ap (λ (rs : List Rec). said rs (λ q. no_numbers)) (sym (cut_once Borrower bs n c).0);
  parts = u.parts;
  copies = u.copies;
  short = u.short;
  who = u.who;
}

-- and that says what it has on file
pub on_disk : (w : Who) (s n : ℕ) (bs : List ℕ) (t : Tablet) → Cut Borrower bs n → CameUp w s bs t → OnDisk t (take n bs)
on_disk w s n bs t c u =
    let same = (cut_once Borrower bs n c).0 in
    record { whole = ap bytes_of same ∙ sym c.front; says = u.filed ∙ ap (λ (rs : List Rec). said rs (λ q. no_numbers)) (sym same) }
