-- A tablet's journal goes on saying the numbers that it has on file.
-- Assumes nothing.
use Rattle.std.proofs.Common.{◌≡◌, ℕ, Bool, true, false, cond, eqb, List, [], ◌∷◌, ◌++◌, Some, None, Option, refl, sym, ap, ◌∙◌}
use Rattle.part.specs.Parts.{at_1}
use Rattle.message.specs.Format.{Msg, Ask, Loan, Write, In, Void, Recall, Back}
use Rattle.journal.specs.declared.record.Owner.TheVariants.{Borrower}
use Rattle.journal.specs.Records.{Rec, Applied, VoidUpTo, Numbers, AllFormed, AllSound, bytes_of, records_of}
use Rattle.journal.proofs.Grown.{grown_records, grown_whole}
use Rattle.borrower.specs.declared.hold.OnFile.{OnFile}
use Rattle.borrower.specs.declared.hold.Part.{Part}
use Rattle.borrower.specs.declared.outcome.Call.{Call}
use Rattle.borrower.specs.declared.outcome.Call.TheVariants as call
use Rattle.borrower.specs.Steps.{kept_of, recall_of}
use Rattle.borrower.specs.Tablets.{no_numbers}
use Rattle.borrower.specs.Outcomes.{Effect, due, filed_after, call_effect, call_part, turned_away, told, lent_part, heard_effect, heard_filed}
use Rattle.borrower.specs.Outcomes.{records_of as numbers_due}
use Rattle.borrower.specs.OnDisk.{said, Holds}

pub said_append : (rs ss : List Rec) (fs : ℕ → OnFile) → said (rs ++ ss) fs ≡ said ss (said rs fs)
said_append [] ss fs = refl
said_append (Applied i q n v ∷ rs) ss fs = said_append rs ss fs
said_append (VoidUpTo i q n ∷ rs) ss fs = said_append rs ss fs
said_append (Numbers q a w ∷ rs) ss fs = said_append rs ss _

-- more records are appended, and what is on file has gone through them
pub holds_more : (fs gs : ℕ → OnFile) (was is : List ℕ) (rs : List Rec) → Holds fs was → AllSound Borrower rs → is ≡ was ++ bytes_of rs → gs ≡ said rs fs → Holds gs is
holds_more fs gs was is rs h snd e g =
    record {
      whole = grown_whole Borrower was is rs h.whole snd e;
      says = g ∙ ap (said rs) h.says ∙ sym (said_append (records_of Borrower was) rs (λ q. no_numbers))
          ∙ ap (λ (q : List Rec). said q (λ x. no_numbers)) (sym (grown_records Borrower was is rs h.whole snd e));
    }

-- a step at one part: its record says what is on file after it, and may stand in the journal
pub said_due : (q : ℕ) (p p' : Part) (fs : ℕ → OnFile) → said (numbers_due q p (fs q) p') fs ≡ filed_after q p p' fs
said_due q p p' fs = go (due p (fs q) p')
  where
    go : (b : Bool) → said (cond b (Numbers q (kept_of (fs q) p').ask (kept_of (fs q) p').write ∷ []) []) fs ≡ cond b (at_1 q (kept_of (fs q) p') fs) fs
    go true = refl
    go false = refl

due_sound : (q : ℕ) (p p' : Part) (f : OnFile) → AllFormed (numbers_due q p f p') → AllSound Borrower (numbers_due q p f p')
due_sound q p p' f = go (due p f p')
  where
    go : (b : Bool) → AllFormed (cond b (Numbers q (kept_of f p').ask (kept_of f p').write ∷ []) []) → AllSound Borrower (cond b (Numbers q (kept_of f p').ask (kept_of f p').write ∷ []) [])
    go true h = ((h.0, tt), tt)
    go false h = tt

-- what is on file after some records, which may stand in the journal
abbrev pub Files : (fs gs : ℕ → OnFile) → List Rec → Type 0
Files fs gs rs = (said rs fs ≡ gs) × (AllFormed rs → AllSound Borrower rs)

stepped : (q : ℕ) (p p' : Part) (fs : ℕ → OnFile) → Files fs (filed_after q p p' fs) (numbers_due q p (fs q) p')
stepped q p p' fs = (said_due q p p' fs, due_sound q p p' (fs q))

pub called : (w q : ℕ) (v : List ℕ) (c s : ℕ) (k : Call) (p : Part) (fs : ℕ → OnFile) → Files fs (filed_after q p (call_part c s k p) fs) (call_effect w q v c s k p (fs q)).records
called w q v c s (call.Ask k) p fs = stepped q p _ fs
called w q v c s call.Show p fs = stepped q p _ fs
called w q v c s call.Write p fs = stepped q p _ fs
called w q v c s call.Forget p fs = stepped q p _ fs

-- a message that is for it, or another
for_it : (b : Bool) (fs gs : ℕ → OnFile) (e : Effect) → Files fs gs e.records → Files fs (cond b gs fs) (cond b e turned_away).records
for_it true fs gs e h = h
for_it false fs gs e h = (refl, λ f. tt)

told_it : (b : Bool) (m : Msg) (fs : ℕ → OnFile) → Files fs fs (cond b (told m) turned_away).records
told_it true m fs = (refl, λ f. tt)
told_it false m fs = (refl, λ f. tt)

pub heard : (w : ℕ) (o : Option Msg) (ps : ℕ → Part) (fs : ℕ → OnFile) → Files fs (heard_filed w o ps fs) (heard_effect w o ps fs).records
heard w None ps fs = (refl, λ f. tt)
heard w (Some (Ask i q n k l)) ps fs = (refl, λ f. tt)
heard w (Some (Loan i q n k v)) ps fs = for_it (eqb i w) fs _ _ (stepped q (ps q) (lent_part n k (ps q)) fs)
heard w (Some (Write i q n v)) ps fs = (refl, λ f. tt)
heard w (Some (In i q n)) ps fs = told_it (eqb i w) (In i q n) fs
heard w (Some (Void i q n)) ps fs = told_it (eqb i w) (Void i q n) fs
heard w (Some (Recall i q)) ps fs = for_it (eqb i w) fs _ _ (stepped q (ps q) (recall_of (ps q)).0 fs)
heard w (Some (Back i q n)) ps fs = (refl, λ f. tt)
