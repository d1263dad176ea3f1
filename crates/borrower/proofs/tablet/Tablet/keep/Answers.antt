use Rattle.std.proofs.Common.{◌≡◌, ℕ, ◌<◌, Bool, true, false, cond, eqb, List, length, get_or, set, rules, refl, sym, ap, ◌∙◌, arith}
use mathlib.Core.Path.{fun_ext}
use Rattle.std.proofs.lemmas.Bool.{eqb-true, eqb-false}
use Rattle.std.proofs.lemmas.Grind.{common_steps}
use Rattle.std.proofs.lemmas.List.{get_or-set_same, get_or-set_other}
use Rattle.part.specs.Parts.{at_1}
use Rattle.borrower.specs.declared.hold.OnFile.{OnFile}
use Rattle.borrower.specs.declared.hold.Part.{Part}
use Rattle.borrower.specs.declared.tablet.Kept.{Kept}
use Rattle.borrower.specs.Steps.{kept_of}
use Rattle.borrower.specs.Tablets.{no_part, no_numbers, part_at, filed_at}
use Rattle.borrower.specs.Outcomes.{due, filed_after}
use Rattle.borrower.proofs.tablet.Tablet.keep.Goals as goal

-- what is on file, where it is known whether a record is due
known : (q : ℕ) (p p' : Part) (fs gs : ℕ → OnFile) (b : Bool) → due p (fs q) p' ≡ b → gs ≡ cond b (at_1 q (kept_of (fs q) p') fs) fs → gs ≡ filed_after q p p' fs
known q p p' fs gs b d e = e ∙ ap (λ (x : Bool). cond x (at_1 q (kept_of (fs q) p') fs) fs) (sym d)

-- the numbers of each part, where one is kept with the numbers that it had
same_filed : (ks : List Kept) (i : ℕ) (k d : Kept) → i < length ks → k.filed ≡ (get_or ks i d).filed → ◌≡◌ {A = ℕ → OnFile} (λ r. (get_or (set ks i k) r d).filed) (λ r. (get_or ks r d).filed)
same_filed ks i k d h e = fun_ext (λ r. go r (eqb r i) refl)
  where
    go : (r : ℕ) (b : Bool) → eqb r i ≡ b → (get_or (set ks i k) r d).filed ≡ (get_or ks r d).filed
    go r true w = rw (eqb-true r i w) (ap (λ (x : Kept). x.filed) (get_or-set_same ks i k d h) ∙ e)
    go r false w = ap (λ (x : Kept). x.filed) (get_or-set_other ks i r k d (eqb-false r i w))

pub returns-then-not-is_due-clause-left : goal.returns-then-not-is_due-clause-left
returns-then-not-is_due-clause-left c =
    let q = c.args.place.at in
    let p = part_at c.args.self.now q in
    let fs = filed_at c.args.self.now in
    let none : Kept = record { part = no_part; filed = no_numbers } in
    let d : due p (fs q) c.args.next ≡ false = grind (arith, common_steps) in
    record {
      parts = search rules;
      filed = known q p c.args.next fs _ false d (same_filed c.args.self.now.kept.items q _ none (omega arith) (grind (arith, common_steps)));
      copies = search rules;
      short = search rules;
      who = search rules;
    }

pub returns-clause-left : goal.returns-clause-left
returns-clause-left c =
    let q = c.args.place.at in
    let p = part_at c.args.self.now q in
    let fs = filed_at c.args.self.now in
    let d : due p (fs q) c.args.next ≡ true = grind (arith, common_steps) in
    let k : c.raised-filed.result ≡ kept_of (fs q) c.args.next = grind (arith, common_steps) in
    record {
      parts = search rules;
      filed = known q p c.args.next fs _ true d (search rules);
      copies = search rules;
      short = search rules;
      who = search rules;
    }
