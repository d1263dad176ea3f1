use Rattle.std.proofs.Common.{◌≡◌, ℕ, Bool, true, false, List, [], ◌++◌, drop, Ok, Some, None, rules, refl, sym, ap, ◌∙◌, subst, arith}
use Rattle.std.specs.Prelude.{if◌then◌else◌}
use borrow.Rule.Slice.PartMut.{post_of}
use Rattle.machine.specs.Inputs.{Called, Show}
use Rattle.borrowing.specs.Rules.{Volatile}
use Rattle.borrowing.specs.Tablets.{beside}
use Rattle.capi.specs.declared.content.Machine.{Machine}
use Rattle.capi.specs.declared.content.Machine.TheVariants as holds
use Rattle.capi.specs.Machines.{TabletRan, TabletShowed, copy_of}
use Rattle.capi.proofs.Rows.{none}
use Rattle.capi.proofs.Steps.{showing}
use Rattle.capi.proofs.content.Machine.show.Goals as goal

-- a tablet that has come up has the copies that it has beside
copied : (b : Bool) (x v : Volatile) (q : ℕ) → (if b then Some x else None) ≡ Some v → x.copies q ≡ copy_of (if b then Some x else None) q
copied true x v q e = refl
copied false x v q e = absurd (cc)

pub returns-then-answer-eq0 : goal.returns-then-answer-eq0
returns-then-answer-eq0 c =
    let t = c.in-Tablet.run' in
    let u = c.step.new.self in
    let a = c.in_ok-answer.answer in
    let q = c.args.place.at in
    let cw = c.args.copy.now in
    let s : c.step.new.sent ≡ [] = none c.step.new.sent (omega (arith, c.step.auto.sent)) in
    let ran : TabletRan c.args.clock (Called (Show q)) t u (Ok a) c.args.filed.now c.step.new.filed [] [] =
    subst (λ (xs : List ℕ). TabletRan c.args.clock (Called (Show q)) t u (Ok a) c.args.filed.now c.step.new.filed [] xs) s c.in_ok-answer.ensures in
    let i : c.args.self.now ≡ holds.Tablet t = search rules in
    let z : a.number ≡ 0 = search rules in
    let b = c.copy.ensures.bytes ∙ copied u.machine.«is_up» (beside u.machine) _ q ran.volatile in
    let e : c.copy_from_slice.new.self ++ post_of 0 1024 cw ≡ c.copy.result.now ++ drop 1024 cw = search rules in
    subst (λ (m : Machine). TabletShowed c.args.clock q m (holds.Tablet u) (Ok a) c.args.filed.now c.step.new.filed cw (c.copy_from_slice.new.self ++ post_of 0 1024 cw)) (sym i)
    (record { ran = ran; copy = showing a.number _ cw _ z (e ∙ ap (λ (xs : List ℕ). xs ++ drop 1024 cw) b) })
