use Rattle.std.proofs.Common.{◌≡◌, ℕ, Bool, List, Some, None, rules, refl, ap, ◌∙◌}
use Rattle.std.specs.Prelude.{if◌then◌else◌}
use Rattle.borrowing.specs.Parts.{come_up}
use Rattle.borrowing.specs.Rules.{Volatile}
use Rattle.borrowing.specs.Tablets.{durable, beside, volatile}
use Rattle.borrowing.proofs.tablet.TabletMachine.wake.Goals as goal

pub returns-clause-woke : goal.returns-clause-woke
returns-clause-woke c =
    let t = c.args.self.now in
    let down : volatile t ≡ None = ap (λ (b : Bool). if b then Some (beside t) else None) c.if-self.false in
    let up : (ℕ → List ℕ) → Volatile = λ cs. record { parts = λ q. come_up (durable t q); copies = cs } in
    rw down (record {
      volatile = ap Some (c.come_up.ensures ∙ ap up (t.no_copies c.if-self.false));
      durable = refl;
      gave = search rules;
    })
