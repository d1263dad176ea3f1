-- The laws, by the cases of a step.
use Rattle.std.proofs.Common.{◌≡◌, ℕ, ◌+◌, ◌^◌, ◌&&◌, ◌||◌, List, [], count_by, Some, None, Option, Err, refl}
use Rattle.std.specs.Prelude.{nat_le, nat_lt, ◌==◌}
use Rattle.std.specs.List.{list_any}
use Rattle.std.proofs.lemmas.Bool.{cond_both}
use Rattle.message.specs.declared.kind.Kind.{Kind}
use Rattle.message.specs.declared.refusal.Refusal.{Refusal}
use Rattle.message.specs.Format.{Msg, Ask, Loan, Write, In, Void, Recall, Back}
use Rattle.message.specs.Reading.{read}
use Rattle.message.specs.Directions.{for_keeper}
use Rattle.lease.specs.Leases.{running, barring, allowing}
use Rattle.lease.specs.Exclusion.{Exclusive}
use Rattle.lease.proofs.Exclusion.{never_clash}
use Rattle.machine.specs.Effects.{Effect}
use Rattle.machine.specs.Inputs.{Input, Came, Called, Reading}
use Rattle.keeping.specs.Rules.{Durable, Volatile, asked, written, heard, step}
use Rattle.keeping.specs.Laws.{RefusalsChangeNothing, LeasesNeverClash}

-- what is refused is as it was
abbrev Same : Volatile → Refusal → Volatile × Effect → Type 0
Same v why x = x.1.answer ≡ Err why → (x.1.records ≡ []) × (x.0 ≡ v)

asked_same : (l c i q n : ℕ) (k : Kind) (w : ℕ) (d : Durable) (v : Volatile) (why : Refusal) → Same v why (asked l c i q n k w d v)
asked_same l c i q n k w d v why =
    cond_both (nat_lt c v.quiet) _ _ (Same v why) (λ e h. (refl, refl)) (λ e.
    cond_both (list_any (barring c i q k) v.leases) _ _ (Same v why) (λ e h. (refl, refl)) (λ e.
    cond_both (nat_le (2 ^ 64) (c + l) || nat_le 4096 (count_by (running c) v.leases)) _ _ (Same v why) (λ e h. (refl, refl)) (λ e h.
    absurd (cc))))

abbrev SameEffect : Refusal → Effect → Type 0
SameEffect why x = x.answer ≡ Err why → x.records ≡ []

written_same : (c i q n : ℕ) (bs : List ℕ) (d : Durable) (v : Volatile) (why : Refusal) → SameEffect why (written c i q n bs d v)
written_same c i q n bs d v why =
    cond_both (nat_lt c v.quiet) _ _ (SameEffect why) (λ e h. refl) (λ e.
    cond_both (n == d.done q i && nat_lt 0 n) _ _ (SameEffect why) (λ e h. refl) (λ e.
    cond_both (nat_le n (d.done q i)) _ _ (SameEffect why) (λ e h. refl) (λ e.
    cond_both (nat_le n (d.void q i)) _ _ (SameEffect why) (λ e h. refl) (λ e.
    cond_both (list_any (allowing c i q) v.leases) _ _ (SameEffect why) (λ e h. absurd (cc)) (λ e h. refl)))))

heard_same : (l c : ℕ) (m : Option Msg) (d : Durable) (v : Volatile) (why : Refusal) → Same v why (heard l c m d v)
heard_same l c None d v why = λ h. (refl, refl)
heard_same l c (Some (Ask i q n k w)) d v why = asked_same l c i q n k w d v why
heard_same l c (Some (Loan i q n k bs)) d v why = λ h. (refl, refl)
heard_same l c (Some (Write i q n bs)) d v why = λ h. (written_same c i q n bs d v why h, refl)
heard_same l c (Some (In i q n)) d v why = λ h. (refl, refl)
heard_same l c (Some (Void i q n)) d v why = λ h. (refl, refl)
heard_same l c (Some (Recall i q)) d v why = λ h. (refl, refl)
heard_same l c (Some (Back i q n)) d v why = λ h. absurd (cc)

pub refused_same : RefusalsChangeNothing
refused_same l c (Came bs) d v why h = heard_same l c (for_keeper (read bs)) d v why h
refused_same l c (Called x) d v why h = (refl, refl)
refused_same l c Reading d v why h = absurd (cc)

-- no two that run clash afterwards
abbrev Clear : ℕ → Volatile × Effect → Type 0
Clear c x = Exclusive c x.0.leases

asked_clear : (l c i q n : ℕ) (k : Kind) (w : ℕ) (d : Durable) (v : Volatile) → Exclusive c v.leases → Clear c (asked l c i q n k w d v)
asked_clear l c i q n k w d v h =
    cond_both (nat_lt c v.quiet) _ _ (Clear c) (λ e. h) (λ e.
    cond_both (list_any (barring c i q k) v.leases) _ _ (Clear c) (λ e. h) (λ free.
    cond_both (nat_le (2 ^ 64) (c + l) || nat_le 4096 (count_by (running c) v.leases)) _ _ (Clear c) (λ e. h) (λ e.
    never_clash.granted c v.leases _ free h)))

heard_clear : (l c : ℕ) (m : Option Msg) (d : Durable) (v : Volatile) → Exclusive c v.leases → Clear c (heard l c m d v)
heard_clear l c None d v h = h
heard_clear l c (Some (Ask i q n k w)) d v h = asked_clear l c i q n k w d v h
heard_clear l c (Some (Loan i q n k bs)) d v h = h
heard_clear l c (Some (Write i q n bs)) d v h = h
heard_clear l c (Some (In i q n)) d v h = h
heard_clear l c (Some (Void i q n)) d v h = h
heard_clear l c (Some (Recall i q)) d v h = h
heard_clear l c (Some (Back i q n)) d v h = never_clash.ended c i q n v.leases h

step_clear : (l c : ℕ) (x : Input) (d : Durable) (v : Volatile) → Exclusive c v.leases → Clear c (step l c x d v)
step_clear l c (Came bs) d v h = heard_clear l c (for_keeper (read bs)) d v h
step_clear l c (Called x) d v h = h
step_clear l c Reading d v h = h

pub never_clashing : LeasesNeverClash
never_clashing l c e x d v le h = step_clear l e x d v (never_clash.later c e v.leases le h)
