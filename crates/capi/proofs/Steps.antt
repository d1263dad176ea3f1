-- A step of a machine that is up, which fits: what came of it is in the code's effects, and has room in the buffers.
use Rattle.std.proofs.Common.{◌≡◌, ℕ, ◌≤◌, true, false, List, ◌++◌, drop, length, sum, subst, fold, Some, None, Option, Result, refl, sym, ap, arith, rules, true≢false}
use Rattle.std.specs.Prelude.{is_some, vec_items}
use Rattle.std.specs.Option.{ForSome}
use Rattle.std.proofs.lemmas.Bool.{or_parts}
use Rattle.message.specs.declared.refusal.Refusal.{Refusal}
use Rattle.journal.specs.declared.record.Owner.{Owner}
use Rattle.journal.specs.Records.{Rec, AllSound}
use Rattle.machine.specs.declared.effects.Effects as code
use Rattle.machine.specs.Effects.{Effect, Gives, IsEmpty, has_failed}
use Rattle.machine.specs.Machines.{Stepped}
use Rattle.machine.proofs.Turns.{given}
use Rattle.capi.specs.declared.reply.Answer.{Answer}
use Rattle.capi.specs.Answers.{Says, Copied, Fits}
use Rattle.capi.specs.Buffers.{copied}
use Rattle.capi.proofs.Rows.{says, one_record, sends_room}

-- the sizes of the messages are those of all bytes
whole : (o : code.Effects) → has_failed o ≡ false → sum (vec_items o.sends.sizes) ≡ length (vec_items o.sends.buffer.bytes)
whole o f =
    let p = or_parts o.records.failed _ f in
    let q = or_parts o.sends.buffer.failed _ p.1 in
    let w = o.sends.whole q.0 in
    search rules

pub record Ready (o : Owner) {D V : Type 0} (redo : D → Rec → D) (f : V → V × Effect) (d d' : D) (v v' : Option V) (out : code.Effects)
    (r : Result (Unit {0}) Refusal) (room : ℕ) : Type 0 where
  pub before : V
  pub up : v ≡ Some before
  pub durable : d' ≡ fold redo d (f before).1.records
  pub volatile : v' ≡ Some (f before).0
  pub sound : AllSound o (f before).1.records
  pub fits : Fits room (f before).1
  pub gives : Gives (f before).1 out r
  pub whole : sum (vec_items out.sends.sizes) ≡ length (vec_items out.sends.buffer.bytes)

module _ (o : Owner) {D V : Type 0} (redo : D → Rec → D) (rules_of : D → V → V × Effect) (d d' : D) (v' : Option V) (was out : code.Effects)
    (r : Result (Unit {0}) Refusal) (room : ℕ) where
  pub ready : (v : Option V) → is_some v ≡ true → Stepped redo rules_of d d' v v' was out r → ForSome v (λ x. AllSound o (rules_of d x).1.records)
      → ForSome v (λ x. Fits room (rules_of d x).1) → IsEmpty was → has_failed out ≡ false → Ready o redo (rules_of d) d d' v v' out r room
  ready None up s a f n h = absurd (true≢false (sym up))
  ready (Some x) up s a f n h =
      record { before = x; up = refl; durable = s.durable; volatile = s.volatile; sound = a x refl; fits = f x refl; gives = given (rules_of d x).1 was out r n s.gave h; whole = whole out h }

  module _ (v : Option V) (y : Ready o redo (rules_of d) d d' v v' out r room) where
    pub records_room : length (vec_items out.records.bytes) ≤ 1032
    records_room =
        omega (arith, ap (λ (xs : List ℕ). length xs) y.gives.records, one_record o (rules_of d y.before).1.records y.sound y.fits.records)

    pub messages_room : length (vec_items out.sends.buffer.bytes) ≤ room
    messages_room = sends_room (rules_of d y.before).1 out r room y.gives y.whole y.fits

    pub said : (a : Answer) (fw fi sw si : List ℕ) → Copied out r a fw fi sw si → Says (rules_of d y.before).1 a fw fi sw si
    said a fw fi sw si k = says (rules_of d y.before).1 out r a room fw fi sw si y.gives y.whole y.fits k

-- a copy that is in front of the buffer is shown by 0
pub showing : (n : ℕ) (v was is : List ℕ) → n ≡ 0 → is ≡ v ++ drop 1024 was → is ≡ copied n v was
showing n v was is z e = subst (λ (m : ℕ). is ≡ copied m v was) (sym z) e
