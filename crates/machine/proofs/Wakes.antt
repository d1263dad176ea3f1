-- What coming up leaves of a node, whatever its rules say.
use Rattle.std.proofs.Common.{◌≡◌, ◌≢◌, ℕ, true, false, List, [], take, None, Some, Ok, Err, Option, Result, ap, sym, refl, ◌∙◌, subst}
use Rattle.std.specs.Prelude.{vec_items, fold}
use Rattle.message.specs.declared.refusal.Refusal.{Refusal}
use Rattle.message.specs.declared.refusal.Refusal.TheVariants.{Malformed}
use Rattle.journal.specs.Records.{Rec, bytes_of, AllSound}
use Rattle.journal.specs.Stores.{Disk}
use Rattle.journal.specs.declared.record.Owner.{Owner}
use Rattle.journal.specs.Made.{IsMade}
use Rattle.machine.specs.declared.effects.Effects.{Effects}
use Rattle.machine.specs.Effects.{Effect, has_failed, IsEmpty}
use Rattle.machine.specs.Machines.{Refused, Woke, WokeBy, woken_records}
use Rattle.machine.specs.Nodes.{Answer, and, Has, State, Stayed, WokenBy, asleep}
use Rattle.machine.proofs.Turns.{recorded, left_of, given, made_after, none_more, same_state}

-- what a machine has
abbrev pub having : {T D V : Type 0} → T → D → Option V → Option (Has T D V)
having t d v = Some (record { terms = t; durable = d; volatile = v })

-- a machine with the terms t has gone from d to d' and v'
module _ {T D V : Type 0} (redo : D → Rec → D) (t : T) (d d' : D) (v' : Option V) (o o' : Effects)
    (r : Answer) (empty : IsEmpty o) (was is : State T D V) (b : is.machine ≡ having t d' v') where
  -- a refusal records nothing, and leaves all as it was
  stayed : (why : Refusal) (v : Option V) → Refused why d d' v v' o o' r
      → was.machine ≡ having t d v → is.disk ≡ and was.disk (vec_items o'.records.bytes)
      → Stayed was is o'
  stayed why v h a f =
      record {
        state = same_state is was
            (b ∙ ap (λ (x : D). having t x v') h.durable
            ∙ ap (λ (x : Option V). having t d x) h.volatile ∙ sym a)
            (f ∙ ap (λ (x : Effects). and was.disk (vec_items x.records.bytes)) h.effects
            ∙ ap (λ (xs : List ℕ). and was.disk xs) empty.records ∙ none_more was.disk);
        effects = subst (λ (x : Effects). IsEmpty x) (sym h.effects) empty;
      }

  woken_by : (y : Result (V × Effect) Refusal) → WokeBy redo y d d' v' o o' r
      → was.machine ≡ asleep t d → has_failed o' ≡ false
      → is.disk ≡ and was.disk (vec_items o'.records.bytes) → WokenBy redo t d None y was is o' r
  woken_by (Ok x) h a f g =
      record {
        machine = b ∙ ap (λ (y : D). having t y v') h.durable
            ∙ ap (λ (y : Option V). having t (fold redo d x.1.records) y) h.volatile;
        disk = g ∙ ap (λ (xs : List ℕ). and was.disk xs) (recorded x.1 o o' r empty h.gave f);
        gives = given x.1 o o' r empty h.gave f;
      }
  woken_by (Err why) h a f g = (stayed why None h a g, h.answer)

  pub woken : (v : Option V) (wakes : D → Result (V × Effect) Refusal)
      → Woke redo wakes d d' v v' o o' r → was.machine ≡ having t d v → has_failed o' ≡ false
      → is.disk ≡ and was.disk (vec_items o'.records.bytes)
      → WokenBy redo t d v (wakes d) was is o' r
  woken (Some v) wakes h a f g = (stayed Malformed (Some v) h a g, h.answer)
  woken None wakes h a f g = woken_by (wakes d) h a f g

module _ {D V : Type 0} (redo : D → Rec → D) (d d' : D) (v' : Option V) (o o' : Effects)
    (r : Answer) (empty : IsEmpty o) where
  module _ (left : ℕ) (z : has_failed o' ≡ true → left ≡ 0)
      (n : has_failed o' ≡ false → vec_items o'.records.bytes ≢ []) where
    nothing_failed : {X : Type 0} → o' ≡ o → X
    nothing_failed e =
        absurd (n (ap (λ (x : Effects). has_failed x) e ∙ empty.failed)
        (ap (λ (x : Effects). vec_items x.records.bytes) e ∙ empty.records))

    unwoken_by : (y : Result (V × Effect) Refusal) → WokeBy redo y d d' v' o o' r
        → (x : V × Effect) × (y ≡ Ok x)
        × (take left (vec_items o'.records.bytes) ≡ take left (bytes_of x.1.records))
    unwoken_by (Ok x) h = (x, refl, left_of x.1 o o' r empty h.gave left z)
    unwoken_by (Err why) h = nothing_failed h.effects

    -- where something could not be appended, it was to come up
    pub unwoken : (v : Option V) (wakes : D → Result (V × Effect) Refusal)
        → Woke redo wakes d d' v v' o o' r
        → (v ≡ None) × ((x : V × Effect) × (wakes d ≡ Ok x)
        × (take left (vec_items o'.records.bytes) ≡ take left (bytes_of x.1.records)))
    unwoken (Some v) wakes h = nothing_failed h.effects
    unwoken None wakes h = (refl, unwoken_by (wakes d) h)

  -- what was made of a journal goes on being so
  module _ (owner : Owner) (fresh : D) (f f' : Disk) (m : IsMade owner redo fresh d f.appended)
      (ok : has_failed o' ≡ false) (g : f' ≡ and f (vec_items o'.records.bytes)) where
    stayed_made : (why : Refusal) (v : Option V) → Refused why d d' v v' o o' r
        → IsMade owner redo fresh d' f'.appended
    stayed_made why v h =
        let e : f' ≡ f =
        g ∙ ap (λ (x : Effects). and f (vec_items x.records.bytes)) h.effects
        ∙ ap (λ (xs : List ℕ). and f xs) empty.records ∙ none_more f in
        subst (λ (x : D). IsMade owner redo fresh x f'.appended) (sym h.durable)
        (subst (λ (x : Disk). IsMade owner redo fresh d x.appended) (sym e) m)

    made_by : (y : Result (V × Effect) Refusal) → WokeBy redo y d d' v' o o' r
        → AllSound owner (woken_records y) → IsMade owner redo fresh d' f'.appended
    made_by (Ok x) h s = made_after redo owner fresh d d' v' x o o' r f f' empty h ok s g m
    made_by (Err why) h s = stayed_made why None h

    pub woken_made : (v : Option V) (wakes : D → Result (V × Effect) Refusal)
        → Woke redo wakes d d' v v' o o' r → AllSound owner (woken_records (wakes d))
        → IsMade owner redo fresh d' f'.appended
    woken_made (Some v) wakes h s = stayed_made Malformed (Some v) h
    woken_made None wakes h s = made_by (wakes d) h s
