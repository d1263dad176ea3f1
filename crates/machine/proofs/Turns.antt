-- What is appended of a step is what its rules record.
use Rattle.std.proofs.Common.{◌≡◌, ℕ, Bool, true, false, List, [], ◌++◌, take, Some, Option, Ok, Err, Result, ap, sym, refl, ◌∙◌, subst, append-nil, true≢false}
use Rattle.std.specs.Result.{IsErr}
use Rattle.std.specs.Prelude.{vec_items, map}
use Rattle.std.proofs.lemmas.Bool.{or_parts}
use Rattle.message.specs.Format.{layout}
use Rattle.journal.specs.Records.{Rec, bytes_of, AllSound}
use Rattle.journal.specs.Stores.{Disk}
use Rattle.journal.specs.declared.record.Owner.{Owner}
use Rattle.journal.specs.Made.{IsMade}
use Rattle.journal.proofs.Made.{made_more}
use Rattle.machine.specs.declared.effects.Effects.{Effects}
use Rattle.machine.specs.Effects.{Effect, has_failed, IsEmpty, Gave, Gives, note_of, place_at}
use Rattle.machine.specs.Machines.{Became, Stepped}
use Rattle.machine.specs.Nodes.{Answer, and, Has, State}

-- what holds of whatever error
pub by_err : {T E : Type 0} → (P : Result T E → Type 0) (r : Result T E) → IsErr r
    → ((e : E) → P (Err e)) → P r
by_err P (Ok x) h f = absurd (true≢false (sym h))
by_err P (Err e) h f = f e

-- to append nothing leaves a file as it was
pub none_more : (f : Disk) → and f [] ≡ f
none_more f = ap (λ (xs : List ℕ). record f { appended = xs }) (append-nil f.appended)

pub same_state : {T D V : Type 0} → (x y : State T D V) → x.machine ≡ y.machine → x.disk ≡ y.disk
    → x ≡ y
same_state {T} {D} {V} x y m k =
    ap (λ (z : Option (Has T D V)). record x { machine = z }) m
    ∙ ap (λ (z : Disk). record y { disk = z }) k

left_by : (b : Bool) (left : ℕ) (xs ys : List ℕ) → (b ≡ true → left ≡ 0) → (b ≡ false → xs ≡ ys)
    → take left xs ≡ take left ys
left_by true left xs ys z e = rw (z refl) refl
left_by false left xs ys z e = rw (e refl) refl

-- where a step that gives e begins with nothing given
module _ (e : Effect) (o o' : Effects) (r : Answer) (empty : IsEmpty o) (gave : Gave e o o' r) where
  pub recorded : has_failed o' ≡ false → vec_items o'.records.bytes ≡ bytes_of e.records
  recorded f =
      (gave.records (or_parts _ _ f).0).bytes
      ∙ ap (λ (xs : List ℕ). xs ++ bytes_of e.records) empty.records

  pub given : has_failed o' ≡ false → Gives e o' r
  given f =
      let p = or_parts o'.records.failed _ f in
      let q = or_parts o'.sends.buffer.failed _ p.1 in
      let k = or_parts o'.tells.failed _ q.1 in
      record {
        records = recorded f;
        sends = (gave.sends q.0).sent
            ∙ ap (λ (xs : List (List ℕ)). xs ++ map layout e.sends) empty.sends;
        tells = (gave.tells k.0).items ∙ ap (λ xs. map note_of xs ++ e.tells) empty.tells;
        shows = (gave.shows k.1).items ∙ ap (λ xs. map place_at xs ++ e.shows) empty.shows;
        failed = f;
        answer = gave.answer;
      }

  -- what is left of the records, also where there was no memory
  pub left_of : (left : ℕ) → (has_failed o' ≡ true → left ≡ 0)
      → take left (vec_items o'.records.bytes) ≡ take left (bytes_of e.records)
  left_of left z = left_by (has_failed o') left _ _ z recorded

module _ {D V : Type 0} (redo : D → Rec → D) where
  -- a machine that is up has gone by the rules
  pub became : (rules : D → V → V × Effect) (d d' : D) (v : V) (u v' : Option V) (o o' : Effects)
      (r : Answer) → Stepped redo rules d d' u v' o o' r → u ≡ Some v
      → Became redo (rules d v) d d' v' o o' r
  became rules d d' v u v' o o' r s e =
      subst (λ (x : Option V). Stepped redo rules d d' x v' o o' r) e s

  -- what was made of a journal goes on being so
  pub made_after : (owner : Owner) (fresh d d' : D) (v' : Option V) (x : V × Effect)
      (o o' : Effects) (r : Answer) (f f' : Disk) → IsEmpty o → Became redo x d d' v' o o' r
      → has_failed o' ≡ false → AllSound owner x.1.records
      → f' ≡ and f (vec_items o'.records.bytes) → IsMade owner redo fresh d f.appended
      → IsMade owner redo fresh d' f'.appended
  made_after owner fresh d d' v' x o o' r f f' n b h s g m =
      let e : f'.appended ≡ f.appended ++ bytes_of x.1.records =
      ap (λ (k : Disk). k.appended) g
      ∙ ap (λ (xs : List ℕ). f.appended ++ xs) (recorded x.1 o o' r n b.gave h) in
      subst (λ (xs : List ℕ). IsMade owner redo fresh d' xs) (sym e)
      (made_more owner redo fresh d d' x.1.records s b.durable f.appended m)
