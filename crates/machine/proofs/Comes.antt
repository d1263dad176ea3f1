-- What coming up from a file leaves of a node.
use Rattle.std.proofs.Common.{◌≡◌, ℕ, true, false, List, ◌++◌, take, drop, length, fold, None, Ok, Err, Option, Result, ap, sym, ◌∙◌, subst, true≢false}
use Rattle.std.proofs.lemmas.List.{take-append-drop}
use Rattle.std.specs.Prelude.{vec_items, is_some}
use Rattle.message.specs.declared.refusal.Refusal.{Refusal}
use Rattle.journal.specs.Records.{Rec, bytes_of, records_of}
use Rattle.journal.specs.Stores.{Disk}
use Rattle.journal.specs.Reading.{Cut}
use Rattle.journal.specs.Made.{IsMade}
use Rattle.journal.specs.declared.record.Owner.{Owner}
use Rattle.journal.specs.declared.replay.OpenError.{OpenError}
use Rattle.journal.specs.declared.replay.OpenError.TheVariants as unopened
use Rattle.journal.proofs.Journals.{front_is_records}
use Rattle.machine.specs.declared.effects.Effects.{Effects}
use Rattle.machine.specs.Effects.{Effect, has_failed, IsEmpty}
use Rattle.machine.specs.Machines.{Woke, WokeBy}
use Rattle.machine.specs.Nodes.{Answer, and, State, CameUpBy, CameUp, whole, made_of}
use Rattle.machine.specs.Openings.{Reread}
use Rattle.machine.proofs.Turns.{given, recorded}
use Rattle.machine.proofs.Reread.{read_again}
use Rattle.machine.proofs.Wakes.{having}

-- a file that was cut after its whole records and synced
pub whole_is : (o : Owner) (f g s : Disk) (n : ℕ) → Cut o f.appended n
    → g.appended ≡ take n f.appended → s.appended ≡ g.appended → s.synced ≡ g.appended
    → s ≡ whole o f
whole_is o f g s n c a b d =
    let e : g.appended ≡ bytes_of (records_of o f.appended) = a ∙ c.front in
    ap (λ (x : List ℕ). record { appended = x; synced = s.synced }) (b ∙ e)
    ∙ ap (λ (x : List ℕ). record { appended = bytes_of (records_of o f.appended); synced = x })
    (d ∙ e)

module _ {D V : Type 0} (o : Owner) (redo : D → Rec → D) (fresh : D) where
  -- a machine that was just read from its journal comes up by its rules, from what its whole
  -- records make
  pub woke_by : {T : Type 0} (wakes : T → D → Result (V × Effect) Refusal) (t s : T) (d d' : D)
      (v v' : Option V) (out out' : Effects) (r : Answer) (f : Disk) (n : ℕ) → Cut o f.appended n
      → IsMade o redo fresh d (take n f.appended) → s ≡ t → v ≡ None
      → Woke redo (wakes s) d d' v v' out out' r
      → WokeBy redo (wakes t (made_of o redo fresh f)) (made_of o redo fresh f) d' v' out out' r
  woke_by wakes t s d d' v v' out out' r f n c m p u h =
      let made = made_of o redo fresh f in
      let q : d ≡ made =
      m.made ∙ ap (λ (rs : List Rec). fold redo fresh rs) (read_again o f.appended n c) in
      subst (λ x. WokeBy redo (wakes x made) made d' v' out out' r) p
      (subst (λ x. WokeBy redo (wakes s x) x d' v' out out' r) q
      (subst (λ x. Woke redo (wakes s) d d' x v' out out' r) u h))

module _ {T D V : Type 0} (o : Owner) (redo : D → Rec → D) (fresh : D) (t : T) (d' : D)
    (v' : Option V) (out out' : Effects) (r : Answer) (empty : IsEmpty out)
    (was is : State T D V) where
  -- what has not come up was refused
  pub not_up : (y : Result (V × Effect) Refusal)
      → WokeBy redo y (made_of o redo fresh was.disk) d' v' out out' r → is_some v' ≡ false
      → is ≡ record was { machine = None } → CameUpBy o redo fresh t y was is out' r
  not_up (Ok x) h u e = absurd (true≢false (sym (ap is_some h.volatile) ∙ u))
  not_up (Err why) h u e =
      let n = subst (λ (x : Effects). IsEmpty x) (sym h.effects) empty in
      (record { state = e; effects = n }, h.answer)

  -- what has come up was not
  pub is_up : (y : Result (V × Effect) Refusal)
      → WokeBy redo y (made_of o redo fresh was.disk) d' v' out out' r → is_some v' ≡ true
      → is.machine ≡ having t d' v' → has_failed out' ≡ false
      → is.disk ≡ and (whole o was.disk) (vec_items out'.records.bytes)
      → CameUpBy o redo fresh t y was is out' r
  is_up (Ok x) h u b f g =
      let d = fold redo (made_of o redo fresh was.disk) x.1.records in
      record {
        machine = b ∙ ap (λ (y : D). having t y v') h.durable
            ∙ ap (λ (y : Option V). having t d y) h.volatile;
        disk = g ∙ ap (λ (xs : List ℕ). and (whole o was.disk) xs)
            (recorded x.1 out out' r empty h.gave f);
        gives = given x.1 out out' r empty h.gave f;
      }
  is_up (Err why) h u b f g = absurd (true≢false (sym u ∙ ap is_some h.volatile))

-- a journal that was not opened is as it was, and so is the rest but the machine
module _ (o : Owner) {M T D V : Type 0} (redo : D → Rec → D) (fresh : D) (t : T) (terms : M → T)
    (durable : M → D) (volatile : M → Option V) (wakes : T → ℕ → D → Result (V × Effect) Refusal)
    (c : ℕ) (was is : State T D V) (out : Effects) (e : is ≡ record was { machine = None }) where
  pub not_opened : (w : OpenError)
      → Reread o redo fresh t terms durable volatile was.disk.appended (Err w)
      → CameUp o redo fresh t wakes c was is out (Err w)
  not_opened unopened.NoMemory h = e
  not_opened (unopened.Malformed p) h = (e, h.1.0, (h.0, h.1.1))
  not_opened (unopened.Store s) h =
      let bs = was.disk.appended in
      let n = length (bytes_of (records_of o bs)) in
      let k : bs ≡ bytes_of (records_of o bs) ++ drop n bs =
      sym (take-append-drop n bs)
      ∙ ap (λ (xs : List ℕ). xs ++ drop n bs) (front_is_records o bs).1 in
      (ap (λ x. x.machine) e, (drop n bs, ap (λ x. x.disk.appended) e ∙ k))
