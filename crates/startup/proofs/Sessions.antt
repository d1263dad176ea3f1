-- What a session does, by what its node does and what is printed of that.
use Rattle.std.proofs.Common.{◌≡◌, ℕ, Bool, true, false, List, [], ◌++◌, is_some, Some, None, Option, Ok, Err, Result, refl, sym, ap, ◌∙◌, subst, append_assoc, append-nil}
use Rattle.message.specs.declared.refusal.Refusal.{Refusal}
use Rattle.journal.specs.Records.{Rec}
use Rattle.journal.specs.Stores.{Disk}
use Rattle.machine.specs.declared.effects.Effects as code
use Rattle.machine.specs.declared.node.Node.{Node}
use Rattle.machine.specs.Effects.{Effect, Gives, IsEmpty}
use Rattle.machine.specs.Inputs.{Input}
use Rattle.machine.specs.Nodes.{Has, State, Took, WokenBy, WokeUp, is_up}
use Rattle.startup.specs.Prints.{answer_text, out_text, given_text}
use Rattle.startup.specs.Sessions.{copies_in, Synced, Stepped, Woken, CameUp}

given : (cs : ℕ → List ℕ) (e : Effect) (o : code.Effects) (r : Result (Unit {0}) Refusal) → Gives e o r → out_text cs o ≡ given_text cs e
given cs e o r g = rw (g.shows, g.sends, g.tells) refl

none_given : (cs : ℕ → List ℕ) (o : code.Effects) → IsEmpty o → out_text cs o ≡ []
none_given cs o n = rw (n.shows, n.sends, n.tells) refl

module _ {M S T D V : Type 0} (state : Node M S → State T D V) (redo : D → Rec → D) (each : Bool) (copies : M → ℕ → List ℕ) where
  pub stepped : (rules : T → (clock : ℕ) → Input → D → V → V × Effect) (c : ℕ) (x : Input) (was mid is : Node M S) (o : code.Effects)
      (r : Result (Unit {0}) Refusal) (p q p' : List ℕ) → Took redo rules c x (state was) (state mid) o (Ok (Some r))
      → (state is).machine ≡ (state mid).machine → Synced each (state mid).disk (state is).disk → q ≡ p ++ out_text (copies_in copies is.machine) o → p' ≡ q ++ answer_text r → Stepped state redo each copies rules c x was is p p'
  stepped rules c x was mid is o r p q p' (t, d, v, m, b) h s e f =
      let cs = copies_in copies is.machine in
      let y = (rules t c x d v).1 in (
        t,
        d,
        v,
        m,
        record { machine = h ∙ b.machine; disk = subst (λ (k : Disk). Synced each k (state is).disk) b.disk s },
        f ∙ ap (λ (l : List ℕ). l ++ answer_text r) e ∙ append_assoc p (out_text cs o) (answer_text r)
            ∙ ap (λ (l : List ℕ). p ++ (l ++ answer_text r)) (given cs y o r b.gives)
            ∙ ap (λ (a : Result (Unit {0}) Refusal). p ++ (given_text cs y ++ answer_text a)) b.gives.answer,
      )

  module _ (wakes : T → (clock : ℕ) → D → Result (V × Effect) Refusal) (c : ℕ) where
    -- it was up
    pub awake : (was : Node M S) (p : List ℕ) → is_up (state was).machine ≡ true → CameUp state redo each copies wakes c was was p p (Ok tt)
    awake was p = go (state was).machine refl
      where
        stays : (t : T) (d : D) (v : Option V) (y : Result (V × Effect) Refusal) → is_some v ≡ true → Woken state redo each copies t d v y was was p p (Ok tt)
        stays t d None y h = absurd (cc)
        stays t d (Some v) y h = (refl, refl, refl)

        go : (o : Option (Has T D V)) → (state was).machine ≡ o → is_up o ≡ true → CameUp state redo each copies wakes c was was p p (Ok tt)
        go None e h = absurd (cc)
        go (Some m) e h = (m, e, stays m.terms m.durable m.volatile (wakes m.terms c m.durable) h)

    -- it was not
    pub woken : (was mid is : Node M S) (o : code.Effects) (r : Result (Unit {0}) Refusal) (p q : List ℕ) → is_up (state was).machine ≡ false
        → WokeUp redo wakes c (state was) (state mid) o (Ok (Some r)) → (state is).machine ≡ (state mid).machine
        → Synced each (state mid).disk (state is).disk → q ≡ p ++ out_text (copies_in copies is.machine) o
        → CameUp state redo each copies wakes c was is p q r
    woken was mid is o r p q down (m, h, w) i s e = (m, h, go m.terms m.durable m.volatile (wakes m.terms c m.durable) (sym (ap is_up h) ∙ down) w)
      where
        cs : ℕ → List ℕ
        cs = copies_in copies is.machine

        go : (t : T) (d : D) (v : Option V) (y : Result (V × Effect) Refusal) → is_some v ≡ false → WokenBy redo t d v y (state was) (state mid) o r
            → Woken state redo each copies t d v y was is p q r
        go t d (Some v) y n b = absurd (cc)
        go t d None (Err why) n (k, a) = (
          i ∙ ap (λ (l : State T D V). l.machine) k.state,
          subst (λ (l : State T D V). Synced each l.disk (state is).disk) k.state s,
          e ∙ ap (λ (l : List ℕ). p ++ l) (none_given cs o k.effects) ∙ append-nil p,
          a,
        )
        go t d None (Ok x) n b =
            (record { machine = i ∙ b.machine; disk = subst (λ (k : Disk). Synced each k (state is).disk) b.disk s }, e ∙ ap (λ (l : List ℕ). p ++ l) (given cs x.1 o r b.gives), b.gives.answer)
