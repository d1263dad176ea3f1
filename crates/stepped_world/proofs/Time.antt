-- Time goes on only by ticks, clocks don't go back, and the terms stay as they are.
use Rattle.std.proofs.Common.{◌≡◌, ℕ, ◌+◌, ◌-◌, ◌*◌, ◌<◌, ◌≤◌, ltb, ◌⊎◌, List, [], ◌∷◌, Some, None, Ok, Err, Option, Result, sym, refl, ap, subst, inl, inr, mul-le-mul_right, arith}
use mathlib.Core.List.{Memᴰ}
use native.Mathlib.Nat.{sub_self}
use Rattle.std.proofs.lemmas.Bool.{cond_both}
use Rattle.clock.specs.Moments.{million, Moment, Passing, after, Keeps, Between, Pairs, Within, Later}
use Rattle.clock.specs.Terms.{Fits}
use Rattle.clock.proofs.Safe.{terms_safe}
use Rattle.clock.proofs.Standing.{earlier, later_after}
use Rattle.message.specs.declared.refusal.Refusal.{Refusal}
use Rattle.machine.specs.Effects.{Effect}
use Rattle.machine.specs.Inputs.{Input, Came, Called}
use Rattle.keeping.specs.Rules as keeping
use Rattle.borrowing.specs.Rules as borrowing
use Rattle.stepped_world.specs.World.{World, Node, keeper, borrower, Event, tick, call, deliver, stop, up, can_call, acted, is_up, cut, stopped, came_up, keeper_wakes, keeper_woken, borrower_wakes, borrower_woken, step}
use Rattle.stepped_world.specs.Runs.{Run, moments, next, run, start}
use Rattle.stepped_world.specs.Laws.{TimeGoesOn}
use Rattle.stepped_world.specs.Promise.{pause}
use Rattle.stepped_world.proofs.Inv.{Clocked}
use Rattle.stepped_world.proofs.Good.{setting}

-- the same time and the same terms
pub record Still (w x : World) : Type 0 where
  pub now : x.now ≡ w.now
  pub terms : setting x ≡ setting w

still : (w : World) → Still w w
still w = record { now = refl; terms = refl }

acted_still : (w : World) (x : Node) (i : Input) (t : Option ℕ) → Still w (acted x i t w)
acted_still w keeper i None = record { now = refl; terms = refl }
acted_still w keeper i (Some n) = record { now = refl; terms = refl }
acted_still w (borrower j) i None = record { now = refl; terms = refl }
acted_still w (borrower j) i (Some n) = record { now = refl; terms = refl }

stopped_still : (w : World) (x : Node) → Still w (stopped x w)
stopped_still w keeper = record { now = refl; terms = refl }
stopped_still w (borrower i) = record { now = refl; terms = refl }

-- no time passes
abbrev pub Timeless : Event → Type 0
Timeless (tick p) = ⊥
Timeless (call i c t) = Unit {0}
Timeless (deliver m n x t) = Unit {0}
Timeless (stop x) = Unit {0}
Timeless (up x) = Unit {0}

keeper_still : (w : World) (x : Result (keeping.Volatile × Effect) Refusal) → Still w (keeper_woken x w)
keeper_still w (Ok x) = record { now = refl; terms = refl }
keeper_still w (Err e) = still w

borrower_still : (w : World) (i : ℕ) (x : Result (borrowing.Volatile × Effect) Refusal) → Still w (borrower_woken i x w)
borrower_still w i (Ok x) = record { now = refl; terms = refl }
borrower_still w i (Err e) = still w

pub came_up_still : (w : World) (x : Node) → Still w (came_up x w)
came_up_still w keeper = keeper_still w (keeper_wakes w)
came_up_still w (borrower i) = cond_both (ltb i 32) (borrower_woken i (borrower_wakes i w) w) w (Still w) (λ e. borrower_still w i (borrower_wakes i w)) (λ e. still w)

-- an event that is no tick leaves the time and the terms
pub step_still : (w : World) (e : Event) → Timeless e → Still w (step w e)
step_still w (tick p) z = absurd z
step_still w (call i c t) z = cond_both (can_call i c w) (acted (borrower i) (Called c) t w) w (Still w) (λ e. acted_still w (borrower i) (Called c) t) (λ e. still w)
step_still w (deliver m n x t) z = cond_both (is_up x w) (acted x (Came (cut m n w)) t w) w (Still w) (λ e. acted_still w x (Came (cut m n w)) t) (λ e. still w)
step_still w (stop x) z = cond_both (is_up x w) (stopped x w) w (Still w) (λ e. stopped_still w x) (λ e. still w)
step_still w (up x) z = cond_both (is_up x w) w (came_up x w) (Still w) (λ e. still w) (λ e. came_up_still w x)

pub same_terms : (w : World) (e : Event) → setting (step w e) ≡ setting w
same_terms w (tick p) = refl
same_terms w (call i c t) = (step_still w (call i c t) tt).terms
same_terms w (deliver m n x t) = (step_still w (deliver m n x t) tt).terms
same_terms w (stop x) = (step_still w (stop x) tt).terms
same_terms w (up x) = (step_still w (up x) tt).terms

pub same_moments : (r : Run) (e : Event) → Timeless e → moments (next r e) ≡ moments r
same_moments r (tick p) z = absurd z
same_moments r (call i c t) z = ap (λ (m : Moment). m ∷ r.past) (step_still r.world (call i c t) z).now
same_moments r (deliver m n x t) z = ap (λ (m : Moment). m ∷ r.past) (step_still r.world (deliver m n x t) z).now
same_moments r (stop x) z = ap (λ (m : Moment). m ∷ r.past) (step_still r.world (stop x) z).now
same_moments r (up x) z = ap (λ (m : Moment). m ∷ r.past) (step_still r.world (up x) z).now

-- the moments are as they were, or there is one more
abbrev pub Timely : (now : Moment) (past is : List Moment) → Type 0
Timely now past is = (is ≡ now ∷ past) ⊎ ((p : Passing) × (is ≡ after now p ∷ (now ∷ past)))

-- an event leaves the time, or is a tick
pub timely : (r : Run) (e : Event) → Timely r.world.now r.past (moments (next r e))
timely r (tick p) = inr (p, refl)
timely r (call i c t) = inl (same_moments r (call i c t) tt)
timely r (deliver m n x t) = inl (same_moments r (deliver m n x t) tt)
timely r (stop x) = inl (same_moments r (stop x) tt)
timely r (up x) = inl (same_moments r (up x) tt)

pub in_order : (now : Moment) (past is : List Moment) → Timely now past is → Pairs Later (now ∷ past) → Pairs Later is
unfolding Pairs
in_order now past is (inl s) h = subst (Pairs Later) (sym s) h
in_order now past is (inr (p, s)) h = subst (Pairs Later) (sym s) ((λ o m. later_after o now p (earlier now past h o m)), h)

pub ordered : (r : Run) (e : Event) → Pairs Later (moments r) → Pairs Later (moments (next r e))
ordered r e h = in_order r.world.now r.past (moments (next r e)) (timely r e) h

pub time_goes_on : TimeGoesOn
unfolding Pairs run
time_goes_on s l m [] = ((λ o z. elim z [ ]), tt)
time_goes_on s l m (e ∷ es) = ordered (run (start s l m) es) e (time_goes_on s l m es)

-- what holds of all moments held of those before
pub held_before : (P : Moment → Moment → Type 0) (now : Moment) (past is : List Moment) → Timely now past is → Pairs P is → Pairs P (now ∷ past)
unfolding Pairs
held_before P now past is (inl s) h = subst (Pairs P) s h
held_before P now past is (inr (p, s)) h = (subst (Pairs P) s h).1

pub back : (P : Moment → Moment → Type 0) (r : Run) (e : Event) → Pairs P (moments (next r e)) → Pairs P (moments r)
back P r e h = held_before P r.world.now r.past (moments (next r e)) (timely r e) h

same_keeps : (rate grain t x : ℕ) → Keeps rate grain (t - t) (x - x)
same_keeps rate grain t x = record { slow = simp sub_self (omega arith); fast = simp sub_self (omega arith) }

-- every clock keeps within its error up to the present moment, from any moment so far and from the present one
up_to_now : (rate grain : ℕ) (now : Moment) (past : List Moment) → Within rate grain (now ∷ past) → (o : Moment) → Memᴰ o (now ∷ past) → Between rate grain o now
unfolding Pairs
up_to_now rate grain now past h o (Memᴰ.head e) = subst (λ (x : Moment). Between rate grain x now) (sym e) (λ i. same_keeps rate grain now.true (now.hand i))
up_to_now rate grain now past h o (Memᴰ.tail m) = h.0 o m

-- while the clocks keep within their error, terms that fit are safe
pub clocked : (rate short long grain : ℕ) → Fits rate short long → 0 < grain → (now : Moment) (past : List Moment) → Within rate grain (now ∷ past) → Pairs Later (now ∷ past) → Clocked (record { short = short; long = long }) now past
unfolding Pairs
clocked rate short long grain fits pos now past h g =
    record {
      covers = λ t m. terms_safe rate grain short long t now pos fits (earlier now past g t m) (up_to_now rate grain now past h t m);
      onward = λ t m. (earlier now past g t m).hand 0;
    }

-- CLOCKS THAT GO ON EXACTLY keep within their error
more_slow : (a b d g e f : ℕ) → e ≤ f → a * e ≤ (b + 1) * f * g → (a + d * g) * e ≤ (b + d + 1) * f * g
more_slow a b d g e f le h = let k : e * (d * g) ≤ f * (d * g) = mul-le-mul_right (d * g) le in omega (arith, k, h)

more_fast : (a b d g e f : ℕ) → f ≤ e → b * f * g ≤ a * e + f * g → (b + d) * f * g ≤ (a + d * g) * e + f * g
more_fast a b d g e f le h = let k : f * (d * g) ≤ e * (d * g) = mul-le-mul_right (d * g) le in omega (arith, k, h)

exactly : (rate grain d o n x y : ℕ) → o ≤ n → x ≤ y → Keeps rate grain (n - o) (y - x) → Keeps rate grain (n + d * grain - o) (y + d - x)
exactly rate grain d o n x y le le' k =
    let t : n + d * grain - o ≡ n - o + d * grain = omega (arith, le) in
    let s : y + d - x ≡ y - x + d = omega (arith, le') in
    subst (λ (z : ℕ). Keeps rate grain z (y + d - x)) (sym t) (subst (Keeps rate grain (n - o + d * grain)) (sym s) (record { slow = more_slow (n - o) (y - x) d grain (million - rate) million (omega arith) k.slow; fast = more_fast (n - o) (y - x) d grain (million + rate) million (omega arith) k.fast }))

pub paused : (rate grain d : ℕ) (r : Run) → Pairs Later (moments r) → Within rate grain (moments r) → Within rate grain (moments (next r (pause grain d)))
unfolding Pairs
paused rate grain d r g h = ((λ o z j. let l = earlier r.world.now r.past g o z in exactly rate grain d o.true r.world.now.true (o.hand j) (r.world.now.hand j) l.true (l.hand j) (up_to_now rate grain r.world.now r.past h o z j)), h)
