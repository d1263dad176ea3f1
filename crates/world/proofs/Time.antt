-- Time goes on only by ticks, clocks don't go back, and the terms stay as they are.
-- Assumes nothing.
use Rattle.std.proofs.Common.{◌≡◌, ℕ, ◌+◌, ◌-◌, ◌*◌, ◌^◌, ◌<◌, ◌≤◌, true, false, ltb, leb, ◌⊎◌, List, [], ◌∷◌, Some, None, Option, sym, refl, ap, subst, inl, inr, mul-le-mul_right, arith}
use mathlib.Core.List.{Memᴰ}
use native.Mathlib.Nat.{sub_self}
use Rattle.std.proofs.lemmas.Bool.{cond_both}
use Rattle.clock.specs.Moments.{million, Moment, Passing, after, Keeps, Between, Pairs, Within, Later}
use Rattle.clock.specs.Terms.{Fits}
use Rattle.clock.proofs.Safe.{terms_safe}
use Rattle.clock.proofs.Standing.{earlier, later_after}
use Rattle.message.specs.declared.kind.Kind.{Kind}
use Rattle.message.specs.Format.{Msg, Ask, Loan, Write, In, Void, Recall, Back}
use Rattle.message.specs.Reading.{read}
use Rattle.lender.specs.declared.answer.AskAnswer.{AskAnswer}
use Rattle.lender.specs.declared.answer.AskAnswer.TheVariants as ask
use Rattle.lender.specs.declared.answer.WriteAnswer.{WriteAnswer}
use Rattle.lender.specs.declared.answer.WriteAnswer.TheVariants as write
use Rattle.lender.specs.Rules.{Book, ask_answer, after_ask, write_answer, after_write}
use Rattle.lender.specs.Replies.{heard_book}
use Rattle.borrower.specs.declared.outcome.Call.{Call}
use Rattle.world.specs.World.{World, Node, keeper, borrower, Event, tick, call, deliver, stop, up, can_call, called, is_up, arrived, cut, stopped, risen_from, with_keeper, with_borrower, keeper_up, borrower_up, long_of, step}
use Rattle.world.specs.Runs.{Run, moments, next, run, start}
use Rattle.world.specs.Laws.{TimeGoesOn}
use Rattle.world.specs.Promise.{pause}
use Rattle.world.proofs.Inv.{Clocked}
use Rattle.world.proofs.Good.{setting}

-- the same time and the same terms
pub record Still (w x : World) : Type 0 where
  pub now : x.now ≡ w.now
  pub terms : setting x ≡ setting w

still : (w : World) → Still w w
still w = record { now = refl; terms = refl }

ask_long : (c i q n : ℕ) (k : Kind) (l : ℕ) (a : AskAnswer) (b : Book) → (after_ask c i q n k l a b).long ≡ b.long
ask_long c i q n k l (ask.Granted true) b = refl
ask_long c i q n k l (ask.Granted false) b = refl
ask_long c i q n k l ask.Quiet b = refl
ask_long c i q n k l (ask.Barred by) b = refl
ask_long c i q n k l ask.Exhausted b = refl

write_long : (i q n : ℕ) (a : WriteAnswer) (b : Book) → (after_write i q n a b).long ≡ b.long
write_long i q n write.Applied b = refl
write_long i q n write.Again b = refl
write_long i q n write.Void b = refl
write_long i q n write.Passed b = refl
write_long i q n write.Quiet b = refl

pub book_long : (c : ℕ) (o : Option Msg) (b : Book) → (heard_book c o b).long ≡ b.long
book_long c None b = refl
book_long c (Some (Ask i q n k l)) b = ask_long c i q n k l (ask_answer c i q k l b) b
book_long c (Some (Loan i q n k v)) b = refl
book_long c (Some (Write i q n v)) b = write_long i q n (write_answer c i q n b) b
book_long c (Some (In i q n)) b = refl
book_long c (Some (Void i q n)) b = refl
book_long c (Some (Recall i q)) b = refl
book_long c (Some (Back i q n)) b = refl

called_still : (w : World) (i q : ℕ) (c : Call) (v : List ℕ) (t : Option ℕ) → Still w (called i q c v t w)
called_still w i q c v None = record { now = refl; terms = refl }
called_still w i q c v (Some n) = record { now = refl; terms = refl }

arrived_still : (w : World) (x : Node) (bs : List ℕ) (t : Option ℕ) → Still w (arrived x bs t w)
arrived_still w keeper bs None = record { now = refl; terms = ap (λ (l : ℕ). record { short = w.short; long = l }) (book_long (w.now.hand 0) (read bs) w.keeper.book) }
arrived_still w keeper bs (Some n) = record { now = refl; terms = refl }
arrived_still w (borrower i) bs None = record { now = refl; terms = refl }
arrived_still w (borrower i) bs (Some n) = record { now = refl; terms = refl }

stopped_still : (w : World) (x : Node) → Still w (stopped x w)
stopped_still w keeper = record { now = refl; terms = refl }
stopped_still w (borrower i) = record { now = refl; terms = refl }

pub risen_still : (w : World) (x : Node) → Still w (risen_from x w)
risen_still w keeper = cond_both (leb (2 ^ 64) (w.now.hand 0 + long_of w)) w (with_keeper (keeper_up (w.now.hand 0) (long_of w) w.keeper.file) w) (Still w) (λ e. still w) (λ e. record { now = refl; terms = refl })
risen_still w (borrower i) = cond_both (ltb i 32) (with_borrower i (borrower_up (w.borrower i).file) w) w (Still w) (λ e. record { now = refl; terms = refl }) (λ e. still w)

pub same_terms : (w : World) (e : Event) → setting (step w e) ≡ setting w
same_terms w (tick p) = refl
same_terms w (call i q c v t) = (cond_both (can_call i q v w) (called i q c v t w) w (Still w) (λ e. called_still w i q c v t) (λ e. still w)).terms
same_terms w (deliver m n x t) = (cond_both (is_up x w) (arrived x (cut m n w) t w) w (Still w) (λ e. arrived_still w x (cut m n w) t) (λ e. still w)).terms
same_terms w (stop x) = (cond_both (is_up x w) (stopped x w) w (Still w) (λ e. stopped_still w x) (λ e. still w)).terms
same_terms w (up x) = (cond_both (is_up x w) w (risen_from x w) (Still w) (λ e. still w) (λ e. risen_still w x)).terms

-- no time passes
abbrev pub Timeless : Event → Type 0
Timeless (tick p) = ⊥
Timeless (call i q c v t) = Unit {0}
Timeless (deliver m n x t) = Unit {0}
Timeless (stop x) = Unit {0}
Timeless (up x) = Unit {0}

pub same_moments : (r : Run) (e : Event) → Timeless e → moments (next r e) ≡ moments r
same_moments r (tick p) z = absurd z
same_moments r (call i q c v t) z = ap (λ (m : Moment). m ∷ r.past) (cond_both (can_call i q v r.world) (called i q c v t r.world) r.world (Still r.world) (λ e. called_still r.world i q c v t) (λ e. still r.world)).now
same_moments r (deliver m n x t) z = ap (λ (m : Moment). m ∷ r.past) (cond_both (is_up x r.world) (arrived x (cut m n r.world) t r.world) r.world (Still r.world) (λ e. arrived_still r.world x (cut m n r.world) t) (λ e. still r.world)).now
same_moments r (stop x) z = ap (λ (m : Moment). m ∷ r.past) (cond_both (is_up x r.world) (stopped x r.world) r.world (Still r.world) (λ e. stopped_still r.world x) (λ e. still r.world)).now
same_moments r (up x) z = ap (λ (m : Moment). m ∷ r.past) (cond_both (is_up x r.world) r.world (risen_from x r.world) (Still r.world) (λ e. still r.world) (λ e. risen_still r.world x)).now

-- the moments are as they were, or there is one more
abbrev pub Timely : (now : Moment) (past is : List Moment) → Type 0
Timely now past is = (is ≡ now ∷ past) ⊎ ((p : Passing) × (is ≡ after now p ∷ (now ∷ past)))

-- an event leaves the time, or is a tick
pub timely : (r : Run) (e : Event) → Timely r.world.now r.past (moments (next r e))
timely r (tick p) = inr (p, refl)
timely r (call i q c v t) = inl (same_moments r (call i q c v t) tt)
timely r (deliver m n x t) = inl (same_moments r (deliver m n x t) tt)
timely r (stop x) = inl (same_moments r (stop x) tt)
timely r (up x) = inl (same_moments r (up x) tt)

pub in_order : (now : Moment) (past is : List Moment) → Timely now past is → Pairs Later (now ∷ past) → Pairs Later is
unfolding Pairs
in_order now past is (inl s) h = subst (Pairs Later) (sym s) h
in_order now past is (inr (p, s)) h = subst (Pairs Later) (sym s) ((λ o m. later_after o now p (earlier now past h o m)), h)

pub ordered : (r : Run) (e : Event) → Pairs Later (moments r) → Pairs Later (moments (next r e))
ordered r e h = in_order r.world.now r.past (moments (next r e)) (timely r e) h

pub time_goes_on : TimeGoesOn
unfolding Pairs run
time_goes_on s l m [] = ((λ o z. elim z [ ]), tt)
time_goes_on s l m (e ∷ es) = ordered (run (start s l m) es) e (time_goes_on s l m es)

-- what holds of all moments held of those before
pub held_before : (P : Moment → Moment → Type 0) (now : Moment) (past is : List Moment) → Timely now past is → Pairs P is → Pairs P (now ∷ past)
unfolding Pairs
held_before P now past is (inl s) h = subst (Pairs P) s h
held_before P now past is (inr (p, s)) h = (subst (Pairs P) s h).1

pub back : (P : Moment → Moment → Type 0) (r : Run) (e : Event) → Pairs P (moments (next r e)) → Pairs P (moments r)
back P r e h = held_before P r.world.now r.past (moments (next r e)) (timely r e) h

same_keeps : (rate grain t x : ℕ) → Keeps rate grain (t - t) (x - x)
same_keeps rate grain t x = record { slow = simp sub_self (omega arith); fast = simp sub_self (omega arith) }

-- every clock keeps within its error up to the present moment, from any moment so far and from the present one
up_to_now : (rate grain : ℕ) (now : Moment) (past : List Moment) → Within rate grain (now ∷ past) → (o : Moment) → Memᴰ o (now ∷ past) → Between rate grain o now
unfolding Pairs
up_to_now rate grain now past h o (Memᴰ.head e) = subst (λ (x : Moment). Between rate grain x now) (sym e) (λ i. same_keeps rate grain now.true (now.hand i))
up_to_now rate grain now past h o (Memᴰ.tail m) = h.0 o m

-- while the clocks keep within their error, terms that fit are safe
pub clocked : (rate short long grain : ℕ) → Fits rate short long → 0 < grain → (now : Moment) (past : List Moment) → Within rate grain (now ∷ past) → Pairs Later (now ∷ past) → Clocked (record { short = short; long = long }) now past
unfolding Pairs
clocked rate short long grain fits pos now past h g =
    record {
      covers = λ t m. terms_safe rate grain short long t now pos fits (earlier now past g t m) (up_to_now rate grain now past h t m);
      onward = λ t m. (earlier now past g t m).hand 0;
    }

-- CLOCKS THAT GO ON EXACTLY keep within their error
more_slow : (a b d g e f : ℕ) → e ≤ f → a * e ≤ (b + 1) * f * g → (a + d * g) * e ≤ (b + d + 1) * f * g
more_slow a b d g e f le h = let k : e * (d * g) ≤ f * (d * g) = mul-le-mul_right (d * g) le in omega (arith, k, h)

more_fast : (a b d g e f : ℕ) → f ≤ e → b * f * g ≤ a * e + f * g → (b + d) * f * g ≤ (a + d * g) * e + f * g
more_fast a b d g e f le h = let k : f * (d * g) ≤ e * (d * g) = mul-le-mul_right (d * g) le in omega (arith, k, h)

exactly : (rate grain d o n x y : ℕ) → o ≤ n → x ≤ y → Keeps rate grain (n - o) (y - x) → Keeps rate grain (n + d * grain - o) (y + d - x)
exactly rate grain d o n x y le le' k =
    let t : n + d * grain - o ≡ n - o + d * grain = omega (arith, le) in
    let s : y + d - x ≡ y - x + d = omega (arith, le') in
    subst (λ (z : ℕ). Keeps rate grain z (y + d - x)) (sym t) (subst (Keeps rate grain (n - o + d * grain)) (sym s) (record { slow = more_slow (n - o) (y - x) d grain (million - rate) million (omega arith) k.slow; fast = more_fast (n - o) (y - x) d grain (million + rate) million (omega arith) k.fast }))

pub paused : (rate grain d : ℕ) (r : Run) → Pairs Later (moments r) → Within rate grain (moments r) → Within rate grain (moments (next r (pause grain d)))
unfolding Pairs
paused rate grain d r g h = ((λ o z j. let l = earlier r.world.now r.past g o z in exactly rate grain d o.true r.world.now.true (o.hand j) (r.world.now.hand j) l.true (l.hand j) (up_to_now rate grain r.world.now r.past h o z j)), h)
