-- The clocks go on standing for the moments so far, and judge the next exactly.
use Rattle.std.proofs.Common.{◌≡◌, ℕ, ◌+◌, ◌-◌, ◌^◌, ◌<◌, ◌≤◌, Bool, true, false, ◌⊎◌, ◌↔◌, List, [], ◌∷◌, length, get_or, sym, refl, ap, ◌∙◌, subst, inl, inr, arith}
use mathlib.Core.List.Memᴰ
use mathlib.Core.List.{Memᴰ}
use Rattle.std.proofs.lemmas.List.{get_or_default, get_or_past, get_or-map, length-map}
use Rattle.std.proofs.lemmas.Bool.{both_ways, cases_lt}
use Rattle.clock.specs.Moments.{Moment, Passing, after, Keeps, Pairs, Within, Later}
use Rattle.clock.specs.Envelopes.{Encloses, admits_one, extend_one, first_one}
use Rattle.clock.specs.Hands.{none, point, first_hand, next_point, HandPassed, HandRefused}
use Rattle.clock.specs.Clocks.{shows, shown_by, moment, passing, present, reading_at, readings, Five, Stands, Passed, Refused, Reason}
use Rattle.clock.specs.declared.clocks.Clocks.{Clocks}
use Rattle.clock.specs.declared.clocks.NoPass.{NoPass}
use Rattle.clock.specs.declared.clocks.NoPass.TheVariants.{TimeTooHigh, ReadingTooHigh, OffError}
use Rattle.clock.specs.declared.envelope.Point.{Point}
use Rattle.clock.specs.declared.hand.Hand.{Hand}
use Rattle.clock.specs.declared.terms.Terms.{Terms}
use Rattle.clock.proofs.Enclosing.{NoneLater, exact, first, extends}

-- TABLES OF READINGS

pub shows_in : (hands : List ℕ) (j : ℕ) → j < length hands → shows hands j ≡ get_or hands j 0
shows_in hands j h = get_or_default hands j (get_or hands 0 0) 0 h

shows_past : (hands : List ℕ) (j : ℕ) → length hands ≤ j → shows hands j ≡ get_or hands 0 0
shows_past hands j h = get_or_past hands j (get_or hands 0 0) h

five_in : (time : ℕ) (hands : List ℕ) → length hands ≡ 5 → Five (moment time hands)
five_in time hands l j h = shows_past hands j (omega arith) ∙ sym (shows_in hands 0 (omega arith))

-- what clock j shows, and its reading
pub shown_at : (hands : List Hand) (j : ℕ) → j < length hands → shows (shown_by hands) j ≡ (get_or hands j none).shown
shown_at hands j h = shows_in (shown_by hands) j (omega (arith, length-map hands (λ (h : Hand). h.shown))) ∙ get_or-map (λ (h : Hand). h.shown) hands j none 0 h

reading_is : (time : ℕ) (hands : List Hand) (j : ℕ) → j < length hands → reading_at j (moment time (shown_by hands)) ≡ point time (get_or hands j none).shown
reading_is time hands j h = ap (point time) (shown_at hands j h)

-- THE MOMENTS SO FAR

pub later_after : (o n : Moment) (p : Passing) → Later o n → Later o (after n p)
later_after o n p h = record { true = omega (arith, h.true); hand = λ j. omega (arith, h.hand j) }

later_refl : (n : Moment) → Later n n
later_refl n = record { true = omega arith; hand = λ j. omega arith }

-- each moment so far is no later than the present
pub earlier : (n : Moment) (past : List Moment) → Pairs Later (n ∷ past) → (o : Moment) → Memᴰ o (n ∷ past) → Later o n
unfolding Pairs
earlier n past h o (Memᴰ.head e) = subst (λ (x : Moment). Later x n) (sym e) (later_refl n)
earlier n past h o (Memᴰ.tail m) = h.0 o m

-- n is a next moment
module _ (s : Clocks) (past : List Moment) (st : Stands s past) (n : Moment) (five : Five n) (p : Passing) (is : n ≡ after (present s) p) where
  later_next : (m : Moment) → Memᴰ m (present s ∷ past) → Later m n
  later_next m z = subst (Later m) (sym is) (later_after m (present s) p (earlier (present s) past st.later m z))

  -- of one clock
  abbrev Keeping : ℕ → Type 0
  Keeping j = (m : Moment) → Memᴰ m (present s ∷ past) → Keeps s.terms.rate 1 (n.true - m.true) (n.hand j - m.hand j)

  abbrev Admitted : ℕ → Bool → Type 0
  Admitted j b = admits_one s.terms.rate 1 (get_or s.hands j none).envelope (reading_at j n) ≡ b

  one_exact : (j : ℕ) → j < 5 → Admitted j true ↔ Keeping j
  one_exact j h =
      let x = exact s.terms.rate 1 (get_or s.hands j none).envelope (reading_at j n) (readings j (present s ∷ past)) (st.encloses j h) none_later in
      ((λ t m z. x.0 t (reading_at j m) (Memᴰ.map (reading_at j) z)), (λ k. x.1 (λ q z. keeps k q (Memᴰ.of_map (reading_at j) (present s ∷ past) z))))
    where
      no_later : (q : Point) → ((m : Moment) × Memᴰ m (present s ∷ past) × (reading_at j m ≡ q)) → (q.time ≤ n.true) × (q.shown ≤ n.hand j)
      no_later q (m, z, e) = subst (λ (x : Point). (x.time ≤ n.true) × (x.shown ≤ n.hand j)) e ((later_next m z).true, (later_next m z).hand j)

      none_later : NoneLater (readings j (present s ∷ past)) (reading_at j n)
      none_later q z = no_later q (Memᴰ.of_map (reading_at j) (present s ∷ past) z)

      keeps : Keeping j → (q : Point) → ((m : Moment) × Memᴰ m (present s ∷ past) × (reading_at j m ≡ q)) → Keeps s.terms.rate 1 (n.true - q.time) (n.hand j - q.shown)
      keeps k q (m, z, e) = subst (λ (x : Point). Keeps s.terms.rate 1 (n.true - x.time) (n.hand j - x.shown)) e (k m z)

  within_next : ((j : ℕ) → j < 5 → Admitted j true) → Within s.terms.rate 1 (n ∷ present s ∷ past)
  unfolding Pairs
  within_next h = ((λ o z j. each o z j (cases_lt j 5)), st.within)
    where
      each : (o : Moment) → Memᴰ o (present s ∷ past) → (j : ℕ) → (j < 5) ⊎ (5 ≤ j) → Keeps s.terms.rate 1 (n.true - o.true) (n.hand j - o.hand j)
      each o z j (inl b) = (one_exact j b).0 (h j b) o z
      each o z j (inr b) = rw (five j b, st.five o z j b) ((one_exact 0 (omega arith)).0 (h 0 (omega arith)) o z)

  not_within : (j : ℕ) → j < 5 → Admitted j false → Within s.terms.rate 1 (n ∷ present s ∷ past) → ⊥
  unfolding Pairs
  not_within j b out w = both_ways _ out ((one_exact j b).1 (λ m z. w.0 m z j))

-- WHAT PASSING DOES

module _ (s : Clocks) (t : ℕ) (by : List ℕ) (a : length s.hands ≡ 5) (b : length by ≡ 5) (time : ℕ) (on : time ≡ s.time + t) where
  abbrev next : Moment
  next = after (present s) (passing t by)

  five_hands : length (shown_by s.hands) ≡ 5
  five_hands = length-map s.hands _ ∙ a

  next_five : Five next
  next_five j h = omega (arith, shows_past (shown_by s.hands) j, shows_past by j, shows_in (shown_by s.hands) 0, shows_in by 0, five_hands)

  -- of one clock
  abbrev Turn : ℕ → Hand → Type 0
  Turn j h = HandPassed s.terms.rate time (get_or by j 0) (get_or s.hands j none) h

  next_reading : (j : ℕ) → j < 5 → next_point time (get_or by j 0) (get_or s.hands j none) ≡ reading_at j next
  next_reading j h =
      let shown : (get_or s.hands j none).shown + get_or by j 0 ≡ next.hand j = omega (arith, shown_at s.hands j (omega arith), shows_in by j (omega arith)) in
      λ i. point (on i) (shown i)

  fives : (past : List Moment) → Stands s past → (m : Moment) → Memᴰ m (next ∷ present s ∷ past) → Five m
  fives past st m (Memᴰ.head e) = subst Five (sym e) next_five
  fives past st m (Memᴰ.tail z) = st.five m z

  abbrev Judges : ℕ → Bool → Point → Type 0
  Judges j r q = admits_one s.terms.rate 1 (get_or s.hands j none).envelope q ≡ r

  -- the clocks are these now
  module _ (hands : List Hand) (c : length hands ≡ 5) (turn : (j : ℕ) → j < 5 → Turn j (get_or hands j none)) where
    shown_turn : (j : ℕ) → j < 5 → shows (shown_by hands) j ≡ next.hand j
    shown_turn j h = omega (arith, shown_at hands j (omega arith), shown_at s.hands j (omega arith), shows_in by j (omega arith), (turn j h).shown)

    shown_next : (j : ℕ) → (j < 5) ⊎ (5 ≤ j) → shows (shown_by hands) j ≡ next.hand j
    shown_next j (inl h) = shown_turn j h
    shown_next j (inr h) = five_in 0 (shown_by hands) (length-map hands (λ (h : Hand). h.shown) ∙ c) j h ∙ shown_turn 0 (omega arith) ∙ sym (next_five j h)

    is_next : moment time (shown_by hands) ≡ next
    is_next = λ i. record { true = on i; hand = λ j. shown_next j (cases_lt j 5) i }

    abbrev Now : Moment → Type 0
    Now m = (past : List Moment) → Stands s past → (j : ℕ) → j < 5 → Encloses s.terms.rate 1 (readings j (m ∷ present s ∷ past)) (get_or hands j none).envelope

    now : Now next
    now past st j h =
        subst (Encloses s.terms.rate 1 (readings j (next ∷ present s ∷ past))) (sym grown)
        (extends s.terms.rate 1 (get_or s.hands j none).envelope (reading_at j next) (readings j (present s ∷ past)) (st.encloses j h))
      where
        grown : (get_or hands j none).envelope ≡ extend_one s.terms.rate 1 (get_or s.hands j none).envelope (reading_at j next)
        grown = (turn j h).envelope ∙ ap (λ (q : Point). extend_one s.terms.rate 1 (get_or s.hands j none).envelope q) (next_reading j h)

    pub passed : Passed t by s (record { time = time; hands = hands; terms = s.terms })
    unfolding Pairs
    passed =
        record {
          is = is_next;
          terms = refl;
          stands = λ past st.
              record {
                encloses = λ j h. subst Now (sym is_next) now past st j h;
                five = subst (λ (n : Moment). (m : Moment) → Memᴰ m (n ∷ present s ∷ past) → Five m) (sym is_next) (fives past st);
                later = subst (λ (n : Moment). Pairs Later (n ∷ present s ∷ past)) (sym is_next) (later_next s past st next next_five (passing t by) refl, st.later);
                within = subst (λ (n : Moment). Within s.terms.rate 1 (n ∷ present s ∷ past)) (sym is_next)
                    (within_next s past st next next_five (passing t by) refl (λ j h. subst (Judges j true) (next_reading j h) (turn j h).admitted));
              };
        }

  -- clock j is refused
  pub refused : (why : NoPass) (j : ℕ) → j < 5 → HandRefused s.terms.rate time (get_or by j 0) (get_or s.hands j none) why → Refused t by s s × Reason t by s why
  refused TimeTooHigh j h out = absurd out
  refused ReadingTooHigh j h out = (record { same = refl; rightly = λ room past st w. omega (arith, over, room.hand j) }, (j, over))
    where
      over : 2 ^ 64 ≤ next.hand j
      over = omega (arith, out, shown_at s.hands j (omega arith), shows_in by j (omega arith))
  refused OffError j h out = (record { same = refl; rightly = λ room past st w. off past st w }, off)
    where
      off : (past : List Moment) → Stands s past → Within s.terms.rate 1 (next ∷ present s ∷ past) → ⊥
      off past st w = not_within s past st next next_five (passing t by) refl j h (subst (Judges j false) (next_reading j h) out) w

-- THE FIRST MOMENT

pub begins : (terms : Terms) (hands : List Hand) → length hands ≡ 5 → ((j : ℕ) → j < 5 → get_or hands j none ≡ first_hand (get_or hands j none).shown) →
    Stands (record { time = 0; hands = hands; terms = terms }) []
unfolding Pairs
begins terms hands l firsts =
    record {
      encloses = λ j h.
          subst (Encloses terms.rate 1 (reading_at j (moment 0 (shown_by hands)) ∷ []))
          (ap first_one (reading_is 0 hands j (omega arith)) ∙ sym (ap (λ (h : Hand). h.envelope) (firsts j h)))
          (first terms.rate 1 (reading_at j (moment 0 (shown_by hands))));
      five = only;
      later = ((λ o z. elim z [ ]), tt);
      within = ((λ o z. elim z [ ]), tt);
    }
  where
    only : (m : Moment) → Memᴰ m ((moment 0 (shown_by hands)) ∷ []) → Five m
    only m (Memᴰ.head e) = subst Five (sym e) (five_in 0 (shown_by hands) (length-map hands (λ (h : Hand). h.shown) ∙ l))
    only m (Memᴰ.tail z) = elim z [ ]
