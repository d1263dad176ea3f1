-- The judgement by an envelope is exact, and an extended envelope stands for one reading more.
use Rattle.std.proofs.Common.{◌≡◌, ℕ, ◌+◌, ◌-◌, ◌*◌, ◌≤◌, Bool, true, false, ◌↔◌, List, [], ◌∷◌, sym, refl, subst, arith, add-zero, zero-add}
use mathlib.Core.List.{Memᴰ}
use Rattle.std.proofs.lemmas.Bool.{cond_both, leb-true, leb-false, le-leb, and_parts, and_from}
use Rattle.clock.specs.Moments.{million, Keeps}
use Rattle.clock.specs.declared.envelope.Envelope.{Envelope}
use Rattle.clock.specs.declared.envelope.Point.{Point}
use Rattle.clock.specs.Envelopes.{ahead_by, ahead_of, behind_by, first_one, admits_one, extend_one, Encloses}

-- no reading of the past is later than p, by the true time or by the clock
abbrev pub NoneLater : List Point → Point → Type 0
NoneLater past p = (q : Point) → Memᴰ q past → (q.time ≤ p.time) × (q.shown ≤ p.shown)

-- from each reading of the past on to p the clock keeps within the error
abbrev pub KeepsSince : (rate grain : ℕ) → List Point → Point → Type 0
KeepsSince rate grain past p = (q : Point) → Memᴰ q past → Keeps rate grain (p.time - q.time) (p.shown - q.shown)

-- the judgement of p by an envelope is exact, whatever past the envelope stands for
abbrev pub Exact : (rate grain : ℕ) → Envelope → Point → Bool → Type 0
Exact rate grain e p r = (past : List Point) → Encloses rate grain past e → NoneLater past p → (r ≡ true) ↔ KeepsSince rate grain past p

-- an envelope made from another stands for one reading more
abbrev pub Extends : (rate grain : ℕ) → Envelope → Point → Envelope → Type 0
Extends rate grain e p r = (past : List Point) → Encloses rate grain past e → Encloses rate grain (p ∷ past) r

-- the bounds of the error by sums, where d and s have passed since t and c
slow_iff : (e g d s t c : ℕ) → (d * e ≤ (s + 1) * g) ↔ ((t + d) * e + c * g ≤ t * e + (c + s) * g + g)
slow_iff e g d s t c = ((λ h. omega arith), (λ h. omega arith))

fast_iff : (f g d s t c : ℕ) → (s * g ≤ d * f + g) ↔ (t * f + (c + s) * g ≤ (t + d) * f + c * g + g)
fast_iff f g d s t c = ((λ h. omega arith), (λ h. omega arith))

-- sums of three numbers
through : (a b c d e f u v : ℕ) → a + d ≤ c + b + u → c + f ≤ e + d + v → a + f ≤ e + b + (u + v)
through a b c d e f u v h k = omega arith

-- of a clock of any speed, from r by q to p
of_through : (speed grain u v : ℕ) (p q r : Point) → ahead_of speed grain u p q ≡ true → ahead_of speed grain v q r ≡ true → ahead_of speed grain (u + v) p r ≡ true
of_through speed grain u v p q r h k =
    le-leb _ _
    (through (p.time * speed) (p.shown * (million * grain)) (q.time * speed) (q.shown * (million * grain)) (r.time * speed) (r.shown * (million * grain))
    u v (leb-true _ _ h) (leb-true _ _ k))

of_same : (speed grain : ℕ) (p : Point) → ahead_of speed grain 0 p p ≡ true
of_same speed grain p = le-leb _ _ (omega arith)

-- one of two points is as far ahead as the other
of_other : (speed grain : ℕ) (p q : Point) → ahead_of speed grain 0 p q ≡ false → ahead_of speed grain 0 q p ≡ true
of_other speed grain p q h = le-leb _ _ (omega (arith, leb-false _ _ h))

module _ (rate grain : ℕ) where
  -- within the error from q to p, by the two tests
  abbrev Both : (p q : Point) → Type 0
  Both p q = (ahead_by rate grain (million * grain) p q ≡ true) × (behind_by rate grain (million * grain) p q ≡ true)

  -- time and shown are how far the clock has gone on since q
  keeps_since : (q : Point) (time shown : ℕ) → Keeps rate grain time shown ↔ Both (record { time = q.time + time; shown = q.shown + shown }) q
  keeps_since q time shown =
      let slow = slow_iff (million - rate) (million * grain) time shown q.time q.shown in
      let fast = fast_iff (million + rate) (million * grain) time shown q.time q.shown in (
        (λ h. (le-leb _ _ (slow.0 (omega (arith, h.slow))), le-leb _ _ (fast.0 (omega (arith, h.fast))))),
        (λ h. record { slow = omega (arith, slow.1 (leb-true _ _ h.0)); fast = omega (arith, fast.1 (leb-true _ _ h.1)) }),
      )

  keeps_iff : (p q : Point) → q.time ≤ p.time → q.shown ≤ p.shown → Keeps rate grain (p.time - q.time) (p.shown - q.shown) ↔ Both p q
  keeps_iff p q a b =
      let t : q.time + (p.time - q.time) ≡ p.time = omega arith in
      let s : q.shown + (p.shown - q.shown) ≡ p.shown = omega arith in
      rw (t, s) at (keeps_since q (p.time - q.time) (p.shown - q.shown))

  ahead_through : (slack : ℕ) (p q r : Point) → ahead_by rate grain slack p q ≡ true → ahead_by rate grain 0 q r ≡ true → ahead_by rate grain slack p r ≡ true
  ahead_through slack p q r h k = rw add-zero at (of_through (million - rate) grain slack 0 p q r h k)

  behind_through : (slack : ℕ) (p q r : Point) → behind_by rate grain slack p q ≡ true → behind_by rate grain 0 q r ≡ true → behind_by rate grain slack p r ≡ true
  behind_through slack p q r h k = rw zero-add at (of_through (million + rate) grain 0 slack r q p k h)

  pub exact : (e : Envelope) (p : Point) → Exact rate grain e p (admits_one rate grain e p)
  exact e p past of later = (to, from)
    where
      both : (q : Point) → Memᴰ q past → Keeps rate grain (p.time - q.time) (p.shown - q.shown) ↔ Both p q
      both q m = keeps_iff p q (later q m).0 (later q m).1

      to : admits_one rate grain e p ≡ true → KeepsSince rate grain past p
      to h q m =
          let a = and_parts _ _ h in
          (both q m).1 (ahead_through (million * grain) p e.ahead q a.0 (of.ahead q m), behind_through (million * grain) p e.behind q a.1 (of.behind q m))

      from : KeepsSince rate grain past p → admits_one rate grain e p ≡ true
      from h =
          and_from _ _ ((both e.ahead of.ahead_at).0 (h e.ahead of.ahead_at)).0
          ((both e.behind of.behind_at).0 (h e.behind of.behind_at)).1

  -- what holds of the newest and of all earlier ones holds of all
  of_all : (P : Point → Type 0) (p : Point) (past : List Point) → P p → ((q : Point) → Memᴰ q past → P q) → (q : Point) → Memᴰ q (p ∷ past) → P q
  of_all P p past h k q (Memᴰ.head e) = subst P (sym e) h
  of_all P p past h k q (Memᴰ.tail m) = k q m

  pub first : (p : Point) → Encloses rate grain (p ∷ []) (first_one p)
  first p =
      record {
        ahead_at = Memᴰ.head refl;
        behind_at = Memᴰ.head refl;
        ahead = of_all (λ q. ahead_by rate grain 0 p q ≡ true) p [] (of_same _ grain p) (λ q m. elim m [ ]);
        behind = of_all (λ q. behind_by rate grain 0 p q ≡ true) p [] (of_same _ grain p) (λ q m. elim m [ ]);
      }

  pub extends : (e : Envelope) (p : Point) → Extends rate grain e p (extend_one rate grain e p)
  extends e p past of =
      record {
        ahead_at = cond_both _ p e.ahead (λ x. Memᴰ x (p ∷ past)) (λ t. Memᴰ.head refl) (λ t. Memᴰ.tail of.ahead_at);
        behind_at = cond_both _ p e.behind (λ x. Memᴰ x (p ∷ past)) (λ t. Memᴰ.head refl) (λ t. Memᴰ.tail of.behind_at);
        ahead =
            cond_both _ p e.ahead (λ x. (q : Point) → Memᴰ q (p ∷ past) → ahead_by rate grain 0 x q ≡ true)
            (λ t. of_all (λ q. ahead_by rate grain 0 p q ≡ true) p past (of_same _ grain p) (λ q m. ahead_through 0 p e.ahead q t (of.ahead q m)))
            (λ t. of_all (λ q. ahead_by rate grain 0 e.ahead q ≡ true) p past (of_other _ grain p e.ahead t) of.ahead);
        behind =
            cond_both _ p e.behind (λ x. (q : Point) → Memᴰ q (p ∷ past) → behind_by rate grain 0 x q ≡ true)
            (λ t. of_all (λ q. behind_by rate grain 0 p q ≡ true) p past (of_same _ grain p) (λ q m. behind_through 0 p e.behind q t (of.behind q m)))
            (λ t. of_all (λ q. behind_by rate grain 0 e.behind q ≡ true) p past (of_other _ grain e.behind p t) of.behind);
      }
