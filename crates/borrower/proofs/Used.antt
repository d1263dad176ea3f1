-- The numbers on file are at least those that were used.
-- Assumes nothing.
use Rattle.std.proofs.Common.{◌≡◌, ℕ, ◌+◌, ◌<◌, ◌≤◌, Bool, true, false, cond, not, ◌&&◌, ◌||◌, eqb, ltb, leb, ◌⊎◌, List, Ok, Err, Result, sym, refl, ap, subst, inl, inr, arith}
use Rattle.std.proofs.lemmas.Bool.{cond_both, and_parts, eqb-true, leb-true, leb-false, ltb-false, or_parts}
use Rattle.borrower.specs.declared.hold.Part.{Part}
use Rattle.borrower.specs.declared.hold.OnFile.{OnFile}
use Rattle.message.specs.declared.kind.Kind.{Kind}
use Rattle.message.specs.declared.refusal.Refusal.{Refusal}
use Rattle.message.specs.declared.refusal.Refusal.TheVariants.{HoldsCopy, OtherAsk, Exhausted}
use Rattle.borrower.specs.declared.hold.Asked.{Asked}
use Rattle.borrower.specs.declared.outcome.Call.TheVariants as call
use Rattle.borrower.specs.Steps.{rounded, kept_of, passes, same_part, released, stale, settled, holds, asking, ask_of, writable, wrote, write_by, write_of, lent}
use Rattle.borrower.specs.Outcomes.{due, ask_sends, write_sends, call_part, call_effect}
use Rattle.borrower.specs.Used.{on_file, Near, AllUsed, Covered}

pub up : (x : ℕ) → x ≤ 4294967295 → x ≤ rounded x
up x h = omega arith

again : (x : ℕ) → x ≤ 4294967295 → rounded (rounded x) ≡ rounded x
again x h = omega arith

-- both numbers of the part are on file
abbrev pub Covers : OnFile → Part → Type 0
Covers f p = (p.ask ≤ f.ask) × (p.write ≤ f.write)

abbrev pub Small : Part → Type 0
Small p = (p.ask ≤ 4294967295) × (p.write ≤ 4294967295)

abbrev Rounded : OnFile → Type 0
Rounded f = (rounded f.ask ≡ f.ask) × (rounded f.write ≡ f.write)

raised : (n m : ℕ) → n ≤ 4294967295 → n ≤ cond (leb n m) m (rounded n)
raised n m h = cond_both (leb n m) m (rounded n) (λ x. n ≤ x) (λ e. leb-true n m e) (λ e. up n h)

raised_rounded : (n m : ℕ) → n ≤ 4294967295 → rounded m ≡ m → rounded (cond (leb n m) m (rounded n)) ≡ cond (leb n m) m (rounded n)
raised_rounded n m h r = cond_both (leb n m) m (rounded n) (λ x. rounded x ≡ x) (λ e. r) (λ e. again n h)

kept_covers : (f : OnFile) (p : Part) → Small p → Covers (kept_of f p) p
kept_covers f p h = (raised p.ask f.ask h.0, raised p.write f.write h.1)

kept_rounded : (f : OnFile) (p : Part) → Small p → Rounded f → Rounded (kept_of f p)
kept_rounded f p h r = (raised_rounded p.ask f.ask h.0 r.0, raised_rounded p.write f.write h.1 r.1)

not_passed : (f : OnFile) (p : Part) → passes f p ≡ false → Covers f p
not_passed f p e =
    let b = or_parts (ltb f.ask p.ask) (ltb f.write p.write) e in
    (ltb-false f.ask p.ask b.0, ltb-false f.write p.write b.1)

-- a step that changed the part
changed : (p p' : Part) (f : OnFile) → Small p' → Rounded f → same_part p p' ≡ false → Covers (on_file p f p') p' × Rounded (on_file p f p')
changed p p' f h r e =
    let d : due p f p' ≡ passes f p' = ap (λ (b : Bool). not b && passes f p') e in
    subst (λ (b : Bool). Covers (cond b (kept_of f p') f) p' × Rounded (cond b (kept_of f p') f)) (sym d)
    (cond_both (passes f p') (kept_of f p') f (λ (g : OnFile). Covers g p' × Rounded g)
    (λ t. (kept_covers f p' h, kept_rounded f p' h r)) (λ t. (not_passed f p' t, r)))

same_numbers : (p p' : Part) → same_part p p' ≡ true → (p.ask ≡ p'.ask) × (p.write ≡ p'.write)
same_numbers p p' e =
    let a = and_parts (eqb p.ask p'.ask) _ e in
    let b = and_parts (eqb p.write p'.write) _ a.1 in
    (eqb-true p.ask p'.ask a.0, eqb-true p.write p'.write b.0)

unchanged : (p p' : Part) (f : OnFile) → same_part p p' ≡ true → on_file p f p' ≡ f
unchanged p p' f e = ap (λ (b : Bool). cond (not b && passes f p') (kept_of f p') f) e

-- what any step leaves: near again; and on file, where a number went up
abbrev pub After : Part → OnFile → Part → OnFile → Type 0
After p f p' g = Near g p' × ((p.ask < p'.ask) ⊎ (p.write < p'.write) → Covers g p')

pub after : (p p' : Part) (f : OnFile) → Near f p → Small p' → After p f p' (on_file p f p')
after p p' f n h = go (same_part p p') refl
  where
    go : (b : Bool) → same_part p p' ≡ b → After p f p' (on_file p f p')
    go true e =
        let s = same_numbers p p' e in
        subst (After p f p') (sym (unchanged p p' f e)) (
          record { ask_rounded = n.ask_rounded; write_rounded = n.write_rounded; ask = omega (arith, n.ask, s.0); ask_last = h.0; write = omega (arith, n.write, s.1) },
          (λ r. absurd (elim r [ inl a ↦ omega (arith, s.0) | inr a ↦ omega (arith, s.1) ])),
        )
    go false e =
        let c = changed p p' f h (n.ask_rounded, n.write_rounded) e in (
          record { ask_rounded = c.1.0; write_rounded = c.1.1; ask = omega (arith, c.0.0); ask_last = h.0; write = c.0.1 },
          (λ r. c.0),
        )

-- what is on file never goes down
number_up : (n m : ℕ) → n ≤ 4294967295 → m ≤ cond (leb n m) m (rounded n)
number_up n m h = cond_both (leb n m) m (rounded n) (λ x. m ≤ x) (λ e. omega arith) (λ e. omega (arith, up n h, leb-false n m e))

pub filed_up : (p p' : Part) (f : OnFile) → Small p' → (f.ask ≤ (on_file p f p').ask) × (f.write ≤ (on_file p f p').write)
filed_up p p' f h =
    cond_both (due p f p') (kept_of f p') f (λ (g : OnFile). (f.ask ≤ g.ask) × (f.write ≤ g.write))
    (λ e. (number_up p'.ask f.ask h.0, number_up p'.write f.write h.1)) (λ e. omega arith)

-- what settling leaves
abbrev pub Settled : Part → Part → Type 0
Settled p p1 = (p.ask ≤ p1.ask) × (p1.ask ≤ 4294967295) × (p1.write ≡ p.write)

pub settling : (c s : ℕ) (p : Part) → p.ask ≤ 4294967295 → Settled p (settled c s p)
settling c s p h = cond_both (stale c s p.hold) (released p) p (Settled p) (λ e. (omega arith, omega arith, refl)) (λ e. (omega arith, h, refl))

pub small_write : (f : OnFile) (p : Part) → Near f p → p.write ≤ 4294967295
small_write f p n = omega (arith, n.write, n.write_rounded)

module _ (w q : ℕ) (c s : ℕ) (p : Part) (f : OnFile) (n : Near f p) where
  abbrev p1 : Part
  p1 = settled c s p

  se : Settled p p1
  se = settling c s p n.ask_last

  sw : p1.write ≤ 4294967295
  sw = omega (arith, se.2, small_write f p n)

  still : After p f p1 (on_file p f p1)
  still = after p p1 f n (se.1, sw)

  ask_covered : (k : Kind)
      → Near (on_file p f (ask_of c s p1).0) (ask_of c s p1).0 × AllUsed (on_file p f (ask_of c s p1).0) (ask_sends w q k (ask_of c s p1).1)
  ask_covered k =
      cond_both (holds p1.hold) (p1, Err HoldsCopy) _ M (λ e. (still.0, tt))
      (λ e. cond_both (leb 4294967294 p1.ask || leb 18446744073709551616 (c + s)) (p1, Err Exhausted) _ M (λ t. (still.0, tt))
      (λ t.
      let g = leb-false 4294967294 p1.ask (or_parts (leb 4294967294 p1.ask) _ t).0 in
      let a = after p (asking c p1) f n (omega (arith, g), sw) in
      let v = a.1 (inl (omega (arith, se.0))) in
      (a.0, ((v.0, v.1), tt))))
    where
      M : Part × Result Asked Refusal → Type 0
      M r = Near (on_file p f r.0) r.0 × AllUsed (on_file p f r.0) (ask_sends w q k r.1)

  write_covered : (v : List ℕ)
      → Near (on_file p f (write_of p1).0) (write_of p1).0 × AllUsed (on_file p f (write_of p1).0) (write_sends w q v (write_of p1).1)
  write_covered v = go (writable p1.hold)
    where
      M : Part × Result ℕ Refusal → Type 0
      M r = Near (on_file p f r.0) r.0 × AllUsed (on_file p f r.0) (write_sends w q v r.1)

      go : (r : Result (Unit {0}) Refusal) → M (write_by p1 r)
      go (Err e) = (still.0, tt)
      go (Ok u) =
          cond_both (leb 4294967295 p1.write) (p1, Err Exhausted) (wrote p1, Ok (p1.write + 1)) M (λ t. (still.0, tt))
          (λ t.
          let g = leb-false 4294967295 p1.write t in
          let a = after p (wrote p1) f n (omega arith, omega (arith, g)) in
          let b = a.1 (inr (omega (arith, se.2))) in
          (a.0, (b.1, tt)))

pub released_small : (p : Part) → p.write ≤ 4294967295 → Small (released p)
released_small p h = (omega arith, h)

-- where a release leaves all as it was, the largest number is on file
at_last : (p : Part) (f : OnFile) → Near f p → same_part p (released p) ≡ true → p.ask ≤ f.ask
at_last p f n e = omega (arith, (same_numbers p (released p) e).0, n.ask, n.ask_last, n.ask_rounded)

pub recall_covered : (p : Part) (f : OnFile) → Near f p → Near (on_file p f (released p)) (released p) × (p.ask ≤ (on_file p f (released p)).ask)
recall_covered p f n = ((after p (released p) f n (released_small p (small_write f p n))).0, go (same_part p (released p)) refl)
  where
    go : (b : Bool) → same_part p (released p) ≡ b → p.ask ≤ (on_file p f (released p)).ask
    go true e = subst (λ (g : OnFile). p.ask ≤ g.ask) (sym (unchanged p (released p) f e)) (at_last p f n e)
    go false e =
        let c = changed p (released p) f (released_small p (small_write f p n)) (n.ask_rounded, n.write_rounded) e in
        omega (arith, c.0.0, n.ask_last)

pub covered : Covered
covered =
    record {
      call = λ w q v c s k p f n. elim k as (λ k. Near (on_file p f (call_part c s k p)) (call_part c s k p) × AllUsed (on_file p f (call_part c s k p)) (call_effect w q v c s k p f).sends) [
        | call.Ask k ↦ ask_covered w q c s p f n k
        | call.Show ↦ ((still w q c s p f n).0, tt)
        | call.Write ↦ write_covered w q c s p f n v
        | call.Forget ↦ ((recall_covered p f n).0, tt)
      ];
      recall = recall_covered;
      loan = λ m k p f n. cond_both (holds p.hold) (p, Err HoldsCopy) _ (λ (r : Part × Result (Unit {0}) Refusal). Near (on_file p f r.0) r.0)
          (λ e. (after p p f n (n.ask_last, small_write f p n)).0)
          (λ e. cond_both (eqb m p.ask) (lent k p, Ok tt) (p, Err OtherAsk) (λ (r : Part × Result (Unit {0}) Refusal). Near (on_file p f r.0) r.0)
          (λ t. (after p (lent k p) f n (n.ask_last, small_write f p n)).0) (λ t. (after p p f n (n.ask_last, small_write f p n)).0));
    }
