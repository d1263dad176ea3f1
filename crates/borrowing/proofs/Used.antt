-- The numbers on file are at least those that were used.
use Rattle.std.proofs.Common.{◌≡◌, ℕ, ◌+◌, ◌<◌, ◌≤◌, Bool, true, false, cond, not, ◌&&◌, ◌||◌, eqb, ltb, leb, ◌⊎◌, List, [], ◌∷◌, Some, None, Option, Ok, Err, Result, sym, refl, ap, subst, inl, inr, arith}
use Rattle.std.specs.Prelude.{fold}
use Rattle.std.proofs.lemmas.Bool.{cond_both, and_parts, eqb-true, eq-eqb, leb-true, leb-false, ltb-false, or_parts}
use Rattle.part.specs.Parts.{at_1}
use Rattle.message.specs.declared.kind.Kind.{Kind}
use Rattle.message.specs.declared.refusal.Refusal.{Refusal}
use Rattle.message.specs.declared.refusal.Refusal.TheVariants.{HoldsCopy, OtherAsk, Exhausted}
use Rattle.message.specs.Format.{Msg, Ask, Loan, Write, In, Void, Recall, Back}
use Rattle.journal.specs.Records.{Numbers}
use Rattle.message.specs.Reading.{read}
use Rattle.message.specs.Directions.{for_borrower}
use Rattle.machine.specs.Effects.{Effect, Note, nothing}
use Rattle.machine.specs.Inputs.{Input, Came, Called, Reading, Call}
use Rattle.machine.specs.Inputs as call
use Rattle.borrowing.specs.declared.hold.Part.{Part}
use Rattle.borrowing.specs.declared.hold.Asked.{Asked}
use Rattle.borrowing.specs.declared.on_file.OnFile.{OnFile}
use Rattle.borrowing.specs.Parts.{rounded, raised, passes, same_part, released, stale, settled, holds, asking, writable, wrote, write_by, lent, loan_of, showing, come_up}
use Rattle.borrowing.specs.Rules.{Terms, Durable, Volatile, redo, is_due, due, leave, asks, writes, asked, written, shows, shown, called, turned_away, told, recalled, heard, step}
use Rattle.borrowing.specs.Rules.{lent as lend}
use Rattle.borrowing.specs.Used.{Rounded, Near, AllNear, AllUsed, Covers, AllCovered}

up : (x : ℕ) → x ≤ 4294967295 → x ≤ rounded x
up x h = omega arith

again : (x : ℕ) → x ≤ 4294967295 → rounded (rounded x) ≡ rounded x
again x h = omega arith

-- what is on file of the part after a step
abbrev on_file : Part → OnFile → Part → OnFile
on_file p f p' = cond (is_due p f p') (raised f p') f

-- both numbers of the part are on file
abbrev Held : OnFile → Part → Type 0
Held f p = (p.ask ≤ f.ask) × (p.write ≤ f.write)

abbrev Small : Part → Type 0
Small p = (p.ask ≤ 4294967295) × (p.write ≤ 4294967295)

raise_held : (n m : ℕ) → n ≤ 4294967295 → n ≤ cond (leb n m) m (rounded n)
raise_held n m h = cond_both (leb n m) m (rounded n) (λ x. n ≤ x) (λ e. leb-true n m e) (λ e. up n h)

raise_rounded : (n m : ℕ) → n ≤ 4294967295 → rounded m ≡ m → rounded (cond (leb n m) m (rounded n)) ≡ cond (leb n m) m (rounded n)
raise_rounded n m h r = cond_both (leb n m) m (rounded n) (λ x. rounded x ≡ x) (λ e. r) (λ e. again n h)

raised_held : (f : OnFile) (p : Part) → Small p → Held (raised f p) p
raised_held f p h = (raise_held p.ask f.ask h.0, raise_held p.write f.write h.1)

raised_rounded : (f : OnFile) (p : Part) → Small p → Rounded f → Rounded (raised f p)
raised_rounded f p h r = record { ask = raise_rounded p.ask f.ask h.0 r.ask; write = raise_rounded p.write f.write h.1 r.write }

not_passed : (f : OnFile) (p : Part) → passes f p ≡ false → Held f p
not_passed f p e =
    let b = or_parts (ltb f.ask p.ask) (ltb f.write p.write) e in
    (ltb-false f.ask p.ask b.0, ltb-false f.write p.write b.1)

-- a step that changed the part
changed : (p p' : Part) (f : OnFile) → Small p' → Rounded f → same_part p p' ≡ false → Held (on_file p f p') p' × Rounded (on_file p f p')
changed p p' f h r e =
    let d : is_due p f p' ≡ passes f p' = ap (λ (b : Bool). not b && passes f p') e in
    subst (λ (b : Bool). Held (cond b (raised f p') f) p' × Rounded (cond b (raised f p') f)) (sym d)
    (cond_both (passes f p') (raised f p') f (λ (g : OnFile). Held g p' × Rounded g)
    (λ t. (raised_held f p' h, raised_rounded f p' h r)) (λ t. (not_passed f p' t, r)))

same_numbers : (p p' : Part) → same_part p p' ≡ true → (p.ask ≡ p'.ask) × (p.write ≡ p'.write)
same_numbers p p' e =
    let a = and_parts (eqb p.ask p'.ask) _ e in
    let b = and_parts (eqb p.write p'.write) _ a.1 in
    (eqb-true p.ask p'.ask a.0, eqb-true p.write p'.write b.0)

unchanged : (p p' : Part) (f : OnFile) → same_part p p' ≡ true → on_file p f p' ≡ f
unchanged p p' f e = ap (λ (b : Bool). cond (not b && passes f p') (raised f p') f) e

-- what any step leaves: near again; and on file, where a number went up
abbrev After : Part → Part → OnFile → Type 0
After p p' g = Near g p' × ((p.ask < p'.ask) ⊎ (p.write < p'.write) → Held g p')

after : (p p' : Part) (f : OnFile) → Near f p → Small p' → After p p' (on_file p f p')
after p p' f n h = go (same_part p p') refl
  where
    go : (b : Bool) → same_part p p' ≡ b → After p p' (on_file p f p')
    go true e =
        let s = same_numbers p p' e in
        subst (After p p') (sym (unchanged p p' f e)) (
          record { filed = n.filed; ask = omega (arith, n.ask, s.0); ask_last = h.0; write = omega (arith, n.write, s.1) },
          (λ r. absurd (elim r [ inl a ↦ omega (arith, s.0) | inr a ↦ omega (arith, s.1) ])),
        )
    go false e =
        let c = changed p p' f h n.filed e in (
          record { filed = c.1; ask = omega (arith, c.0.0); ask_last = h.0; write = c.0.1 },
          (λ r. c.0),
        )

small_write : (f : OnFile) (p : Part) → Near f p → p.write ≤ 4294967295
small_write f p n = omega (arith, n.write, n.filed.write)

-- what settling leaves
abbrev Settled : Part → Part → Type 0
Settled p p1 = (p.ask ≤ p1.ask) × (p1.ask ≤ 4294967295) × (p1.write ≡ p.write)

settling : (c s : ℕ) (p : Part) → p.ask ≤ 4294967295 → Settled p (settled c s p)
settling c s p h = cond_both (stale c s p.hold) (released p) p (Settled p) (λ e. (omega arith, omega arith, refl)) (λ e. (omega arith, h, refl))

-- where a release leaves all as it was, the largest number is on file
at_last : (p : Part) (f : OnFile) → Near f p → same_part p (released p) ≡ true → p.ask ≤ f.ask
at_last p f n e = omega (arith, (same_numbers p (released p) e).0, n.ask, n.ask_last, n.filed.ask)

released_small : (p : Part) → p.write ≤ 4294967295 → Small (released p)
released_small p h = (omega arith, h)

release_held : (p : Part) (f : OnFile) → Near f p → p.ask ≤ (on_file p f (released p)).ask
release_held p f n = go (same_part p (released p)) refl
  where
    go : (b : Bool) → same_part p (released p) ≡ b → p.ask ≤ (on_file p f (released p)).ask
    go true e = subst (λ (g : OnFile). p.ask ≤ g.ask) (sym (unchanged p (released p) f e)) (at_last p f n e)
    go false e =
        let c = changed p (released p) f (released_small p (small_write f p n)) n.filed e in
        omega (arith, c.0.0, n.ask_last)

-- WHAT IS ON FILE after a step at the part q that left p' of it
module _ (q : ℕ) (p' : Part) (d : Durable) (v : Volatile) where
  abbrev filed : OnFile
  filed = on_file (v.parts q) (d q) p'

  abbrev then_filed : Durable
  then_filed = fold redo d (due q (v.parts q) (d q) p')

  at_q : then_filed q ≡ filed
  at_q = go (is_due (v.parts q) (d q) p')
    where
      go : (b : Bool) → fold redo d (cond b (Numbers q (raised (d q) p').ask (raised (d q) p').write ∷ []) []) q ≡ cond b (raised (d q) p') (d q)
      go true = rw (eq-eqb q q refl)
      go false = refl

  near_all : AllNear d v → Near filed p' → (r : ℕ) → Near (then_filed r) (at_1 q p' v.parts r)
  near_all n m r = go (eqb r q) refl
    where
      go : (b : Bool) → eqb r q ≡ b → Near (then_filed r) (cond b p' (v.parts r))
      go true e = subst (λ (x : ℕ). Near (then_filed x) p') (sym (eqb-true r q e)) (subst (λ (f : OnFile). Near f p') (sym at_q) m)
      go false e = subst (λ (f : OnFile). Near f (v.parts r)) (sym (other (is_due (v.parts q) (d q) p') e)) (n r)
        where
          other : (b : Bool) → eqb r q ≡ false → fold redo d (cond b (Numbers q (raised (d q) p').ask (raised (d q) p').write ∷ []) []) r ≡ d r
          other true e = rw e
          other false e = refl

  covers : (e : Effect) → AllNear d v → Small p' → AllUsed then_filed e.sends → Covers d (leave q p' e d v)
  covers e n h u = record { near = near_all n (after (v.parts q) p' (d q) (n q) h).0; used = u }

-- a part that is settled
module _ (t : Terms) (c q : ℕ) (d : Durable) (v : Volatile) (n : AllNear d v) where
  abbrev p1 : Part
  p1 = settled c t.short (v.parts q)

  s1 : Settled (v.parts q) p1
  s1 = settling c t.short (v.parts q) (n q).ask_last

  small1 : Small p1
  small1 = (s1.1, omega (arith, s1.2, small_write (d q) (v.parts q) (n q)))

  ask_covers : (k : Kind) → Covers d (asked t c q k p1 d v)
  ask_covers k =
      cond_both (holds p1.hold) (p1, Err HoldsCopy) _ M (λ e. covers q p1 d v (asks t.who q k (Err HoldsCopy)) n small1 tt)
      (λ e. cond_both (leb 4294967294 p1.ask || leb 18446744073709551616 (c + t.short)) (p1, Err Exhausted) _ M
      (λ f. covers q p1 d v (asks t.who q k (Err Exhausted)) n small1 tt)
      (λ f.
      let g = leb-false 4294967294 p1.ask (or_parts (leb 4294967294 p1.ask) _ f).0 in
      let h : Small (asking c p1) = (omega (arith, g), small1.1) in
      let a = (after (v.parts q) (asking c p1) (d q) (n q) h).1 (inl (omega (arith, s1.0))) in
      let u = subst (λ (x : OnFile). (p1.ask + 1 ≤ x.ask) × (p1.write ≤ x.write)) (sym (at_q q (asking c p1) d v)) a in
      covers q (asking c p1) d v (asks t.who q k (Ok (record { number = p1.ask + 1; written = p1.write }))) n h (u, tt)))
    where
      M : Part × Result Asked Refusal → Type 0
      M r = Covers d (leave q r.0 (asks t.who q k r.1) d v)

  write_covers : (bs : List ℕ) → Covers d (written t q bs p1 d v)
  write_covers bs = go (writable p1.hold)
    where
      M : Part × Result ℕ Refusal → Type 0
      M r = Covers d (leave q r.0 (writes t.who q bs r.1) d v)

      go : (r : Result (Unit {0}) Refusal) → M (write_by p1 r)
      go (Err e) = covers q p1 d v (writes t.who q bs (Err e)) n small1 tt
      go (Ok u) =
          cond_both (leb 4294967295 p1.write) (p1, Err Exhausted) (wrote p1, Ok (p1.write + 1)) M
          (λ f. covers q p1 d v (writes t.who q bs (Err Exhausted)) n small1 tt)
          (λ f.
          let g = leb-false 4294967295 p1.write f in
          let h : Small (wrote p1) = (omega arith, omega (arith, g)) in
          let a = (after (v.parts q) (wrote p1) (d q) (n q) h).1 (inr (omega (arith, s1.2))) in
          let u = subst (λ (x : OnFile). p1.write + 1 ≤ x.write) (sym (at_q q (wrote p1) d v)) a.1 in
          covers q (wrote p1) d v (writes t.who q bs (Ok (p1.write + 1))) n h (u, tt))

  show_covers : Covers d (shown q p1 d v)
  show_covers = go (showing p1.hold)
    where
      go : (r : Result (Unit {0}) Refusal) → Covers d (leave q p1 (shows q r) d v)
      go (Ok u) = covers q p1 d v (shows q (Ok u)) n small1 tt
      go (Err e) = covers q p1 d v (shows q (Err e)) n small1 tt

called_covers : (t : Terms) (c : ℕ) (x : Call) (d : Durable) (v : Volatile) → AllNear d v → Covers d (called t c x d v)
called_covers t c (call.Ask q k) d v n = ask_covers t c q d v n k
called_covers t c (call.Show q) d v n = show_covers t c q d v n
called_covers t c (call.Write q bs) d v n = write_covers t c q d v n bs
called_covers t c (call.Forget q) d v n = covers q (released (v.parts q)) d v nothing n (released_small (v.parts q) (small_write (d q) (v.parts q) (n q))) tt

-- a message that is for it, or another
module _ (d : Durable) (v : Volatile) (n : AllNear d v) where
  away : Covers d (turned_away v)
  away = record { near = n; used = tt }

  for_it : (w i : ℕ) (x : Volatile × Effect) → Covers d x → Covers d (cond (eqb i w) x (turned_away v))
  for_it w i x h = cond_both (eqb i w) x (turned_away v) (Covers d) (λ e. h) (λ e. away)

  tell_covers : (w i : ℕ) (x : Note) → Covers d (told w i x v)
  tell_covers w i x = for_it w i _ (record { near = n; used = tt })

  small : (q : ℕ) → Small (v.parts q)
  small q = ((n q).ask_last, small_write (d q) (v.parts q) (n q))

  recall_covers : (w q : ℕ) → Covers d (recalled w q d v)
  recall_covers w q =
      let u = subst (λ (x : OnFile). (v.parts q).ask ≤ x.ask) (sym (at_q q (released (v.parts q)) d v)) (release_held (v.parts q) (d q) (n q)) in
      covers q (released (v.parts q)) d v (record nothing { sends = Back w q (v.parts q).ask ∷ [] }) n (released_small (v.parts q) (small q).1) (u, tt)

  loan_covers : (q m : ℕ) (k : Kind) (bs : List ℕ) → Covers d (lend q bs (loan_of m k (v.parts q)) d v)
  loan_covers q m k bs =
      cond_both (holds (v.parts q).hold) (v.parts q, Err HoldsCopy) _ M (λ e. as_it_was HoldsCopy)
      (λ e. cond_both (eqb m (v.parts q).ask) (lent k (v.parts q), Ok tt) (v.parts q, Err OtherAsk) M (λ f. taken) (λ f. as_it_was OtherAsk))
    where
      M : Part × Result (Unit {0}) Refusal → Type 0
      M r = Covers d (lend q bs r d v)

      as_it_was : (e : Refusal) → M (v.parts q, Err e)
      as_it_was e = record { near = near_all q (v.parts q) d v n (after (v.parts q) (v.parts q) (d q) (n q) (small q)).0; used = tt }

      taken : M (lent k (v.parts q), Ok tt)
      taken = record { near = near_all q (lent k (v.parts q)) d v n (after (v.parts q) (lent k (v.parts q)) (d q) (n q) (small q)).0; used = tt }

  heard_covers : (w : ℕ) (o : Option Msg) → Covers d (heard w o d v)
  heard_covers w (Some (Loan i q m k bs)) = for_it w i _ (loan_covers q m k bs)
  heard_covers w (Some (In i q m)) = tell_covers w i _
  heard_covers w (Some (Void i q m)) = tell_covers w i _
  heard_covers w (Some (Recall i q)) = for_it w i _ (recall_covers i q)
  heard_covers w None = away
  heard_covers w (Some (Ask i q m k l)) = away
  heard_covers w (Some (Write i q m bs)) = away
  heard_covers w (Some (Back i q m)) = away

step_covers : (t : Terms) (c : ℕ) (x : Input) (d : Durable) (v : Volatile) → AllNear d v → Covers d (step t c x d v)
step_covers t c (Came bs) d v n = heard_covers d v n t.who (for_borrower (read bs))
step_covers t c (Called x) d v n = called_covers t c x d v n
step_covers t c Reading d v n = record { near = n; used = tt }

up_near : (f : OnFile) → Rounded f → Near f (come_up f)
up_near f r =
    record {
      filed = r;
      ask = cond_both (eqb f.ask 0) 0 _ (λ (x : ℕ). x ≤ f.ask + 1) (λ e. omega arith) (λ e. omega arith);
      ask_last = cond_both (eqb f.ask 0) 0 _ (λ (x : ℕ). x ≤ 4294967295) (λ e. omega arith) (λ e. omega arith);
      write = omega arith;
    }

pub all_covered : AllCovered
all_covered =
    record {
      at_first = λ q. record { ask = refl; write = refl };
      up = λ t c d r. record { near = λ q. up_near (d q) (r q); used = tt };
      steps = step_covers;
    }
