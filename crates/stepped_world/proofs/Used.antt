-- The numbers on file are at least those that were used.
use Rattle.std.proofs.Common.{◌≡◌, ℕ, ◌+◌, ◌<◌, ◌≤◌, Bool, true, false, cond, not, ◌&&◌, eqb, ltb, leb, ◌⊎◌, sym, refl, ap, subst, inl, inr, arith}
use Rattle.std.proofs.lemmas.Bool.{cond_both, and_parts, eqb-true, leb-true, leb-false, ltb-false, or_parts}
use Rattle.borrowing.specs.declared.hold.Part.{Part}
use Rattle.borrowing.specs.declared.on_file.OnFile.{OnFile}
use Rattle.borrowing.specs.Parts.{last_number, rounded, raised, passes, same_part, released, stale, settled}
use Rattle.borrowing.specs.Rules.{is_due}

-- what is on file after a step
abbrev pub on_file : (was : Part) → OnFile → (is : Part) → OnFile
on_file p f p' = cond (is_due p f p') (raised f p') f

-- the part's numbers are on file, but for an ask number that is one above and was not used yet, as after coming up
pub record Near (f : OnFile) (p : Part) : Type 0 where
  pub ask_rounded : rounded f.ask ≡ f.ask
  pub write_rounded : rounded f.write ≡ f.write
  pub ask : p.ask ≤ f.ask + 1
  pub ask_last : p.ask ≤ last_number
  pub write : p.write ≤ f.write

pub up : (x : ℕ) → x ≤ 4294967295 → x ≤ rounded x
up x h = omega arith

again : (x : ℕ) → x ≤ 4294967295 → rounded (rounded x) ≡ rounded x
again x h = omega arith

-- both numbers of the part are on file
abbrev pub Covers : OnFile → Part → Type 0
Covers f p = (p.ask ≤ f.ask) × (p.write ≤ f.write)

abbrev pub Small : Part → Type 0
Small p = (p.ask ≤ 4294967295) × (p.write ≤ 4294967295)

abbrev Rounded : OnFile → Type 0
Rounded f = (rounded f.ask ≡ f.ask) × (rounded f.write ≡ f.write)

raise_up : (n m : ℕ) → n ≤ 4294967295 → n ≤ cond (leb n m) m (rounded n)
raise_up n m h = cond_both (leb n m) m (rounded n) (λ x. n ≤ x) (λ e. leb-true n m e) (λ e. up n h)

raised_rounded : (n m : ℕ) → n ≤ 4294967295 → rounded m ≡ m → rounded (cond (leb n m) m (rounded n)) ≡ cond (leb n m) m (rounded n)
raised_rounded n m h r = cond_both (leb n m) m (rounded n) (λ x. rounded x ≡ x) (λ e. r) (λ e. again n h)

kept_covers : (f : OnFile) (p : Part) → Small p → Covers (raised f p) p
kept_covers f p h = (raise_up p.ask f.ask h.0, raise_up p.write f.write h.1)

kept_rounded : (f : OnFile) (p : Part) → Small p → Rounded f → Rounded (raised f p)
kept_rounded f p h r = (raised_rounded p.ask f.ask h.0 r.0, raised_rounded p.write f.write h.1 r.1)

not_passed : (f : OnFile) (p : Part) → passes f p ≡ false → Covers f p
not_passed f p e =
    let b = or_parts (ltb f.ask p.ask) (ltb f.write p.write) e in
    (ltb-false f.ask p.ask b.0, ltb-false f.write p.write b.1)

-- a step that changed the part
changed : (p p' : Part) (f : OnFile) → Small p' → Rounded f → same_part p p' ≡ false → Covers (on_file p f p') p' × Rounded (on_file p f p')
changed p p' f h r e =
    let d : is_due p f p' ≡ passes f p' = ap (λ (b : Bool). not b && passes f p') e in
    subst (λ (b : Bool). Covers (cond b (raised f p') f) p' × Rounded (cond b (raised f p') f)) (sym d)
    (cond_both (passes f p') (raised f p') f (λ (g : OnFile). Covers g p' × Rounded g)
    (λ t. (kept_covers f p' h, kept_rounded f p' h r)) (λ t. (not_passed f p' t, r)))

same_numbers : (p p' : Part) → same_part p p' ≡ true → (p.ask ≡ p'.ask) × (p.write ≡ p'.write)
same_numbers p p' e =
    let a = and_parts (eqb p.ask p'.ask) _ e in
    let b = and_parts (eqb p.write p'.write) _ a.1 in
    (eqb-true p.ask p'.ask a.0, eqb-true p.write p'.write b.0)

unchanged : (p p' : Part) (f : OnFile) → same_part p p' ≡ true → on_file p f p' ≡ f
unchanged p p' f e = ap (λ (b : Bool). cond (not b && passes f p') (raised f p') f) e

-- what any step leaves: near again; and on file, where a number went up
abbrev pub After : Part → OnFile → Part → OnFile → Type 0
After p f p' g = Near g p' × ((p.ask < p'.ask) ⊎ (p.write < p'.write) → Covers g p')

pub after : (p p' : Part) (f : OnFile) → Near f p → Small p' → After p f p' (on_file p f p')
after p p' f n h = go (same_part p p') refl
  where
    go : (b : Bool) → same_part p p' ≡ b → After p f p' (on_file p f p')
    go true e =
        let s = same_numbers p p' e in
        subst (After p f p') (sym (unchanged p p' f e)) (
          record { ask_rounded = n.ask_rounded; write_rounded = n.write_rounded; ask = omega (arith, n.ask, s.0); ask_last = h.0; write = omega (arith, n.write, s.1) },
          (λ r. absurd (elim r [ inl a ↦ omega (arith, s.0) | inr a ↦ omega (arith, s.1) ])),
        )
    go false e =
        let c = changed p p' f h (n.ask_rounded, n.write_rounded) e in (
          record { ask_rounded = c.1.0; write_rounded = c.1.1; ask = omega (arith, c.0.0); ask_last = h.0; write = c.0.1 },
          (λ r. c.0),
        )

-- what is on file never goes down
number_up : (n m : ℕ) → n ≤ 4294967295 → m ≤ cond (leb n m) m (rounded n)
number_up n m h = cond_both (leb n m) m (rounded n) (λ x. m ≤ x) (λ e. omega arith) (λ e. omega (arith, up n h, leb-false n m e))

pub filed_up : (p p' : Part) (f : OnFile) → Small p' → (f.ask ≤ (on_file p f p').ask) × (f.write ≤ (on_file p f p').write)
filed_up p p' f h =
    cond_both (is_due p f p') (raised f p') f (λ (g : OnFile). (f.ask ≤ g.ask) × (f.write ≤ g.write))
    (λ e. (number_up p'.ask f.ask h.0, number_up p'.write f.write h.1)) (λ e. omega arith)

-- what settling leaves
abbrev pub Settled : Part → Part → Type 0
Settled p p1 = (p.ask ≤ p1.ask) × (p1.ask ≤ 4294967295) × (p1.write ≡ p.write)

pub settling : (c s : ℕ) (p : Part) → p.ask ≤ 4294967295 → Settled p (settled c s p)
settling c s p h = cond_both (stale c s p.hold) (released p) p (Settled p) (λ e. (omega arith, omega arith, refl)) (λ e. (omega arith, h, refl))

pub small_write : (f : OnFile) (p : Part) → Near f p → p.write ≤ 4294967295
small_write f p n = omega (arith, n.write, n.write_rounded)

pub released_small : (p : Part) → p.write ≤ 4294967295 → Small (released p)
released_small p h = (omega arith, h)

-- where a release leaves all as it was, the largest number is on file
at_last : (p : Part) (f : OnFile) → Near f p → same_part p (released p) ≡ true → p.ask ≤ f.ask
at_last p f n e = omega (arith, (same_numbers p (released p) e).0, n.ask, n.ask_last, n.ask_rounded)

pub recall_covered : (p : Part) (f : OnFile) → Near f p → Near (on_file p f (released p)) (released p) × (p.ask ≤ (on_file p f (released p)).ask)
recall_covered p f n = ((after p (released p) f n (released_small p (small_write f p n))).0, go (same_part p (released p)) refl)
  where
    go : (b : Bool) → same_part p (released p) ≡ b → p.ask ≤ (on_file p f (released p)).ask
    go true e = subst (λ (g : OnFile). p.ask ≤ g.ask) (sym (unchanged p (released p) f e)) (at_last p f n e)
    go false e =
        let c = changed p (released p) f (released_small p (small_write f p n)) (n.ask_rounded, n.write_rounded) e in
        omega (arith, c.0.0, n.ask_last)
