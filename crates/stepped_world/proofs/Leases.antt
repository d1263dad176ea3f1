-- Lists of leases, and tables by part and borrower.
use Rattle.std.proofs.Common.{◌≡◌, ℕ, ◌<◌, Bool, true, false, cond, ◌&&◌, ◌||◌, eqb, ◌⊎◌, List, [], ◌∷◌, filter, sym, refl, ap, ◌∙◌, subst, inl, inr, true≢false}
use mathlib.Core.List.{Memᴰ}
use Rattle.std.proofs.lemmas.Bool.{cond_both, eqb-true, ltb-true, eq-eqb, ne_eqb, lt-ltb, or_parts, or_cases, and_parts, both_ways}
use Rattle.message.specs.declared.kind.Kind.{Kind}
use Rattle.message.specs.declared.kind.Kind.TheVariants.{Reading, Writing}
use Rattle.message.specs.Kinds.{writes}
use Rattle.lease.specs.declared.lease.Lease.{Lease}
use Rattle.lease.specs.Leases.{running, barring, allowing}
use Rattle.std.specs.List.{list_any}
use Rattle.keeping.specs.Rules.{at_2}

both_reading : (k l : Kind) → (writes k || writes l) ≡ false → (k ≡ Reading) × (l ≡ Reading)
both_reading Reading Reading e = (refl, refl)
both_reading Reading Writing e = absurd (true≢false e)
both_reading Writing l e = absurd (true≢false e)

pub is_writing : (k : Kind) → writes k ≡ true → k ≡ Reading → ⊥
is_writing k e h = both_ways (writes k) (ap writes h) e

free_one : (c i q : ℕ) (k : Kind) (l : Lease) → barring c i q k l ≡ false → l.place ≡ q → (l.who ≡ i → ⊥) → c < l.until → (k ≡ Reading) × (l.kind ≡ Reading)
free_one c i q k l h p w u = both_reading k l.kind (simp (eq-eqb l.place q p, ne_eqb l.who i w, lt-ltb c l.until u) at h)

any_none : {X : Type 0} (p : X → Bool) (xs : List X) → list_any p xs ≡ false → (x : X) → Memᴰ x xs → p x ≡ false
any_none p [] h x m = elim m [ ]
any_none p (y ∷ xs) h x (Memᴰ.head e) = ap p e ∙ (or_parts (p y) (list_any p xs) h).0
any_none p (y ∷ xs) h x (Memᴰ.tail m) = any_none p xs (or_parts (p y) (list_any p xs) h).1 x m

pub any_one : {X : Type 0} (p : X → Bool) (xs : List X) → list_any p xs ≡ true → (x : X) × Memᴰ x xs × (p x ≡ true)
any_one p [] h = absurd (true≢false (sym h))
any_one p (y ∷ xs) h = go (or_cases (p y) (list_any p xs) h) (λ e. any_one p xs e)
  where
    go : (p y ≡ true) ⊎ (list_any p xs ≡ true) → (list_any p xs ≡ true → (x : _) × Memᴰ x xs × (p x ≡ true)) → (x : _) × Memᴰ x (y ∷ xs) × (p x ≡ true)
    go (inl e) f = (y, Memᴰ.head refl, e)
    go (inr e) f = let r = f e in (r.0, Memᴰ.tail r.1, r.2)

pub kept_in : {X : Type 0} (p : X → Bool) (xs : List X) (x : X) → Memᴰ x xs → p x ≡ true → Memᴰ x (filter p xs)
kept_in p [] x m e = elim m [ ]
kept_in p (y ∷ xs) x (Memᴰ.head h) e = go (p y) (sym (ap p h) ∙ e)
  where
    go : (b : Bool) → b ≡ true → Memᴰ x (cond b (y ∷ filter p xs) (filter p xs))
    go true z = Memᴰ.head h
    go false z = absurd (true≢false (sym z))
kept_in p (y ∷ xs) x (Memᴰ.tail m) e = cond_both (p y) (y ∷ filter p xs) (filter p xs) (Memᴰ x) (λ z. Memᴰ.tail (kept_in p xs x m e)) (λ z. kept_in p xs x m e)

pub kept_was : {X : Type 0} (p : X → Bool) (xs : List X) (x : X) → Memᴰ x (filter p xs) → Memᴰ x xs
kept_was p [] x m = m
kept_was p (y ∷ xs) x m = go (p y) m (λ z. kept_was p xs x z)
  where
    go : (b : Bool) → Memᴰ x (cond b (y ∷ filter p xs) (filter p xs)) → (Memᴰ x (filter p xs) → Memᴰ x xs) → Memᴰ x (y ∷ xs)
    go true (Memᴰ.head e) f = Memᴰ.head e
    go true (Memᴰ.tail z) f = Memᴰ.tail (f z)
    go false z f = Memᴰ.tail (f z)

-- where nothing bars, another's lease of the part that runs is for reading, and so is this
pub free : (c i q : ℕ) (k : Kind) (ls : List Lease) → list_any (barring c i q k) ls ≡ false → (l : Lease) → Memᴰ l ls → l.place ≡ q → (l.who ≡ i → ⊥) → c < l.until → (k ≡ Reading) × (l.kind ≡ Reading)
free c i q k ls h l m = free_one c i q k l (any_none (barring c i q k) ls h l m)

-- a lease that lets i write
pub record Lets (c i q : ℕ) (ls : List Lease) : Type 0 where
  pub it : Lease
  pub mem : Memᴰ it ls
  pub place : it.place ≡ q
  pub who : it.who ≡ i
  pub runs : c < it.until
  pub writes : writes it.kind ≡ true

pub may : (c i q : ℕ) (ls : List Lease) → list_any (allowing c i q) ls ≡ true → Lets c i q ls
may c i q ls h =
    let r = any_one (allowing c i q) ls h in
    let l : Lease = r.0 in
    let a = and_parts (running c l) (eqb l.place q && (eqb l.who i && writes l.kind)) r.2 in
    let b = and_parts (eqb l.place q) (eqb l.who i && writes l.kind) a.1 in
    let d = and_parts (eqb l.who i) (writes l.kind) b.1 in
    record { it = l; mem = r.1; place = eqb-true l.place q b.0; who = eqb-true l.who i d.0; runs = ltb-true c l.until a.0; writes = d.1 }

pub at_two : (q i n : ℕ) (f : ℕ → ℕ → ℕ) (P : ℕ → ℕ → ℕ → Type 0) → P q i n → ((r j : ℕ) → P r j (f r j)) → (r j : ℕ) → P r j (at_2 q i n f r j)
at_two q i n f P here there r j =
    cond_both (eqb r q && eqb j i) n (f r j) (P r j)
    (λ e. let b = and_parts (eqb r q) (eqb j i) e in subst (λ (x : ℕ). P x j n) (sym (eqb-true r q b.0)) (subst (λ (x : ℕ). P q x n) (sym (eqb-true j i b.1)) here))
    (λ e. there r j)

pub at_here : (q i n : ℕ) (f : ℕ → ℕ → ℕ) → at_2 q i n f q i ≡ n
at_here q i n f = simp (eq-eqb q q refl, eq-eqb i i refl)
