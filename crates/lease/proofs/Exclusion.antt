-- A lease that nothing stands in the way of keeps the leases exclusive, and so does dropping some.
-- Assumes nothing.
use Rattle.std.proofs.Common.{◌≡◌, ℕ, ◌≤◌, Bool, true, false, cond, not, ◌&&◌, ◌||◌, eqb, List, [], ◌∷◌, ◌++◌, filter, refl, ap, ◌∙◌, arith}
use Rattle.std.proofs.lemmas.Bool.{or_parts, or_from, lt-ltb, ltb-true}
use Rattle.std.proofs.lemmas.Bool.Decides.{nat_tests}
use Rattle.lease.specs.declared.lease.Lease.{Lease}
use Rattle.lease.specs.Leases.{running, barring, staying}
use Rattle.std.specs.List.{list_any}
use Rattle.message.specs.Kinds.{writes}
use Rattle.lease.specs.Exclusion.{clash, Exclusive, NeverClash}

eqb_comm : (a b : ℕ) → eqb a b ≡ eqb b a
eqb_comm a b = grind (arith, nat_tests)

turned : (r s p w u v : Bool) → (r && (p && (w && (u || v)))) ≡ false → (r && (s && (p && (w && (v || u))))) ≡ false
turned false s p w u v h = refl
turned true false p w u v h = refl
turned true true false w u v h = refl
turned true true true false u v h = refl
turned true true true true true true h = h
turned true true true true true false h = h
turned true true true true false true h = h
turned true true true true false false h = refl

clash_turned : (clock : ℕ) (a x : Lease) → barring clock x.who x.place x.kind a ≡ false → clash clock a x ≡ false
clash_turned clock a x h =
    turned (running clock a) (running clock x) (eqb x.place a.place) (not (eqb x.who a.who)) (writes x.kind) (writes a.kind)
    (ap (λ p. running clock a && (p && (not (eqb x.who a.who) && (writes x.kind || writes a.kind)))) (eqb_comm x.place a.place)
    ∙ ap (λ w. running clock a && (eqb a.place x.place && (not w && (writes x.kind || writes a.kind)))) (eqb_comm x.who a.who)
    ∙ h)

any_push : {X : Type 0} (p : X → Bool) (xs : List X) (x : X) → list_any p xs ≡ false → p x ≡ false → list_any p (xs ++ x ∷ []) ≡ false
any_push p [] x h k = or_from (p x) false k refl
any_push p (y ∷ xs) x h k = let b = or_parts (p y) (list_any p xs) h in or_from (p y) (list_any p (xs ++ x ∷ [])) b.0 (any_push p xs x b.1 k)

any_kept : {X : Type 0} (p t : X → Bool) (xs : List X) → list_any p xs ≡ false → list_any p (filter t xs) ≡ false
any_kept p t [] h = refl
any_kept p t (y ∷ xs) h =
    let b = or_parts (p y) (list_any p xs) h in
    let r = any_kept p t xs b.1 in
    elim (t y) as (λ v. list_any p (cond v (y ∷ filter t xs) (filter t xs)) ≡ false) [ true ↦ or_from (p y) (list_any p (filter t xs)) b.0 r | false ↦ r ]

pub exclusive_kept : (clock : ℕ) (t : Lease → Bool) (ls : List Lease) → Exclusive clock ls → Exclusive clock (filter t ls)
exclusive_kept clock t [] h = tt
exclusive_kept clock t (a ∷ ls) h =
    let r = exclusive_kept clock t ls h.1 in
    elim (t a) as (λ v. Exclusive clock (cond v (a ∷ filter t ls) (filter t ls))) [ true ↦ (any_kept (clash clock a) t ls h.0, r) | false ↦ r ]

pub exclusive_push : (clock : ℕ) (ls : List Lease) (x : Lease) → Exclusive clock ls → list_any (barring clock x.who x.place x.kind) ls ≡ false
    → Exclusive clock (ls ++ x ∷ [])
exclusive_push clock [] x h k = (refl, tt)
exclusive_push clock (a ∷ ls) x h k =
    let b = or_parts (barring clock x.who x.place x.kind a) (list_any (barring clock x.who x.place x.kind) ls) k in
    (any_push (clash clock a) ls x h.0 (clash_turned clock a x b.0), exclusive_push clock ls x h.1 b.1)

-- as a table lends
pub exclusive_lent : (clock : ℕ) (t : Lease → Bool) (ls : List Lease) (x : Lease) → Exclusive clock ls → list_any (barring clock x.who x.place x.kind) ls ≡ false
    → Exclusive clock (filter t ls ++ x ∷ [])
exclusive_lent clock t ls x h k = exclusive_push clock (filter t ls) x (exclusive_kept clock t ls h) (any_kept (barring clock x.who x.place x.kind) t ls k)

-- as time passes fewer leases run
later : (r r' s s' x : Bool) → (r' ≡ true → r ≡ true) → (s' ≡ true → s ≡ true) → (r && (s && x)) ≡ false → (r' && (s' && x)) ≡ false
later r false s s' x f g h = refl
later r true s false x f g h = refl
later r true s true x f g h = rw (f refl, g refl) at h

still : (c c' : ℕ) (l : Lease) → c ≤ c' → running c' l ≡ true → running c l ≡ true
still c c' l h e = lt-ltb c l.until (omega (arith, ltb-true c' l.until e))

any_fewer : {X : Type 0} (p p' : X → Bool) → ((x : X) → p x ≡ false → p' x ≡ false) → (xs : List X) → list_any p xs ≡ false → list_any p' xs ≡ false
any_fewer p p' f [] h = refl
any_fewer p p' f (x ∷ xs) h = let b = or_parts (p x) (list_any p xs) h in or_from (p' x) (list_any p' xs) (f x b.0) (any_fewer p p' f xs b.1)

pub exclusive_later : (c c' : ℕ) (ls : List Lease) → c ≤ c' → Exclusive c ls → Exclusive c' ls
exclusive_later c c' [] le h = tt
exclusive_later c c' (a ∷ ls) le h = (
  any_fewer (clash c a) (clash c' a)
      (λ b e. later (running c a) (running c' a) (running c b) (running c' b) _ (still c c' a le) (still c c' b le) e) ls h.0,
  exclusive_later c c' ls le h.1,
)

pub never_clash : NeverClash
never_clash =
    record {
      later = exclusive_later;
      granted = λ c ls x k h. exclusive_lent c (running c) ls x h k;
      ended = λ c w q n ls h. exclusive_kept c (staying w q n) ls h;
    }
