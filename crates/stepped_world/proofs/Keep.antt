-- What the keeper does keeps what holds.
use Rattle.std.proofs.Common.{◌≡◌, ℕ, suc, ◌+◌, ◌<◌, ◌≤◌, max, Bool, true, false, cond, not, ◌||◌, eqb, ltb, ◌⊎◌, List, [], ◌∷◌, ◌++◌, filter, sym, refl, ap, ◌∙◌, subst, inl, inr, true≢false, arith}
use mathlib.Core.List.Memᴰ
use mathlib.Core.List.{Memᴰ}
use Rattle.std.proofs.lemmas.Bool.{eqb-true, ltb-false, lt-ltb, or_parts, cases_Bool, cases_eq}
use Rattle.part.specs.Parts.{at_1}
use Rattle.clock.specs.Moments.{Moment}
use Rattle.message.specs.declared.kind.Kind.{Kind}
use Rattle.message.specs.declared.kind.Kind.TheVariants.{Reading}
use Rattle.message.specs.Format.{Msg, Ask, Loan, Write, In, Void, Recall, Back}
use Rattle.lease.specs.declared.lease.Lease.{Lease}
use Rattle.lease.specs.Leases.{running, barring, staying}
use Rattle.std.specs.List.{list_any}
use Rattle.keeping.specs.Rules.{at_2, recalls}
use Rattle.borrowing.specs.declared.hold.Part.{Part}
use Rattle.stepped_world.specs.Runs.{Put}
use Rattle.stepped_world.specs.Promise.{latest, NotIn, Once}
use Rattle.stepped_world.proofs.Inv.{Setting, Office, State, who, place, NoLoan, Wrote, Clocked, Live, Claim, Backed, lease, Fine, Inv, moved_refl, Newer, Each, each_at}
use Rattle.stepped_world.proofs.Borrow.{moves, held_more, WriteOf, at_both}
use Rattle.stepped_world.proofs.Leases.{is_writing, kept_in, kept_was, free, Lets, at_two, at_here}

not_false : (b : Bool) → not b ≡ false → b ≡ true
not_false true e = refl
not_false false e = absurd (true≢false e)

-- the same but for the keeper, what was sent and what is applied
abbrev pub keeping : State → Office → List Msg → List Put → State
keeping w L sent H = record { now = w.now; past = w.past; keeper = L; part = w.part; disk = w.disk; copy = w.copy; sent = sent; applied = H }

-- what is known of a new message of the keeper that is no loan
abbrev pub Quiet : Setting → State → Msg → Type 0
Quiet S w m = NoLoan m × Fine S w.now w.past w.keeper w.applied (w.part (who m) (place m)) (w.disk (who m) (place m)) m × Newer (w.part (who m) (place m)) m × (WriteOf m → ⊥)

module _ (S : Setting) (w : State) (inv : Inv S w) where
  -- what was sent still fits another table, if the claims do
  refine : (L : Office) (H : List Put) →
      ((i q m : ℕ) (k : Kind) (v : List ℕ) → Memᴰ (Loan i q m k v) w.sent → Live S w.now i (w.part i q) m → Claim S w.now w.past w.keeper i q m k v (w.part i q) → Claim S w.now w.past L i q m k v (w.part i q)) →
      ((p : Put) → Memᴰ p w.applied → Memᴰ p H) →
      ((i q n : ℕ) → (n ≤ max (w.keeper.done q i) (w.keeper.void q i)) × NotIn w.applied i q n → (n ≤ max (L.done q i) (L.void q i)) × NotIn H i q n) →
      (m : Msg) → Memᴰ m w.sent → Fine S w.now w.past L H (w.part (who m) (place m)) (w.disk (who m) (place m)) m
  refine L H claims grows voids (Ask i q m k n) h = inv.mail (Ask i q m k n) h
  refine L H claims grows voids (Loan i q m k v) h = ((inv.mail (Loan i q m k v) h).0, λ live. claims i q m k v h live ((inv.mail (Loan i q m k v) h).1 live))
  refine L H claims grows voids (Write i q n v) h = inv.mail (Write i q n v) h
  refine L H claims grows voids (In i q n) h = let x = inv.mail (In i q n) h in (x.0, grows _ x.1)
  refine L H claims grows voids (Void i q n) h = voids i q n (inv.mail (Void i q n) h)
  refine L H claims grows voids (Recall i q) h = tt
  refine L H claims grows voids (Back i q m) h = inv.mail (Back i q m) h

  -- nothing changes at the keeper
  pub quietly : (ms : List Msg) → Each (Quiet S w) ms → Inv S (keeping w w.keeper (w.sent ++ ms) w.applied)
  quietly ms h =
      moves S w inv w.part w.disk w.copy ms (λ j r. moved_refl (w.part j r) (w.disk j r)) inv.near (λ m x. let y = each_at _ ms h m x in (y.0, y.1)) (λ m x. (each_at _ ms h m x).2)
      (λ a b s t z. absurd ((each_at _ ms h a s).3 z)) (λ j r. held_more w.sent ms j r (w.part j r) (w.copy j r) (inv.held j r))

  pub only_recalls : (q j : ℕ) (bs : List Bool) → Each (Quiet S w) (recalls q j bs)
  only_recalls q j [] = tt
  only_recalls q j (true ∷ bs) = ((tt, tt, tt, λ x. x), only_recalls q (suc j) bs)
  only_recalls q j (false ∷ bs) = only_recalls q (suc j) bs

  -- only the leases and the grace period change, or the keeper stops
  pub leases_inv : (ls : List Lease) (quiet : ℕ) (u : Bool) → ((l : Lease) → Memᴰ l ls → Memᴰ l w.keeper.leases) →
      ((j r l : ℕ) (h : Kind) (v : List ℕ) → Memᴰ (Loan j r l h v) w.sent → Live S w.now j (w.part j r) l → (c : Claim S w.now w.past w.keeper j r l h v (w.part j r)) →
      Backed S (record { value = w.keeper.value; done = w.keeper.done; void = w.keeper.void; leases = ls; quiet = quiet; up = u }) j r l h c.time) →
      Inv S (keeping w (record { value = w.keeper.value; done = w.keeper.done; void = w.keeper.void; leases = ls; quiet = quiet; up = u }) w.sent w.applied)
  leases_inv ls quiet u sub back =
      record {
        mail = refine (record { value = w.keeper.value; done = w.keeper.done; void = w.keeper.void; leases = ls; quiet = quiet; up = u }) w.applied (λ j r l h v mem live c. record { time = c.time; before = c.before; is = c.is; backed = back j r l h v mem live c; wrote = c.wrote; value = c.value }) (λ p z. z) (λ i q n z. z);
        held = inv.held;
        apart = inv.apart;
        excl = λ x y s t. inv.excl x y (sub x s) (sub y t);
        newest = inv.newest;
        done_in = inv.done_in;
        puts = inv.puts;
        once = inv.once;
        known = inv.known;
        near = inv.near;
        one_bytes = inv.one_bytes;
      }

  pub stop_inv : Inv S (keeping w (record { value = w.keeper.value; done = w.keeper.done; void = w.keeper.void; leases = []; quiet = 0; up = false }) w.sent w.applied)
  stop_inv = leases_inv [] 0 false (λ l h. elim h [ ]) (λ j r l h v mem live c. inr (inr refl))

  pub rise_inv : (C : Clocked S w.now w.past) → Inv S (keeping w (record { value = w.keeper.value; done = w.keeper.done; void = w.keeper.void; leases = []; quiet = w.now.hand 0 + S.long; up = true }) w.sent w.applied)
  rise_inv C = leases_inv [] (w.now.hand 0 + S.long) true (λ l h. elim h [ ]) (λ j r l h v mem live c. inr (inl (omega (arith, C.onward c.time c.before))))

  pub ends_inv : (i q m : ℕ) → Memᴰ (Back i q m) w.sent →
      Inv S (keeping w (record { value = w.keeper.value; done = w.keeper.done; void = w.keeper.void; leases = filter (staying i q m) w.keeper.leases; quiet = w.keeper.quiet; up = w.keeper.up }) w.sent w.applied)
  ends_inv i q m mem = leases_inv (filter (staying i q m) w.keeper.leases) w.keeper.quiet w.keeper.up (kept_was (staying i q m) w.keeper.leases) (λ j r l h v loan live c. back j r l h v loan live c.time c.backed)
    where
      back : (j r l : ℕ) (h : Kind) (v : List ℕ) → Memᴰ (Loan j r l h v) w.sent → Live S w.now j (w.part j r) l → (t : Moment) → Backed S w.keeper j r l h t →
          Backed S (record { value = w.keeper.value; done = w.keeper.done; void = w.keeper.void; leases = filter (staying i q m) w.keeper.leases; quiet = w.keeper.quiet; up = w.keeper.up }) j r l h t
      back j r l h v loan live t (inr e) = inr e
      back j r l h v loan live t (inl (u, b, e)) = inl (u, kept_in (staying i q m) w.keeper.leases (lease j r h l u) b (go (cases_Bool (staying i q m (lease j r h l u)))), e)
        where
          go : (staying i q m (lease j r h l u) ≡ true) ⊎ (staying i q m (lease j r h l u) ≡ false) → staying i q m (lease j r h l u) ≡ true
          go (inl z) = z
          go (inr z) =
              let a = or_parts (not (eqb j i)) (not (eqb r q) || ltb m l) z in
              let c = or_parts (not (eqb r q)) (ltb m l) a.1 in
              let j≡i : j ≡ i = eqb-true j i (not_false (eqb j i) a.0) in
              let r≡q : r ≡ q = eqb-true r q (not_false (eqb r q) c.0) in
              let same : (w.part j r).ask ≡ (w.part i q).ask = cc in
              absurd (omega (arith, ltb-false m l c.1, live.last, (inv.mail (Loan j r l h v) loan).0.small, (inv.mail (Back i q m) mem).asked))

  module _ (C : Clocked S w.now w.past) (awake : w.keeper.up ≡ true) (loud : w.keeper.quiet ≤ w.now.hand 0) where
    -- a claim that would be valid runs by the keeper's clock
    runs : (i q m : ℕ) (k : Kind) (v : List ℕ) (p : Part) (L : Office) (c : Claim S w.now w.past L i q m k v p) → Live S w.now i p m → w.now.hand 0 < c.time.hand 0 + S.long
    runs i q m k v p L c live = C.covers c.time c.before i (subst (λ (x : ℕ). w.now.hand (suc i) < x + S.short) c.is live.valid)

    -- so its lease stands in the table, since the keeper is up and its grace period is over
    stands : (i q m : ℕ) (k : Kind) (v : List ℕ) (p : Part) (c : Claim S w.now w.past w.keeper i q m k v p) → Live S w.now i p m →
        (u : ℕ) × Memᴰ (lease i q k m u) w.keeper.leases × (c.time.hand 0 + S.long ≤ u) × (w.now.hand 0 < u)
    stands i q m k v p c live = go c.backed
      where
        go : Backed S w.keeper i q m k c.time → (u : ℕ) × Memᴰ (lease i q k m u) w.keeper.leases × (c.time.hand 0 + S.long ≤ u) × (w.now.hand 0 < u)
        go (inl (u, b, e)) = (u, b, e, omega (arith, e, runs i q m k v p w.keeper c live))
        go (inr (inl e)) = absurd (omega (arith, e, loud, runs i q m k v p w.keeper c live))
        go (inr (inr e)) = absurd (true≢false (sym awake ∙ e))

    -- A GRANT: vd is the table of void numbers afterwards
    module _ (i q m : ℕ) (k : Kind) (n : ℕ) (asked : Memᴰ (Ask i q m k n) w.sent) (open' : list_any (barring (w.now.hand 0) i q k) w.keeper.leases ≡ false)
        (vd : ℕ → ℕ → ℕ) (void_up : (r j : ℕ) → w.keeper.void r j ≤ vd r j) (void_here : n ≤ max (w.keeper.done q i) (vd q i)) (void_known : (j r : ℕ) → Wrote (w.part j r) (w.disk j r) (vd r j)) where
      abbrev lent : Office
      lent = record { value = w.keeper.value; done = w.keeper.done; void = vd; leases = filter (running (w.now.hand 0)) w.keeper.leases ++ lease i q k m (w.now.hand 0 + S.long) ∷ []; quiet = w.keeper.quiet; up = w.keeper.up }

      abbrev ran : List Lease
      ran = filter (running (w.now.hand 0)) w.keeper.leases

      abbrev one : List Lease
      one = lease i q k m (w.now.hand 0 + S.long) ∷ []

      abbrev msg : Msg
      msg = Loan i q m k (w.keeper.value q)

      claims : (j r l : ℕ) (h : Kind) (v : List ℕ) → Memᴰ (Loan j r l h v) w.sent → Live S w.now j (w.part j r) l → Claim S w.now w.past w.keeper j r l h v (w.part j r) → Claim S w.now w.past lent j r l h v (w.part j r)
      claims j r l h v mem live c =
          record { time = c.time; before = c.before; is = c.is; backed = go; wrote = omega (arith, c.wrote, void_up r j); value = c.value }
        where
          go : Backed S lent j r l h c.time
          go = let s = stands j r l h v (w.part j r) c live in inl (s.0, Memᴰ.append_left (lease i q k m (w.now.hand 0 + S.long) ∷ []) (kept_in (running (w.now.hand 0)) w.keeper.leases _ s.1 (lt-ltb (w.now.hand 0) s.0 s.3)), s.2)

      -- a loan to another that would be valid stands in the table, so both are for reading
      beside : (j r l : ℕ) (h : Kind) (v : List ℕ) → r ≡ q → (j ≡ i → ⊥) → Memᴰ (Loan j r l h v) w.sent → Live S w.now j (w.part j r) l → (k ≡ Reading) × (h ≡ Reading)
      beside j r l h v here ne mem live =
          let s = stands j r l h v (w.part j r) ((inv.mail (Loan j r l h v) mem).1 live) live in
          free (w.now.hand 0) i q k w.keeper.leases open' (lease j r h l s.0) s.1 here ne s.3

      fine_new : Fine S w.now w.past lent w.applied (w.part i q) (w.disk i q) msg
      fine_new =
          let a = inv.mail (Ask i q m k n) asked in (
            a.0,
            λ live. let x = a.1 live.last in
                record { time = x.time; before = x.before; is = x.is; backed = inl (w.now.hand 0 + S.long, Memᴰ.append_right (filter (running (w.now.hand 0)) w.keeper.leases) (Memᴰ.head refl), omega (arith, C.onward x.time x.before)); wrote = omega (arith, x.wrote, void_here); value = refl },
          )

      pub lend_inv : Inv S (keeping w lent (w.sent ++ msg ∷ []) w.applied)
      lend_inv =
          record {
            mail = λ x h. mail x (Memᴰ.append_cases w.sent h);
            held = λ j r. held_more w.sent (msg ∷ []) j r (w.part j r) (w.copy j r) (inv.held j r);
            apart = λ a b r x y g h u v ne s t. apart a b r x y g h u v ne (Memᴰ.append_cases w.sent s) (Memᴰ.append_cases w.sent t);
            excl = excl;
            newest = inv.newest;
            done_in = inv.done_in;
            puts = λ p h. ((inv.puts p h).0, Memᴰ.append_left (msg ∷ []) (inv.puts p h).1);
            once = inv.once;
            known = λ j r. ((inv.known j r).0, void_known j r);
            near = inv.near;
            one_bytes = λ j r x u v s t. inv.one_bytes j r x u v (old j r x u (Memᴰ.append_cases w.sent s)) (old j r x v (Memᴰ.append_cases w.sent t));
          }
        where
          old : (a r x : ℕ) (u : List ℕ) → Memᴰ (Write a r x u) w.sent ⊎ Memᴰ (Write a r x u) (msg ∷ []) → Memᴰ (Write a r x u) w.sent
          old a r x u (inl h) = h
          old a r x u (inr h) = absurd (subst WriteOf (Memᴰ.eq_of_singleton h) tt)

          mail : (x : Msg) → Memᴰ x w.sent ⊎ Memᴰ x (msg ∷ []) → Fine S w.now w.past lent w.applied (w.part (who x) (place x)) (w.disk (who x) (place x)) x
          mail x (inl h) = refine lent w.applied claims (λ p z. z) (λ a b c z. (omega (arith, z.0, void_up b a), z.1)) x h
          mail x (inr h) = subst (λ (y : Msg). Fine S w.now w.past lent w.applied (w.part (who y) (place y)) (w.disk (who y) (place y)) y) (sym (Memᴰ.eq_of_singleton h)) fine_new

          apart : (a b r x y : ℕ) (g h : Kind) (u v : List ℕ) → (a ≡ b → ⊥) → Memᴰ (Loan a r x g u) w.sent ⊎ Memᴰ (Loan a r x g u) (msg ∷ []) → Memᴰ (Loan b r y h v) w.sent ⊎ Memᴰ (Loan b r y h v) (msg ∷ []) →
              Live S w.now a (w.part a r) x → Live S w.now b (w.part b r) y → g ≡ Reading
          apart a b r x y g h u v ne (inl s) (inl t) f e = inv.apart a b r x y g h u v ne s t f e
          apart a b r x y g h u v ne (inl s) (inr t) f e = let o = Memᴰ.eq_of_singleton t in (beside a r x g u (cc) (λ z. ne (cc)) s f).1
          apart a b r x y g h u v ne (inr s) (inl t) f e = let o = Memᴰ.eq_of_singleton s in let z = (beside b r y h v (cc) (λ z. ne (cc)) t e).0 in cc
          apart a b r x y g h u v ne (inr s) (inr t) f e = let p = Memᴰ.eq_of_singleton s in let o = Memᴰ.eq_of_singleton t in absurd (ne (cc))

          excl' : (a b : Lease) → Memᴰ a ran ⊎ Memᴰ a one → Memᴰ b ran ⊎ Memᴰ b one → a.place ≡ b.place → (a.who ≡ b.who → ⊥) → w.now.hand 0 < a.until → w.now.hand 0 < b.until → a.kind ≡ Reading
          excl' a b (inr s) (inr t) pl ne x y = let f = Memᴰ.eq_of_singleton s in let g = Memᴰ.eq_of_singleton t in absurd (ne (ap (λ (l : Lease). l.who) (f ∙ sym g)))
          excl' a b (inr s) (inl t) pl ne x y =
              let f = Memᴰ.eq_of_singleton s in
              let z = (free (w.now.hand 0) i q k w.keeper.leases open' b (kept_was _ _ b t) (sym pl ∙ ap (λ (l : Lease). l.place) f) (λ z. ne (ap (λ (l : Lease). l.who) f ∙ sym z)) y).0 in
              ap (λ (l : Lease). l.kind) f ∙ z
          excl' a b (inl s) (inr t) pl ne x y =
              let f = Memᴰ.eq_of_singleton t in
              (free (w.now.hand 0) i q k w.keeper.leases open' a (kept_was _ _ a s) (pl ∙ ap (λ (l : Lease). l.place) f) (λ z. ne (z ∙ sym (ap (λ (l : Lease). l.who) f))) x).1
          excl' a b (inl s) (inl t) pl ne x y = inv.excl a b (kept_was _ _ a s) (kept_was _ _ b t) pl ne x y

          excl : (a b : Lease) → Memᴰ a (ran ++ one) → Memᴰ b (ran ++ one) → a.place ≡ b.place → (a.who ≡ b.who → ⊥) → w.now.hand 0 < a.until → w.now.hand 0 < b.until → a.kind ≡ Reading
          excl a b s t = excl' a b (Memᴰ.append_cases ran s) (Memᴰ.append_cases ran t)

    -- A WRITE IS APPLIED
    module _ (i q n : ℕ) (v : List ℕ) (sent : Memᴰ (Write i q n v) w.sent) (new : w.keeper.done q i < n) (good : w.keeper.void q i < n) (lets : Lets (w.now.hand 0) i q w.keeper.leases) where
      abbrev put : Put
      put = record { who = i; place = q; number = n; bytes = v }

      abbrev in_it : Office
      in_it = record { value = at_1 q v w.keeper.value; done = at_2 q i n w.keeper.done; void = w.keeper.void; leases = w.keeper.leases; quiet = w.keeper.quiet; up = w.keeper.up }

      done_up : (r j : ℕ) → w.keeper.done r j ≤ in_it.done r j
      done_up = at_two q i n w.keeper.done (λ r j x. w.keeper.done r j ≤ x) (omega arith) (λ r j. omega arith)

      -- no loan of the part would be valid
      alone : (j r l : ℕ) (h : Kind) (u : List ℕ) → r ≡ q → Memᴰ (Loan j r l h u) w.sent → Live S w.now j (w.part j r) l → ⊥
      alone j r l h u here mem live = go (cases_eq j i)
        where
          c : Claim S w.now w.past w.keeper j r l h u (w.part j r)
          c = (inv.mail (Loan j r l h u) mem).1 live

          go : (j ≡ i) ⊎ (j ≡ i → ⊥) → ⊥
          go (inl e) = let x = (inv.mail (Write i q n v) sent).written in
              let a : (w.part j r).write ≡ (w.part i q).write = cc in
              let b : w.keeper.done r j ≡ w.keeper.done q i = cc in
              let d : w.keeper.void r j ≡ w.keeper.void q i = cc in
              omega (arith, c.wrote)
          go (inr ne) =
              let s = stands j r l h u (w.part j r) c live in
              is_writing lets.it.kind lets.writes
              (inv.excl lets.it (lease j r h l s.0) lets.mem s.1 (lets.place ∙ sym here) (λ z. ne (sym z ∙ lets.who)) lets.runs s.3)

      claims_in : (j r l : ℕ) (h : Kind) (u : List ℕ) → Memᴰ (Loan j r l h u) w.sent → Live S w.now j (w.part j r) l → Claim S w.now w.past w.keeper j r l h u (w.part j r) → Claim S w.now w.past in_it j r l h u (w.part j r)
      claims_in j r l h u mem live c =
          record {
            time = c.time;
            before = c.before;
            is = c.is;
            backed = c.backed;
            wrote = omega (arith, c.wrote, done_up r j);
            value = at_both q v w.keeper.value (λ x y. x ≡ r → u ≡ y) (λ e. absurd (alone j r l h u (sym e) mem live)) (λ x ne e. c.value ∙ ap w.keeper.value (sym e)) r refl;
          }

      pub put_inv : Inv S (keeping w in_it (w.sent ++ In i q n ∷ []) (put ∷ w.applied))
      unfolding latest Once
      put_inv =
          record {
            mail = λ x h. mail x (Memᴰ.append_cases w.sent h);
            held = λ j r. held_more w.sent (In i q n ∷ []) j r (w.part j r) (w.copy j r) (inv.held j r);
            apart = λ a b r x y g h u o ne s t. inv.apart a b r x y g h u o ne (old a r x g u (Memᴰ.append_cases w.sent s)) (old b r y h o (Memᴰ.append_cases w.sent t));
            excl = inv.excl;
            newest = λ r. ap (cond (eqb r q) v) (inv.newest r);
            done_in = done_in;
            puts = puts;
            once = ((λ p h a b c. omega (arith, (inv.puts p h).0, same p a b)), inv.once);
            known = λ j r. (known j r, (inv.known j r).1);
            near = inv.near;
            one_bytes = λ j r x u o s t. inv.one_bytes j r x u o (oldw j r x u (Memᴰ.append_cases w.sent s)) (oldw j r x o (Memᴰ.append_cases w.sent t));
          }
        where
          known : (j r : ℕ) → Wrote (w.part j r) (w.disk j r) (in_it.done r j)
          known j r = at_two q i n w.keeper.done (λ r j x. Wrote (w.part j r) (w.disk j r) x) (inv.mail (Write i q n v) sent) (λ r j. (inv.known j r).0) r j

          oldw : (a r x : ℕ) (u : List ℕ) → Memᴰ (Write a r x u) w.sent ⊎ Memᴰ (Write a r x u) (In i q n ∷ []) → Memᴰ (Write a r x u) w.sent
          oldw a r x u (inl h) = h
          oldw a r x u (inr h) = absurd (subst WriteOf (Memᴰ.eq_of_singleton h) tt)

          voids : (j r x : ℕ) → (x ≤ max (w.keeper.done r j) (w.keeper.void r j)) × NotIn w.applied j r x → (x ≤ max (in_it.done r j) (w.keeper.void r j)) × NotIn (put ∷ w.applied) j r x
          voids j r x (a, b) = (omega (arith, a, done_up r j), out)
            where
              out : NotIn (put ∷ w.applied) j r x
              out p (Memᴰ.head e) f g h =
                  let j≡i : j ≡ i = sym f ∙ ap (λ (y : Put). y.who) e in
                  let r≡q : r ≡ q = sym g ∙ ap (λ (y : Put). y.place) e in
                  let x≡n : x ≡ n = sym h ∙ ap (λ (y : Put). y.number) e in
                  let v≡ : w.keeper.void r j ≡ w.keeper.void q i = cc in
                  let d≡ : w.keeper.done r j ≡ w.keeper.done q i = cc in
                  omega (arith, a, good, new)
              out p (Memᴰ.tail z) f g h = b p z f g h

          same : (p : Put) → p.who ≡ i → p.place ≡ q → w.keeper.done p.place p.who ≡ w.keeper.done q i
          same p a b = cc

          mail : (x : Msg) → Memᴰ x w.sent ⊎ Memᴰ x (In i q n ∷ []) → Fine S w.now w.past in_it (put ∷ w.applied) (w.part (who x) (place x)) (w.disk (who x) (place x)) x
          mail x (inl h) = refine in_it (put ∷ w.applied) claims_in (λ p z. Memᴰ.tail z) voids x h
          mail x (inr h) = subst (λ (y : Msg). Fine S w.now w.past in_it (put ∷ w.applied) (w.part (who y) (place y)) (w.disk (who y) (place y)) y) (sym (Memᴰ.eq_of_singleton h)) (v, Memᴰ.head refl)

          old : (a r x : ℕ) (g : Kind) (u : List ℕ) → Memᴰ (Loan a r x g u) w.sent ⊎ Memᴰ (Loan a r x g u) (In i q n ∷ []) → Memᴰ (Loan a r x g u) w.sent
          old a r x g u (inl h) = h
          old a r x g u (inr h) = absurd (subst NoLoan (sym (Memᴰ.eq_of_singleton h)) tt)

          done_in : (r j : ℕ) → (in_it.done r j ≡ 0) ⊎ ((u : List ℕ) × Memᴰ (record { who = j; place = r; number = in_it.done r j; bytes = u }) (put ∷ w.applied))
          done_in = at_two q i n w.keeper.done (λ r j x. (x ≡ 0) ⊎ ((u : List ℕ) × Memᴰ (record { who = j; place = r; number = x; bytes = u }) (put ∷ w.applied))) (inr (v, Memᴰ.head refl)) (λ r j. more r j (inv.done_in r j))
            where
              more : (r j : ℕ) → (w.keeper.done r j ≡ 0) ⊎ ((u : List ℕ) × Memᴰ (record { who = j; place = r; number = w.keeper.done r j; bytes = u }) w.applied) → (w.keeper.done r j ≡ 0) ⊎ ((u : List ℕ) × Memᴰ (record { who = j; place = r; number = w.keeper.done r j; bytes = u }) (put ∷ w.applied))
              more r j (inl e) = inl e
              more r j (inr (u, h)) = inr (u, Memᴰ.tail h)

          puts : (p : Put) → Memᴰ p (put ∷ w.applied) → (p.number ≤ in_it.done p.place p.who) × Memᴰ (Write p.who p.place p.number p.bytes) (w.sent ++ (In i q n ∷ []))
          puts p (Memᴰ.head e) = subst (λ (x : Put). (x.number ≤ in_it.done x.place x.who) × Memᴰ (Write x.who x.place x.number x.bytes) (w.sent ++ (In i q n ∷ []))) (sym e) (rw (at_here q i n w.keeper.done) (omega arith), Memᴰ.append_left (In i q n ∷ []) sent)
          puts p (Memᴰ.tail h) = (omega (arith, (inv.puts p h).0, done_up p.place p.who), Memᴰ.append_left (In i q n ∷ []) (inv.puts p h).1)

  -- what was to be sent is not: the stop came before
  pub unsent_inv : (L : Office) (ms : List Msg) (H : List Put) → Inv S (keeping w L (w.sent ++ ms) H) →
      ((p : Put) → Memᴰ p H → Memᴰ (Write p.who p.place p.number p.bytes) w.sent) → Inv S (keeping w L w.sent H)
  unsent_inv L ms H i old =
      record {
        mail = λ m h. i.mail m (Memᴰ.append_left ms h);
        held = inv.held;
        apart = λ a b q m n k l u v ne s t. i.apart a b q m n k l u v ne (Memᴰ.append_left ms s) (Memᴰ.append_left ms t);
        excl = i.excl;
        newest = i.newest;
        done_in = i.done_in;
        puts = λ p h. ((i.puts p h).0, old p h);
        once = i.once;
        known = i.known;
        near = i.near;
        one_bytes = inv.one_bytes;
      }
