-- The theorem: what is promised holds of every run.
use Rattle.std.proofs.Common.{◌≡◌, ℕ, zero, suc, ◌+◌, ◌<◌, true, false, eqb, ◌⊎◌, List, [], ◌∷◌, ◌++◌, length, Some, None, Ok, Err, Option, Result, sym, refl, ap, ◌∙◌, subst, inl, inr, arith}
use mathlib.Core.List.Memᴰ
use mathlib.Core.List.{Memᴰ}
use Rattle.std.proofs.lemmas.Bool.{cond_both, leb-false}
use Rattle.clock.specs.Moments.{Moment, Within, Between}
use Rattle.clock.specs.Terms.{Fits}
use Rattle.message.specs.declared.kind.Kind.{Kind}
use Rattle.message.specs.declared.kind.Kind.TheVariants.{Reading}
use Rattle.message.specs.Format.{Msg, Ask, Loan, Write, In, Void, Recall, Back}
use Rattle.borrowing.specs.declared.hold.Held.{Held as InHand}
use Rattle.borrowing.specs.declared.hold.Part.{Part}
use Rattle.borrowing.specs.declared.hold.Asked.{Asked}
use Rattle.borrowing.specs.Parts.{copy, stale, released, settled, ask_of, showing, write_of, loan_of}
use Rattle.borrowing.specs.Rules.{Volatile, heard, turned_away, asks, writes, shows}
use Rattle.borrowing.specs.Rules as rules
use Rattle.machine.specs.Effects.{Effect}
use Rattle.machine.specs.Inputs.{Input, Came, Called}
use Rattle.machine.specs.Inputs as input
use Rattle.message.specs.Directions.{for_borrower}
use Rattle.message.specs.Reading.{read}
use Rattle.message.specs.declared.refusal.Refusal.{Refusal}
use Rattle.keeping.specs.Rules as keeping
use Rattle.stepped_world.specs.World.{World, Event, borrower, effect, borrower_after}
use Rattle.stepped_world.specs.Runs.{Put, Run, moments, next, run, start}
use Rattle.stepped_world.specs.Promise.{Unhindered, to_write, pause, SilenceEnds, Assumed, MayShow, IsNewest, Sent, Made, Holds, Promise, Theorem}
use Rattle.stepped_world.proofs.Inv.{Setting, Clocked, Live}
use Rattle.stepped_world.proofs.Wire.{was_sent}
use Rattle.stepped_world.proofs.Good.{setting, Good}
use Rattle.stepped_world.proofs.Time.{same_terms, time_goes_on, back, clocked, paused}
use Rattle.stepped_world.proofs.Files.{recovered_long}
use Rattle.stepped_world.proofs.Hears.{callable, writable}
use Rattle.stepped_world.proofs.Comes.{six}
use Rattle.stepped_world.proofs.Tick.{start_good}
use Rattle.stepped_world.proofs.Events.{message, After, event_good}

-- EVERY RUN keeps the invariant, and each write in it was sent by a call that was allowed

terms_are : (short long : ℕ) (m : Moment) (events : List Event) → setting (run (start short long m) events).world ≡ record { short = short; long = long }
unfolding run
terms_are s l m [] = refl
terms_are s l m (e ∷ es) = same_terms (run (start s l m) es).world e ∙ terms_are s l m es

record Reached (S : Setting) (first : Run) (events : List Event) : Type 0 where
  pub sent : List Msg
  pub good : Good S (run first events) sent
  pub made : (p : Put) → Memᴰ (message p) sent → Made first events p

one_more : (S : Setting) (first : Run) (e : Event) (es : List Event) → (b : Reached S first es) → After S (run first es) b.sent e (next (run first es) e) → Reached S first (e ∷ es)
unfolding run
one_more S first e es b a = record { sent = b.sent ++ a.new; good = a.good; made = λ p h. go p (Memᴰ.append_cases b.sent h) }
  where
    go : (p : Put) → Memᴰ (message p) b.sent ⊎ Memᴰ (message p) a.new → Made first (e ∷ es) p
    go p (inl h) = let m = b.made p h in record { before = m.before; after = e ∷ m.after; is = ap (λ (x : List Event). e ∷ x) m.is; allowed = m.allowed; number = m.number }
    go p (inr h) = let s = a.writes p h in record { before = es; after = []; is = ap (λ (x : Event). x ∷ es) s.is; allowed = s.allowed; number = s.number }

module _ (rate short long grain : ℕ) (fits : Fits rate short long) (pos : 0 < grain) (m : Moment) where
  abbrev S : Setting
  S = record { short = short; long = long }

  abbrev at : List Event → Run
  at es = run (start short long m) es

  clocks : (es : List Event) → Within rate grain (moments (at es)) → Clocked S (at es).world.now (at es).past
  clocks es h = clocked rate short long grain fits pos (at es).world.now (at es).past h (time_goes_on short long m es)

  before : (e : Event) (es : List Event) → Within rate grain (moments (next (at es) e)) → Within rate grain (moments (at es))
  before e es h = back (Between rate grain) (at es) e h

  one_event : (e : Event) (es : List Event) → Within rate grain (moments (at es)) → Reached S (start short long m) es → Reached S (start short long m) (e ∷ es)
  one_event e es h b = one_more S (start short long m) e es b (subst (λ (s : Setting). After s (at es) b.sent e (next (at es) e)) t kept)
    where
      t : setting (at es).world ≡ S
      t = terms_are short long m es

      kept : After (setting (at es).world) (at es) b.sent e (next (at es) e)
      kept = event_good (at es) b.sent (subst (λ (s : Setting). Good s (at es) b.sent) (sym t) b.good) (subst (λ (s : Setting). Clocked s (at es).world.now (at es).past) (sym t) (clocks es h)) e

  reached : (es : List Event) → Within rate grain (moments (at es)) → Reached S (start short long m) es
  unfolding run
  reached [] h = record { sent = []; good = start_good short long m; made = λ p x. elim x [ ] }
  reached (e ∷ es) h = let so_far = before e es h in one_event e es so_far (reached es so_far)

-- WHAT THE INVARIANT SAYS of a copy that may be shown

-- a call of show is answered well only where a copy counts
record Counts (c s : ℕ) (p : Part) : Type 0 where
  pub kind : Kind
  pub asked : ℕ
  pub holds : p.hold ≡ copy kind asked
  pub valid : c < asked + s

counts : (c s : ℕ) (p : Part) → showing (settled c s p).hold ≡ Ok tt → Counts c s p
counts c s p = cond_both (stale c s p.hold) (released p) p (λ (x : Part). showing x.hold ≡ Ok tt → Counts c s p) (λ e u. absurd (cc)) (λ e u. of_hold p.hold refl e u)
  where
    of_hold : (h : Option InHand) → p.hold ≡ h → stale c s h ≡ false → showing h ≡ Ok tt → Counts c s p
    of_hold None e z y = absurd (cc)
    of_hold (Some g) e z y = record { kind = g.kind; asked = g.asked; holds = e; valid = leb-false (g.asked + s) c z }

-- no message shows a part
module _ (i : ℕ) (d : rules.Durable) (v : Volatile) (q : ℕ) where
  abbrev Hides : Volatile × Effect → Type 0
  Hides x = Memᴰ q x.1.shows → ⊥

  heard_hides : (o : Option Msg) → Hides (heard i (for_borrower o) d v)
  heard_hides None h = elim h [ ]
  heard_hides (Some (Ask j p n k l)) h = elim h [ ]
  heard_hides (Some (Loan j p n k b)) h = cond_both (eqb j i) (rules.lent p b (loan_of n k (v.parts p)) d v) (turned_away v) Hides (λ e z. elim z [ ]) (λ e z. elim z [ ]) h
  heard_hides (Some (Write j p n b)) h = elim h [ ]
  heard_hides (Some (In j p n)) h = cond_both (eqb j i) _ (turned_away v) Hides (λ e z. elim z [ ]) (λ e z. elim z [ ]) h
  heard_hides (Some (Void j p n)) h = cond_both (eqb j i) _ (turned_away v) Hides (λ e z. elim z [ ]) (λ e z. elim z [ ]) h
  heard_hides (Some (Recall j p)) h = cond_both (eqb j i) (rules.recalled j p d v) (turned_away v) Hides (λ e z. elim z [ ]) (λ e z. elim z [ ]) h
  heard_hides (Some (Back j p n)) h = elim h [ ]

asks_hides : (i p : ℕ) (k : Kind) (a : Result Asked Refusal) (q : ℕ) → Memᴰ q (asks i p k a).shows → ⊥
asks_hides i p k (Ok a) q h = elim h [ ]
asks_hides i p k (Err e) q h = elim h [ ]

writes_hides : (i p : ℕ) (v : List ℕ) (a : Result ℕ Refusal) (q : ℕ) → Memᴰ q (writes i p v a).shows → ⊥
writes_hides i p v (Ok n) q h = elim h [ ]
writes_hides i p v (Err e) q h = elim h [ ]

-- what a call of show shows
shows_this : (p : ℕ) (a : Result (Unit {0}) Refusal) (q : ℕ) → Memᴰ q (shows p a).shows → (q ≡ p) × (a ≡ Ok tt)
shows_this p (Ok u) q h = (Memᴰ.eq_of_singleton h, refl)
shows_this p (Err e) q h = elim h [ ]

module _ (S : Setting) (r : Run) (ms : List Msg) (G : Good S r ms) (terms : setting r.world ≡ S) (short_pos : 0 < S.short) (long_pos : 0 < S.long) where
  abbrev w : World
  w = r.world

  -- what may be shown came in a loan that is valid
  record Lent (i q : ℕ) (k : Kind) : Type 0 where
    pub mem : Memᴰ (Loan i q ((w.borrower i).volatile.parts q).ask k ((w.borrower i).volatile.copies q)) ms
    pub live : Live S w.now i ((w.borrower i).volatile.parts q) ((w.borrower i).volatile.parts q).ask

  lent : (i q : ℕ) (k : Kind) → MayShow w i q k → Lent i q k
  lent i q k m =
      let h = G.inv.held i q k m.asked m.holds in
      record { mem = h.0; live = record { last = refl; valid = subst (λ (s : Setting). w.now.hand (suc i) < ((w.borrower i).volatile.parts q).asked + s.short) terms (subst (λ (a : ℕ). w.now.hand (suc i) < a + w.short) h.1 m.valid) } }

  fresh : (i q : ℕ) (k : Kind) → MayShow w i q k → IsNewest r q ((w.borrower i).volatile.copies q)
  fresh i q k m =
      let l = lent i q k m in
      let v : (w.borrower i).volatile.copies q ≡ w.keeper.durable.parts q = ((G.inv.mail _ l.mem).1 l.live).value in
      (v ∙ G.inv.newest q, v)

  show_of : (i p q : ℕ) → (w.borrower i).up ≡ true → Memᴰ q (shows p (showing (settled (w.now.hand (suc i)) w.short ((w.borrower i).volatile.parts p)).hold)).shows →
      IsNewest r q ((w.borrower i).volatile.copies q)
  show_of i p q u h =
      let s = shows_this p (showing (settled (w.now.hand (suc i)) w.short ((w.borrower i).volatile.parts p)).hold) q h in
      let c = counts (w.now.hand (suc i)) w.short ((w.borrower i).volatile.parts p) s.1 in
      subst (λ (x : ℕ). IsNewest r x ((w.borrower i).volatile.copies x)) (sym s.0) (fresh i p c.kind (record { up = u; asked = c.asked; holds = c.holds; valid = c.valid }))

  shown : (i q : ℕ) (x : Input) → (w.borrower i).up ≡ true → Memᴰ q (effect (borrower i) x w).shows → IsNewest r q ((borrower_after i x w).volatile.copies q)
  shown i q (Came bs) u h = absurd (heard_hides i (w.borrower i).durable (w.borrower i).volatile q (read bs) h)
  shown i q (Called (input.Ask p k)) u h = absurd (asks_hides i p k (ask_of (w.now.hand (suc i)) w.short (settled (w.now.hand (suc i)) w.short ((w.borrower i).volatile.parts p))).1 q h)
  shown i q (Called (input.Show p)) u h = show_of i p q u h
  shown i q (Called (input.Write p v)) u h = absurd (writes_hides i p v (write_of (settled (w.now.hand (suc i)) w.short ((w.borrower i).volatile.parts p))).1 q h)
  shown i q (Called (input.Forget p)) u h = elim h [ ]
  shown i q input.Reading u h = elim h [ ]

  one_writer : (i j q : ℕ) (k l : Kind) → (i ≡ j → ⊥) → MayShow w i q k → MayShow w j q l → (k ≡ Reading) × (l ≡ Reading)
  one_writer i j q k l ne x y =
      let a = lent i q k x in
      let c = lent j q l y in
      (G.inv.apart i j q _ _ k l _ _ ne a.mem c.mem a.live c.live, G.inv.apart j i q _ _ l k _ _ (λ e. ne (sym e)) c.mem a.mem c.live a.live)

  sent : (x : Msg) → Sent w x → Memᴰ x ms
  sent x s = was_sent w ms G.wire G.formed x s

  pub gets_to_write : (i q : ℕ) (v : List ℕ) → Unhindered w i q v →
      ((run r (to_write i q v w)).applied ≡ record { who = i; place = q; number = ((w.borrower i).volatile.parts q).write + 1; bytes = v } ∷ r.applied) × (moments (run r (to_write i q v w)) ≡ moments r)
  gets_to_write i q v u =
      let a = callable w i (input.Write q v) u.can in
      let z = writable q v a.part in
      let known = G.inv.known i q in
      six i q v a.few z.0 z.1 r u a.awake (subst (λ (s : Setting). 0 < s.short) (sym terms) short_pos) (subst (λ (s : Setting). 0 < s.long) (sym terms) long_pos)
      (subst (λ (d : keeping.Durable). length (d.parts q) ≡ 1024) (sym G.keeper.kept) (recovered_long w.keeper.file q z.0)) known.0.written known.1.written

  pub promised : Holds r
  promised =
      record {
        fresh = fresh;
        shown = shown;
        one_writer = one_writer;
        once = G.inv.once;
        told = λ i q n s. G.inv.mail (In i q n) (sent (In i q n) s);
        void = λ i q n s. (G.inv.mail (Void i q n) (sent (Void i q n) s)).1;
        on_disk = G.keeper.on_disk;
        kept = G.keeper.kept;
      }

-- terms that fit are not 0
pub lasts : (rate short long : ℕ) → Fits rate short long → (0 < short) × (0 < long)
lasts rate short zero f = absurd (omega (arith, f.3))
lasts rate short (suc l) f = (omega (arith, f.1), omega arith)

module _ (rate short long grain : ℕ) (m : Moment) (events : List Event) (given : Assumed rate short long grain m events) where
  abbrev r' : Run
  r' = run (start short long m) events

  reaches : Reached (record { short = short; long = long }) (start short long m) events
  reaches = reached rate short long grain given.terms given.units m events given.clocks

  in_time : (i q : ℕ) (v : List ℕ) → Unhindered r'.world i q v →
      ((run r' (to_write i q v r'.world)).applied ≡ record { who = i; place = q; number = ((r'.world.borrower i).volatile.parts q).write + 1; bytes = v } ∷ r'.applied) × (moments (run r' (to_write i q v r'.world)) ≡ moments r')
  in_time = let l = lasts rate short long given.terms in gets_to_write (record { short = short; long = long }) r' reaches.sent reaches.good (terms_are short long m events) l.0 l.1

  promise : Promise (start short long m) events r'
  promise =
      record {
        holds = let l = lasts rate short long given.terms in promised (record { short = short; long = long }) r' reaches.sent reaches.good (terms_are short long m events) l.0 l.1;
        only_writes = λ p h. reaches.made p (reaches.good.inv.puts p h).1;
        can_write = λ i q v u. (_, (in_time i q v u).0);
      }

pub whole : Theorem
whole = promise

-- WAITING
still_given : (rate short long grain : ℕ) (m : Moment) (events : List Event) (d : ℕ) → Assumed rate short long grain m events → Assumed rate short long grain m (pause grain d ∷ events)
unfolding run
still_given rate short long grain m events d g = record { terms = g.terms; units = g.units; clocks = paused rate grain d (run (start short long m) events) (time_goes_on short long m events) g.clocks }

same_writes : (short long grain : ℕ) (m : Moment) (events : List Event) (d : ℕ) → (run (start short long m) (pause grain d ∷ events)).applied ≡ (run (start short long m) events).applied
unfolding run
same_writes short long grain m events d = refl

pub silence : SilenceEnds
silence rate short long grain m events g i q d v u =
    let later = still_given rate short long grain m events d g in
    let x = in_time rate short long grain m (pause grain d ∷ events) later i q v u in
    let n = (((run (start short long m) (pause grain d ∷ events)).world.borrower i).volatile.parts q).write + 1 in
    record { applied = (n, x.0 ∙ ap (λ (h : List Put). record { who = i; place = q; number = n; bytes = v } ∷ h) (same_writes short long grain m events d)); clocks = subst (Within rate grain) (sym x.1) later.clocks }
