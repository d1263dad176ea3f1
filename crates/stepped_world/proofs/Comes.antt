-- Whom nothing hinders gets to write, with nobody else doing anything.
use Rattle.std.proofs.Common.{◌≡◌, ℕ, suc, ◌+◌, ◌^◌, ◌<◌, ◌≤◌, max, Bool, true, false, cond, not, ◌&&◌, eqb, ltb, List, [], ◌∷◌, ◌++◌, map, length, get_or, take, Some, None, Ok, Option, Result, count_by, filter, fold, refl, ap, ◌∙◌, append-nil, arith}
use mathlib.Core.List.{Memᴰ}
use Rattle.std.proofs.lemmas.List.{take_all, get_or_push, length_push}
use Rattle.std.proofs.lemmas.List.Folds.{list_any-append}
use Rattle.std.proofs.lemmas.Bool.{cond_both, both_ways, eqb-true, ltb-true, not_from_true, lt-ltb, le-ltb, lt-leb, eq-eqb, ne_eqb, or_right, false_from_ne_true, and_parts}
use Rattle.std.specs.List.{list_any}
use Rattle.part.specs.Parts.{at_1}
use Rattle.message.specs.declared.kind.Kind.TheVariants.{Writing}
use Rattle.message.specs.Format.{Msg, Ask, Loan, Write, In, WellFormed, layout}
use Rattle.message.specs.Reading.{read}
use Rattle.message.proofs.Reading.{read_layout}
use Rattle.lease.specs.declared.lease.Lease.{Lease}
use Rattle.lease.specs.Leases.{running, barring, allowing}
use Rattle.message.specs.declared.refusal.Refusal.{Refusal}
use Rattle.message.specs.Directions.{for_keeper, for_borrower}
use Rattle.journal.specs.Records.{Rec, VoidUpTo, Applied}
use Rattle.machine.specs.Effects.{Effect, nothing}
use Rattle.machine.specs.Inputs.{Input, Came, Called, Call}
use Rattle.machine.specs.Inputs as call
use Rattle.keeping.specs.Rules.{Durable, Volatile, redo, voids, lend}
use Rattle.keeping.specs.Rules as keeping
use Rattle.borrowing.specs.declared.hold.Part.{Part}
use Rattle.borrowing.specs.declared.hold.Asked.{Asked}
use Rattle.borrowing.specs.Parts.{last_number, released, settled, asking, ask_of, wrote, write_of, lent, loan_of}
use Rattle.borrowing.specs.Rules as borrowing
use Rattle.stepped_world.specs.World.{World, Lender, Borrower, Node, keeper, borrower, Event, deliver, is_of_part, can_call, acted, effect, keeper_step, borrower_step, borrower_after, cut}
use Rattle.stepped_world.specs.World as world
use Rattle.stepped_world.specs.Runs.{Put, puts, Run, moments, next, run}
use Rattle.stepped_world.specs.Promise.{Unhindered, to_write}
use Rattle.stepped_world.proofs.Good.{on}
use Rattle.stepped_world.proofs.Leases.{at_here, any_one}

-- THE KEEPER'S ANSWERS

-- the lease that was added last lets i write
lets_last : (long c i q n : ℕ) (v : Volatile) → 0 < long → list_any (allowing c i q) (lend long c i q n Writing v).leases ≡ true
lets_last long c i q n v pos =
    list_any-append (allowing c i q) (filter (running c) v.leases) _ ∙
    or_right (list_any (allowing c i q) (filter (running c) v.leases)) _ (simp (lt-ltb c (c + long) (omega (arith, pos)), eq-eqb q q refl, eq-eqb i i refl))

module _ (long c i q : ℕ) (d : Durable) (v : Volatile) (loud : v.quiet ≤ c) where
  grants : (n l : ℕ) → list_any (barring c i q Writing) v.leases ≡ false → c + long < 2 ^ 64 → count_by (running c) v.leases < 4096 →
      keeping.asked long c i q n Writing l d v ≡ keeping.granted long c i q n Writing l d v
  grants n l free room few = simp (le-ltb c v.quiet loud, free, lt-leb (2 ^ 64) (c + long) room, lt-leb 4096 (count_by (running c) v.leases) few)

  -- what an ask that is granted leaves
  record Granted (l : ℕ) (d' : Durable) (v' : Volatile) : Type 0 where
    pub lets : list_any (allowing c i q) v'.leases ≡ true
    pub done : d'.done q i ≡ d.done q i
    pub void : d'.void q i ≤ max (d.void q i) l
    pub quiet : v'.quiet ≡ v.quiet

  after_grant : 0 < long → (n l : ℕ) → Granted l (fold redo d (voids i q l d)) (lend long c i q n Writing v)
  after_grant pos n l = go (ltb (d.done q i) l && ltb (d.void q i) l)
    where
      go : (b : Bool) → Granted l (fold redo d (cond b (VoidUpTo i q l ∷ []) [])) (lend long c i q n Writing v)
      go true = record { lets = lets_last long c i q n v pos; done = refl; void = rw (at_here q i l d.void) (omega arith); quiet = refl }
      go false = record { lets = lets_last long c i q n v pos; done = refl; void = omega arith; quiet = refl }

  applies : (n : ℕ) (bs : List ℕ) → d.done q i < n → d.void q i < n → list_any (allowing c i q) v.leases ≡ true →
      keeping.written c i q n bs d v ≡ record nothing { records = Applied i q n bs ∷ []; sends = In i q n ∷ [] }
  applies n bs x y lets = simp (le-ltb c v.quiet loud, ne_eqb n (d.done q i) (λ e. omega (arith, e)), lt-leb n (d.done q i) x, lt-leb n (d.void q i) y, lets)

no_puts : (i q l : ℕ) (d : Durable) (h : List Put) → puts (voids i q l d) h ≡ h
no_puts i q l d h = cond_both (ltb (d.done q i) l && ltb (d.void q i) l) (VoidUpTo i q l ∷ []) [] (λ (rs : List Rec). puts rs h ≡ h) (λ e. refl) (λ e. refl)

-- no lease of another that runs: nothing bars
free_of : (c i q : ℕ) (ls : List Lease) → ((l : Lease) → Memᴰ l ls → l.place ≡ q → (l.who ≡ i → ⊥) → l.until ≤ c) → list_any (barring c i q Writing) ls ≡ false
free_of c i q ls h = false_from_ne_true (list_any (barring c i q Writing) ls) (λ e. bars (any_one (barring c i q Writing) ls e))
  where
    bars : (l : Lease) × Memᴰ l ls × (barring c i q Writing l ≡ true) → ⊥
    bars (l, m, e) =
        let a = and_parts (running c l) (eqb l.place q && (not (eqb l.who i) && true)) e in
        let b = and_parts (eqb l.place q) (not (eqb l.who i) && true) a.1 in
        let d = and_parts (not (eqb l.who i)) true b.1 in
        omega (arith, ltb-true c l.until a.0, h l m (eqb-true l.place q b.0) (λ x. both_ways (not (eqb l.who i)) (not_from_true (eqb l.who i) (eq-eqb l.who i x)) d.0))

-- THE BORROWER'S STEPS, from a part that was forgotten
module _ (c s : ℕ) (p : Part) where
  asks : (released p).ask < 4294967294 → c + s < 2 ^ 64 → ask_of c s (settled c s (released p)) ≡ (asking c (released p), Ok (record { number = (released p).ask + 1; written = p.write }))
  asks room time = simp (lt-leb 4294967294 (released p).ask room, lt-leb (2 ^ 64) (c + s) time)

  takes : loan_of ((released p).ask + 1) Writing (asking c (released p)) ≡ (lent Writing (asking c (released p)), Ok tt)
  takes = simp (eq-eqb ((released p).ask + 1) ((released p).ask + 1) refl)

  writes : 0 < s → p.write < last_number → write_of (settled c s (lent Writing (asking c (released p)))) ≡ (wrote (lent Writing (asking c (released p))), Ok (p.write + 1))
  writes pos room = simp (lt-leb (c + s) c (omega arith), lt-leb last_number p.write room)

and_true : {a b : Bool} → a ≡ true → b ≡ true → (a && b) ≡ true
and_true {a} {b} x y = ap (λ (z : Bool). z && b) x ∙ y

here : {A : Type 0} (j : ℕ) (x : A) (f : ℕ → A) → at_1 j x f j ≡ x
here j x f = simp (eq-eqb j j refl)

-- a message that was sent last arrives whole
arrives_whole : (w : World) (xs : List (List ℕ)) (x : Msg) (m : ℕ) → WellFormed x → length (layout x) ≤ 2000 → w.sent ≡ xs ++ layout x ∷ [] → length xs ≡ m → read (cut m 2000 w) ≡ Some x
arrives_whole w xs x m f le e z =
    ap (λ (l : List (List ℕ)). read (take 2000 (get_or l m []))) e ∙ ap (λ (y : List ℕ). read (take 2000 y)) (get_or_push xs (layout x) [] m z) ∙
    ap read (take_all 2000 (layout x) le) ∙ read_layout x f

-- ONE EVENT OF THE SIX
module _ (i q : ℕ) (v : List ℕ) (few : i < 32) (small : q < 16384) (long : length v ≡ 1024) where
  -- the borrower is up and has this of the part
  record Sees (w : World) (p : Part) : Type 0 where
    pub awake : (w.borrower i).up ≡ true
    pub part : (w.borrower i).volatile.parts q ≡ p

  can : (w : World) (k : Call) → is_of_part k ≡ true → (w.borrower i).up ≡ true → can_call i k w ≡ true
  can w k f e = simp (e, lt-ltb i 32 few, f)

  place : ltb q 16384 ≡ true
  place = lt-ltb q 16384 small

  call_step : (r : Run) (k : Call) → is_of_part k ≡ true → (r.world.borrower i).up ≡ true → next r (world.call i k None) ≡ on r (acted (borrower i) (Called k) None r.world)
  call_step r k f e = ap (λ (b : Bool). on r (cond b (acted (borrower i) (Called k) None r.world) r.world)) (can r.world k f e)

  -- after a step of the borrower that leaves this of the part
  sees : (w : World) (x : Input) (p' p'' : Part) → (w.borrower i).up ≡ true → (borrower_step i x w).0.parts ≡ at_1 q p' (w.borrower i).volatile.parts → p' ≡ p'' → Sees (acted (borrower i) x None w) p''
  sees w x p' p'' u e z =
      let h = here i (borrower_after i x w) w.borrower in
      record {
        awake = ap (λ (b : Borrower). b.up) h ∙ u;
        part = ap (λ (b : Borrower). b.volatile.parts q) h ∙ ap (λ (f : ℕ → Part). f q) e ∙ here q p' (w.borrower i).volatile.parts ∙ z;
      }

  abbrev at_keeper : Run → (m : ℕ) → Run
  at_keeper r m = record { world = acted keeper (Came (cut m 2000 r.world)) None r.world; past = r.past; applied = puts (effect keeper (Came (cut m 2000 r.world)) r.world).records r.applied }

  keeper_next : (r : Run) (m : ℕ) → r.world.keeper.up ≡ true → next r (deliver m 2000 keeper None) ≡ at_keeper r m
  keeper_next r m e = ap (λ (b : Bool). record { world = cond b (acted keeper (Came (cut m 2000 r.world)) None r.world) r.world; past = r.past; applied = puts (cond b (effect keeper (Came (cut m 2000 r.world)) r.world).records []) r.applied }) e

  borrower_next : (r : Run) (m : ℕ) → (r.world.borrower i).up ≡ true → next r (deliver m 2000 (borrower i) None) ≡ on r (acted (borrower i) (Came (cut m 2000 r.world)) None r.world)
  borrower_next r m e = ap (λ (b : Bool). on r (cond b (acted (borrower i) (Came (cut m 2000 r.world)) None r.world) r.world)) e

  -- ALL SIX
  module _ (r : Run) (U : Unhindered r.world i q v) (awake : (r.world.borrower i).up ≡ true) (short_pos : 0 < r.world.short) (long_pos : 0 < r.world.long)
      (bytes : length (r.world.keeper.durable.parts q) ≡ 1024) (done : r.world.keeper.durable.done q i ≤ ((r.world.borrower i).volatile.parts q).write) (void : r.world.keeper.durable.void q i ≤ ((r.world.borrower i).volatile.parts q).write) where
    abbrev w : World
    w = r.world

    abbrev p : Part
    p = (w.borrower i).volatile.parts q

    abbrev c : ℕ
    c = w.now.hand (suc i)

    abbrev C : ℕ
    C = w.now.hand 0

    abbrev K : Lender
    K = w.keeper

    abbrev n : ℕ
    n = (released p).ask + 1

    room : (released p).ask < 4294967294
    room = omega (arith, U.asks)

    -- it forgets
    abbrev r1 : Run
    r1 = on r (acted (borrower i) (Called (call.Forget q)) None w)

    s1 : Sees r1.world (released p)
    s1 = sees w (Called (call.Forget q)) (released p) (released p) awake refl refl

    -- it asks
    abbrev r2 : Run
    r2 = on r1 (acted (borrower i) (Called (call.Ask q Writing)) None r1.world)

    asked : ask_of c w.short (settled c w.short ((r1.world.borrower i).volatile.parts q)) ≡ (asking c (released p), Ok (record { number = n; written = p.write }))
    asked = ap (λ (x : Part). ask_of c w.short (settled c w.short x)) s1.part ∙ asks c w.short p room U.valid

    s2 : Sees r2.world (asking c (released p))
    s2 = sees r1.world (Called (call.Ask q Writing)) (ask_of c w.short (settled c w.short ((r1.world.borrower i).volatile.parts q))).0 (asking c (released p)) s1.awake refl (ap (λ (x : Part × Result Asked Refusal). x.0) asked)

    abbrev m1 : Msg
    m1 = Ask i q n Writing p.write

    sent2 : r2.world.sent ≡ w.sent ++ layout m1 ∷ []
    sent2 = ap (λ (x : Part × Result Asked Refusal). (w.sent ++ []) ++ map layout (borrowing.asks i q Writing x.1).sends) asked ∙ ap (λ (l : List (List ℕ)). l ++ layout m1 ∷ []) (append-nil w.sent)

    read2 : read (cut (length w.sent) 2000 r2.world) ≡ Some m1
    read2 = arrives_whole r2.world w.sent m1 (length w.sent) ((few, small, omega (arith, room)), omega (arith, U.writes)) (omega arith) sent2 refl

    -- the ask arrives
    abbrev r3 : Run
    r3 = at_keeper r2 (length w.sent)

    abbrev D3 : Durable
    D3 = fold redo K.durable (voids i q p.write K.durable)

    abbrev V3 : Volatile
    V3 = lend w.long C i q n Writing K.volatile

    step3 : keeper_step (Came (cut (length w.sent) 2000 r2.world)) r2.world ≡ keeping.granted w.long C i q n Writing p.write K.durable K.volatile
    step3 =
        ap (λ (o : Option Msg). keeping.heard w.long C (for_keeper o) K.durable K.volatile) read2 ∙
        grants w.long C i q K.durable K.volatile U.loud n p.write (free_of C i q K.volatile.leases U.alone) U.lent U.table

    durable3 : r3.world.keeper.durable ≡ D3
    durable3 = ap (λ (x : Volatile × Effect). fold redo K.durable x.1.records) step3

    volatile3 : r3.world.keeper.volatile ≡ V3
    volatile3 = ap (λ (x : Volatile × Effect). x.0) step3

    G : Granted w.long C i q K.durable K.volatile U.loud p.write D3 V3
    G = after_grant w.long C i q K.durable K.volatile U.loud long_pos n p.write

    applied3 : r3.applied ≡ r.applied
    applied3 = ap (λ (x : Volatile × Effect). puts x.1.records r.applied) step3 ∙ no_puts i q p.write K.durable r.applied

    abbrev m2 : Msg
    m2 = Loan i q n Writing (K.durable.parts q)

    sent3 : r3.world.sent ≡ (w.sent ++ layout m1 ∷ []) ++ layout m2 ∷ []
    sent3 = ap (λ (x : Volatile × Effect). r2.world.sent ++ map layout x.1.sends) step3 ∙ ap (λ (l : List (List ℕ)). l ++ layout m2 ∷ []) sent2

    read3 : read (cut (length w.sent + 1) 2000 r3.world) ≡ Some m2
    read3 = arrives_whole r3.world (w.sent ++ layout m1 ∷ []) m2 (length w.sent + 1) ((few, small, omega (arith, room)), bytes) (omega (arith, bytes)) sent3 (length_push w.sent (layout m1))

    -- the loan arrives
    abbrev r4 : Run
    r4 = on r3 (acted (borrower i) (Came (cut (length w.sent + 1) 2000 r3.world)) None r3.world)

    abbrev B : Borrower
    B = r3.world.borrower i

    abbrev p4 : Part
    p4 = lent Writing (asking c (released p))

    abbrev loaned : Part × Result (Unit {0}) Refusal → borrowing.Volatile × Effect
    loaned x = borrowing.lent q (K.durable.parts q) x B.durable B.volatile

    step4 : borrower_step i (Came (cut (length w.sent + 1) 2000 r3.world)) r3.world ≡ loaned (p4, Ok tt)
    step4 =
        ap (λ (o : Option Msg). borrowing.heard i (for_borrower o) B.durable B.volatile) read3 ∙
        ap (λ (b : Bool). cond b (loaned (loan_of n Writing (B.volatile.parts q))) (borrowing.turned_away B.volatile)) (eq-eqb i i refl) ∙
        ap (λ (y : Part). loaned (loan_of n Writing y)) s2.part ∙ ap loaned (takes c w.short p)

    s4 : Sees r4.world p4
    s4 = sees r3.world (Came (cut (length w.sent + 1) 2000 r3.world)) p4 p4 s2.awake (ap (λ (x : borrowing.Volatile × Effect). x.0.parts) step4) refl

    sent4 : r4.world.sent ≡ (w.sent ++ layout m1 ∷ []) ++ layout m2 ∷ []
    sent4 = ap (λ (x : borrowing.Volatile × Effect). r3.world.sent ++ map layout x.1.sends) step4 ∙ append-nil r3.world.sent ∙ sent3

    -- it writes
    abbrev r5 : Run
    r5 = on r4 (acted (borrower i) (Called (call.Write q v)) None r4.world)

    written : write_of (settled c w.short ((r4.world.borrower i).volatile.parts q)) ≡ (wrote p4, Ok (p.write + 1))
    written = ap (λ (y : Part). write_of (settled c w.short y)) s4.part ∙ writes c w.short p short_pos U.writes

    abbrev m3 : Msg
    m3 = Write i q (p.write + 1) v

    sent5 : r5.world.sent ≡ ((w.sent ++ layout m1 ∷ []) ++ layout m2 ∷ []) ++ layout m3 ∷ []
    sent5 = ap (λ (y : Part × Result ℕ Refusal). r4.world.sent ++ map layout (borrowing.writes i q v y.1).sends) written ∙ ap (λ (l : List (List ℕ)). l ++ layout m3 ∷ []) sent4

    read5 : read (cut (length w.sent + 2) 2000 r5.world) ≡ Some m3
    read5 =
        arrives_whole r5.world ((w.sent ++ layout m1 ∷ []) ++ layout m2 ∷ []) m3 (length w.sent + 2) ((few, small, omega (arith, U.writes)), long) (omega (arith, long)) sent5
        (omega (arith, length_push w.sent (layout m1), length_push (w.sent ++ layout m1 ∷ []) (layout m2)))

    -- the write arrives
    effect6 : effect keeper (Came (cut (length w.sent + 2) 2000 r5.world)) r5.world ≡ record nothing { records = Applied i q (p.write + 1) v ∷ []; sends = In i q (p.write + 1) ∷ [] }
    effect6 =
        ap (λ (o : Option Msg). (keeping.heard w.long C (for_keeper o) r3.world.keeper.durable r3.world.keeper.volatile).1) read5 ∙
        ap (λ (d : Durable). keeping.written C i q (p.write + 1) v d r3.world.keeper.volatile) durable3 ∙
        ap (λ (x : Volatile). keeping.written C i q (p.write + 1) v D3 x) volatile3 ∙
        applies w.long C i q D3 V3 (omega (arith, U.loud, G.quiet)) (p.write + 1) v (omega (arith, done, G.done)) (omega (arith, void, G.void)) G.lets

    abbrev put : Put
    put = record { who = i; place = q; number = p.write + 1; bytes = v }

    last : (at_keeper r5 (length w.sent + 2)).applied ≡ put ∷ r.applied
    last = ap (λ (x : Effect). puts x.records r3.applied) effect6 ∙ ap (λ (h : List Put). put ∷ h) applied3

    abbrev after : Run → (k : Call) → Run
    after y k = next y (world.call i k None)

    e1 : after r (call.Forget q) ≡ r1
    e1 = call_step r (call.Forget q) place awake

    e2 : after (after r (call.Forget q)) (call.Ask q Writing) ≡ r2
    e2 = ap (λ (y : Run). after y (call.Ask q Writing)) e1 ∙ call_step r1 (call.Ask q Writing) place s1.awake

    e3 : next (after (after r (call.Forget q)) (call.Ask q Writing)) (deliver (length w.sent) 2000 keeper None) ≡ r3
    e3 = ap (λ (y : Run). next y (deliver (length w.sent) 2000 keeper None)) e2 ∙ keeper_next r2 (length w.sent) U.keeper

    e4 : next (next (after (after r (call.Forget q)) (call.Ask q Writing)) (deliver (length w.sent) 2000 keeper None)) (deliver (length w.sent + 1) 2000 (borrower i) None) ≡ r4
    e4 = ap (λ (y : Run). next y (deliver (length w.sent + 1) 2000 (borrower i) None)) e3 ∙ borrower_next r3 (length w.sent + 1) s2.awake

    e5 : after (next (next (after (after r (call.Forget q)) (call.Ask q Writing)) (deliver (length w.sent) 2000 keeper None)) (deliver (length w.sent + 1) 2000 (borrower i) None)) (call.Write q v) ≡ r5
    e5 = ap (λ (y : Run). after y (call.Write q v)) e4 ∙ call_step r4 (call.Write q v) (and_true place (eq-eqb (length v) 1024 long)) s4.awake

    e6 : next (after (next (next (after (after r (call.Forget q)) (call.Ask q Writing)) (deliver (length w.sent) 2000 keeper None)) (deliver (length w.sent + 1) 2000 (borrower i) None)) (call.Write q v)) (deliver (length w.sent + 2) 2000 keeper None) ≡ at_keeper r5 (length w.sent + 2)
    e6 = ap (λ (y : Run). next y (deliver (length w.sent + 2) 2000 keeper None)) e5 ∙ keeper_next r5 (length w.sent + 2) U.keeper

    -- and no time has passed
    pub six : ((run r (to_write i q v w)).applied ≡ put ∷ r.applied) × (moments (run r (to_write i q v w)) ≡ moments r)
    unfolding run
    six = (ap (λ (y : Run). y.applied) e6 ∙ last, ap moments e6)
