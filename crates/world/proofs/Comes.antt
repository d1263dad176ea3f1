-- Whom nothing hinders gets to write, with nobody else doing anything.
-- Assumes nothing.
use Rattle.std.proofs.Common.{◌≡◌, ℕ, suc, ◌+◌, ◌^◌, ◌<◌, ◌≤◌, max, Bool, true, false, cond, not, ◌&&◌, eqb, List, [], ◌∷◌, ◌++◌, map, length, get_or, take, Some, None, Ok, Option, Result, count_by, filter, refl, ap, ◌∙◌, append-nil, arith}
use mathlib.Core.List.{Memᴰ}
use Rattle.std.proofs.lemmas.List.{take_all, get_or_push, length_push}
use Rattle.std.proofs.lemmas.List.Folds.{list_any-append}
use Rattle.std.proofs.lemmas.Bool.{both_ways, eqb-true, ltb-true, not_from_true, lt-ltb, le-ltb, lt-leb, eq-eqb, ne_eqb, or_right, false_from_ne_true, and_parts}
use Rattle.std.specs.List.{list_any}
use Rattle.part.specs.Parts.{at_1}
use Rattle.message.specs.declared.kind.Kind.TheVariants.{Writing}
use Rattle.message.specs.Format.{Msg, Ask, Loan, Write, WellFormed, layout}
use Rattle.message.specs.Reading.{read}
use Rattle.message.proofs.Reading.{read_layout}
use Rattle.lease.specs.declared.lease.Lease.{Lease}
use Rattle.lease.specs.Leases.{running, barring, allowing}
use Rattle.lender.specs.declared.answer.AskAnswer.TheVariants as ask
use Rattle.lender.specs.declared.answer.WriteAnswer.TheVariants as write
use Rattle.lender.specs.declared.answer.AskAnswer.{AskAnswer}
use Rattle.lender.specs.declared.answer.WriteAnswer.{WriteAnswer}
use Rattle.lender.specs.Rules.{Book, voids, ask_answer, after_ask, write_answer, write_records}
use Rattle.lender.specs.Rules.{ask_sends as keeper_sends, ask_records as keeper_records}
use Rattle.lender.specs.Replies.{heard_effect, heard_book}
use Rattle.borrower.specs.declared.hold.Part.{Part}
use Rattle.borrower.specs.declared.hold.Asked.{Asked}
use Rattle.borrower.specs.Steps.{last_number, released, settled, asking, ask_of, wrote, write_of, lent, loan_of}
use Rattle.message.specs.declared.refusal.Refusal.{Refusal}
use Rattle.borrower.specs.declared.outcome.Call.{Call}
use Rattle.borrower.specs.declared.outcome.Call.TheVariants as call
use Rattle.borrower.specs.Outcomes.{Effect, call_part, lent_part, turned_away, ask_sends, write_sends, heard_parts}
use Rattle.borrower.specs.Outcomes as does
use Rattle.world.specs.World.{World, Borrower, Node, keeper, borrower, Event, deliver, can_call, called, after_call, arrived, after_heard, keeper_effect, borrower_effect, cut}
use Rattle.world.specs.World as world
use Rattle.world.specs.Runs.{Put, puts, Run, moments, next, run}
use Rattle.world.specs.Promise.{Unhindered, to_write}
use Rattle.world.proofs.Good.{on}
use Rattle.world.proofs.Leases.{at_here, any_one}

-- THE KEEPER'S ANSWERS

-- the lease that was added last lets i write
lets_last : (c i q : ℕ) (b : Book) → 0 < b.long → (n : ℕ) →
    list_any (allowing c i q) (filter (running c) b.leases ++ record { who = i; place = q; kind = Writing; number = n; until = c + b.long } ∷ []) ≡ true
lets_last c i q b pos n =
    list_any-append (allowing c i q) (filter (running c) b.leases) _ ∙
    or_right (list_any (allowing c i q) (filter (running c) b.leases)) _ (simp (lt-ltb c (c + b.long) (omega arith), eq-eqb q q refl, eq-eqb i i refl))

module _ (c i q : ℕ) (b : Book) (loud : b.quiet ≤ c) where
  grants : (l : ℕ) → list_any (barring c i q Writing) b.leases ≡ false → c + b.long < 2 ^ 64 → count_by (running c) b.leases < 4096 → ask_answer c i q Writing l b ≡ ask.Granted (voids i q l b)
  grants l free room few = simp (le-ltb c b.quiet loud, free, lt-leb (2 ^ 64) (c + b.long) room, lt-leb 4096 (count_by (running c) b.leases) few)

  -- what an ask that is granted leaves of the book
  record Granted (l : ℕ) (b' : Book) : Type 0 where
    pub lets : list_any (allowing c i q) b'.leases ≡ true
    pub done : b'.done q i ≡ b.done q i
    pub void : b'.void q i ≤ max (b.void q i) l
    pub quiet : b'.quiet ≡ b.quiet

  after_grant : 0 < b.long → (n l : ℕ) (x : Bool) → Granted l (after_ask c i q n Writing l (ask.Granted x) b)
  after_grant pos n l true = record { lets = lets_last c i q b pos n; done = refl; void = rw (at_here q i l b.void) (omega arith); quiet = refl }
  after_grant pos n l false = record { lets = lets_last c i q b pos n; done = refl; void = omega arith; quiet = refl }

  applies : (n : ℕ) → b.done q i < n → b.void q i < n → list_any (allowing c i q) b.leases ≡ true → write_answer c i q n b ≡ write.Applied
  applies n d v lets = simp (le-ltb c b.quiet loud, ne_eqb n (b.done q i) (λ e. omega (arith, e)), lt-leb n (b.done q i) d, lt-leb n (b.void q i) v, lets)

-- no lease of another that runs: nothing bars
free_of : (c i q : ℕ) (ls : List Lease) → ((l : Lease) → Memᴰ l ls → l.place ≡ q → (l.who ≡ i → ⊥) → l.until ≤ c) → list_any (barring c i q Writing) ls ≡ false
free_of c i q ls h = false_from_ne_true (list_any (barring c i q Writing) ls) (λ e. bars (any_one (barring c i q Writing) ls e))
  where
    bars : (l : Lease) × Memᴰ l ls × (barring c i q Writing l ≡ true) → ⊥
    bars (l, m, e) =
        let a = and_parts (running c l) (eqb l.place q && (not (eqb l.who i) && true)) e in
        let b = and_parts (eqb l.place q) (not (eqb l.who i) && true) a.1 in
        let d = and_parts (not (eqb l.who i)) true b.1 in
        omega (arith, ltb-true c l.until a.0, h l m (eqb-true l.place q b.0) (λ x. both_ways (not (eqb l.who i)) (not_from_true (eqb l.who i) (eq-eqb l.who i x)) d.0))

-- THE BORROWER'S STEPS, from a part that was forgotten
module _ (c s : ℕ) (p : Part) where
  asks : (released p).ask < 4294967294 → c + s < 2 ^ 64 → ask_of c s (settled c s (released p)) ≡ (asking c (released p), Ok (record { number = (released p).ask + 1; written = p.write }))
  asks room time = simp (lt-leb 4294967294 (released p).ask room, lt-leb (2 ^ 64) (c + s) time)

  takes : loan_of ((released p).ask + 1) Writing (asking c (released p)) ≡ (lent Writing (asking c (released p)), Ok tt)
  takes = simp (eq-eqb ((released p).ask + 1) ((released p).ask + 1) refl)

  writes : 0 < s → p.write < last_number → write_of (settled c s (lent Writing (asking c (released p)))) ≡ (wrote (lent Writing (asking c (released p))), Ok (p.write + 1))
  writes pos room = simp (lt-leb (c + s) c (omega arith), lt-leb last_number p.write room)

here : {A : Type 0} (j : ℕ) (x : A) (f : ℕ → A) → at_1 j x f j ≡ x
here j x f = simp (eq-eqb j j refl)

turned_silent : (b : Bool) (E : Effect) → E.sends ≡ [] → (cond b E turned_away).sends ≡ []
turned_silent true E e = e
turned_silent false E e = refl

no_puts : (i q l : ℕ) (x : Bool) (h : List Put) → puts (keeper_records i q l (ask.Granted x)) h ≡ h
no_puts i q l true h = refl
no_puts i q l false h = refl

-- a message that was sent last arrives whole
arrives_whole : (w : World) (xs : List (List ℕ)) (x : Msg) (m : ℕ) → WellFormed x → length (layout x) ≤ 2000 → w.sent ≡ xs ++ layout x ∷ [] → length xs ≡ m → read (cut m 2000 w) ≡ Some x
arrives_whole w xs x m f le e z =
    ap (λ (l : List (List ℕ)). read (take 2000 (get_or l m []))) e ∙ ap (λ (y : List ℕ). read (take 2000 y)) (get_or_push xs (layout x) [] m z) ∙
    ap read (take_all 2000 (layout x) le) ∙ read_layout x f

-- ONE EVENT OF THE SIX
module _ (i q : ℕ) (v : List ℕ) (few : i < 32) (small : q < 16384) (long : length v ≡ 1024) where
  -- the borrower is up and has this of the part
  record Sees (w : World) (p : Part) : Type 0 where
    pub awake : (w.borrower i).up ≡ true
    pub part : (w.borrower i).parts q ≡ p

  can : (w : World) → (w.borrower i).up ≡ true → can_call i q v w ≡ true
  can w e = simp (e, lt-ltb i 32 few, lt-ltb q 16384 small, eq-eqb (length v) 1024 long)

  call_step : (r : Run) (k : Call) → (r.world.borrower i).up ≡ true → next r (world.call i q k v None) ≡ on r (called i q k v None r.world)
  call_step r k e = ap (λ (b : Bool). on r (cond b (called i q k v None r.world) r.world)) (can r.world e)

  call_sees : (w : World) (k : Call) (p' : Part) → call_part (w.now.hand (suc i)) w.short k ((w.borrower i).parts q) ≡ p' → Sees (called i q k v None w) p'
  call_sees w k p' z =
      record {
        awake = ap (λ (b : Borrower). b.up) (here i (after_call i q k v w) w.borrower);
        part = ap (λ (b : Borrower). b.parts q) (here i (after_call i q k v w) w.borrower) ∙ here q (call_part (w.now.hand (suc i)) w.short k ((w.borrower i).parts q)) (w.borrower i).parts ∙ z;
      }

  abbrev at_keeper : Run → (m : ℕ) → Run
  at_keeper r m = record { world = arrived keeper (cut m 2000 r.world) None r.world; past = r.past; applied = puts (keeper_effect (cut m 2000 r.world) r.world).records r.applied }

  keeper_step : (r : Run) (m : ℕ) → r.world.keeper.up ≡ true → next r (deliver m 2000 keeper None) ≡ at_keeper r m
  keeper_step r m e = ap (λ (b : Bool). record { world = cond b (arrived keeper (cut m 2000 r.world) None r.world) r.world; past = r.past; applied = puts (cond b (keeper_effect (cut m 2000 r.world) r.world).records []) r.applied }) e

  borrower_step : (r : Run) (m : ℕ) → (r.world.borrower i).up ≡ true → next r (deliver m 2000 (borrower i) None) ≡ on r (arrived (borrower i) (cut m 2000 r.world) None r.world)
  borrower_step r m e = ap (λ (b : Bool). on r (cond b (arrived (borrower i) (cut m 2000 r.world) None r.world) r.world)) e

  -- ALL SIX
  module _ (r : Run) (U : Unhindered r.world i q v) (awake : (r.world.borrower i).up ≡ true) (short_pos : 0 < r.world.short) (long_pos : 0 < r.world.keeper.book.long)
      (bytes : length (r.world.keeper.parts q) ≡ 1024) (done : r.world.keeper.book.done q i ≤ ((r.world.borrower i).parts q).write) (void : r.world.keeper.book.void q i ≤ ((r.world.borrower i).parts q).write) where
    abbrev w : World
    w = r.world

    abbrev p : Part
    p = (w.borrower i).parts q

    abbrev c : ℕ
    c = w.now.hand (suc i)

    abbrev C : ℕ
    C = w.now.hand 0

    abbrev K : Book
    K = w.keeper.book

    abbrev n : ℕ
    n = (released p).ask + 1

    room : (released p).ask < 4294967294
    room = omega (arith, U.asks)

    -- it forgets
    abbrev r1 : Run
    r1 = on r (called i q call.Forget v None w)

    s1 : Sees r1.world (released p)
    s1 = call_sees w call.Forget (released p) refl

    -- it asks
    abbrev r2 : Run
    r2 = on r1 (called i q (call.Ask Writing) v None r1.world)

    asked : ask_of c w.short (settled c w.short ((r1.world.borrower i).parts q)) ≡ (asking c (released p), Ok (record { number = n; written = p.write }))
    asked = ap (λ (x : Part). ask_of c w.short (settled c w.short x)) s1.part ∙ asks c w.short p room U.valid

    s2 : Sees r2.world (asking c (released p))
    s2 = call_sees r1.world (call.Ask Writing) (asking c (released p)) (ap (λ (x : Part × Result Asked Refusal). x.0) asked)

    abbrev m1 : Msg
    m1 = Ask i q n Writing p.write

    sent2 : r2.world.sent ≡ w.sent ++ layout m1 ∷ []
    sent2 = ap (λ (x : Part × Result Asked Refusal). (w.sent ++ []) ++ map layout (ask_sends i q Writing x.1)) asked ∙ ap (λ (l : List (List ℕ)). l ++ layout m1 ∷ []) (append-nil w.sent)

    read2 : read (cut (length w.sent) 2000 r2.world) ≡ Some m1
    read2 = arrives_whole r2.world w.sent m1 (length w.sent) ((few, small, omega (arith, room)), omega (arith, U.writes)) (omega arith) sent2 refl

    -- the ask arrives
    abbrev r3 : Run
    r3 = at_keeper r2 (length w.sent)

    abbrev x : Bool
    x = voids i q p.write K

    granted : ask_answer C i q Writing p.write K ≡ ask.Granted x
    granted = grants C i q K U.loud p.write (free_of C i q K.leases U.alone) U.lent U.table

    abbrev b3 : Book
    b3 = after_ask C i q n Writing p.write (ask.Granted x) K

    book3 : r3.world.keeper.book ≡ b3
    book3 = ap (λ (o : Option Msg). heard_book C o K) read2 ∙ ap (λ (a : AskAnswer). after_ask C i q n Writing p.write a K) granted

    G : Granted C i q K U.loud p.write b3
    G = after_grant C i q K U.loud long_pos n p.write x

    applied3 : r3.applied ≡ r.applied
    applied3 = ap (λ (o : Option Msg). puts (heard_effect C o K w.keeper.parts).records r.applied) read2 ∙ ap (λ (a : AskAnswer). puts (keeper_records i q p.write a) r.applied) granted ∙ no_puts i q p.write x r.applied

    abbrev m2 : Msg
    m2 = Loan i q n Writing (w.keeper.parts q)

    sends3 : (keeper_effect (cut (length w.sent) 2000 r2.world) r2.world).sends ≡ m2 ∷ []
    sends3 = ap (λ (o : Option Msg). (heard_effect C o K w.keeper.parts).sends) read2 ∙ ap (λ (a : AskAnswer). keeper_sends i q n Writing (w.keeper.parts q) a) granted

    sent3 : r3.world.sent ≡ (w.sent ++ layout m1 ∷ []) ++ layout m2 ∷ []
    sent3 = ap (λ (l : List Msg). r2.world.sent ++ map layout l) sends3 ∙ ap (λ (l : List (List ℕ)). l ++ layout m2 ∷ []) sent2

    read3 : read (cut (length w.sent + 1) 2000 r3.world) ≡ Some m2
    read3 = arrives_whole r3.world (w.sent ++ layout m1 ∷ []) m2 (length w.sent + 1) ((few, small, omega (arith, room)), bytes) (omega (arith, bytes)) sent3 (length_push w.sent (layout m1))

    -- the loan arrives
    abbrev r4 : Run
    r4 = on r3 (arrived (borrower i) (cut (length w.sent + 1) 2000 r3.world) None r3.world)

    abbrev B : Borrower
    B = r3.world.borrower i

    abbrev p4 : Part
    p4 = lent Writing (asking c (released p))

    taken4 : heard_parts i (Some m2) B.parts q ≡ p4
    taken4 = ap (λ (b : Bool). cond b (at_1 q (lent_part n Writing (B.parts q)) B.parts) B.parts q) (eq-eqb i i refl) ∙ here q (lent_part n Writing (B.parts q)) B.parts ∙ ap (lent_part n Writing) s2.part ∙ ap (λ (y : Part × Result (Unit {0}) Refusal). y.0) (takes c w.short p)

    s4 : Sees r4.world p4
    s4 =
        let h = here i (after_heard i (cut (length w.sent + 1) 2000 r3.world) r3.world) r3.world.borrower in
        record { awake = ap (λ (b : Borrower). b.up) h; part = ap (λ (b : Borrower). b.parts q) h ∙ ap (λ (o : Option Msg). heard_parts i o B.parts q) read3 ∙ taken4 }

    sends4 : (borrower_effect i (cut (length w.sent + 1) 2000 r3.world) r3.world).sends ≡ []
    sends4 = ap (λ (o : Option Msg). (does.heard_effect i o B.parts B.filed).sends) read3 ∙ turned_silent (eqb i i) _ refl

    sent4 : r4.world.sent ≡ (w.sent ++ layout m1 ∷ []) ++ layout m2 ∷ []
    sent4 = ap (λ (l : List Msg). r3.world.sent ++ map layout l) sends4 ∙ append-nil r3.world.sent ∙ sent3

    -- it writes
    abbrev r5 : Run
    r5 = on r4 (called i q call.Write v None r4.world)

    written : write_of (settled c w.short ((r4.world.borrower i).parts q)) ≡ (wrote p4, Ok (p.write + 1))
    written = ap (λ (y : Part). write_of (settled c w.short y)) s4.part ∙ writes c w.short p short_pos U.writes

    abbrev m3 : Msg
    m3 = Write i q (p.write + 1) v

    sent5 : r5.world.sent ≡ ((w.sent ++ layout m1 ∷ []) ++ layout m2 ∷ []) ++ layout m3 ∷ []
    sent5 = ap (λ (y : Part × Result ℕ Refusal). r4.world.sent ++ map layout (write_sends i q v y.1)) written ∙ ap (λ (l : List (List ℕ)). l ++ layout m3 ∷ []) sent4

    read5 : read (cut (length w.sent + 2) 2000 r5.world) ≡ Some m3
    read5 =
        arrives_whole r5.world ((w.sent ++ layout m1 ∷ []) ++ layout m2 ∷ []) m3 (length w.sent + 2) ((few, small, omega (arith, U.writes)), long) (omega (arith, long)) sent5
        (omega (arith, length_push w.sent (layout m1), length_push (w.sent ++ layout m1 ∷ []) (layout m2)))

    -- the write arrives
    answered : write_answer C i q (p.write + 1) r3.world.keeper.book ≡ write.Applied
    answered =
        ap (write_answer C i q (p.write + 1)) book3 ∙
        applies C i q b3 (omega (arith, U.loud, G.quiet)) (p.write + 1) (omega (arith, done, G.done)) (omega (arith, void, G.void)) G.lets

    abbrev put : Put
    put = record { who = i; place = q; number = p.write + 1; bytes = v }

    last : (next r5 (deliver (length w.sent + 2) 2000 keeper None)).applied ≡ put ∷ r.applied
    last =
        ap (λ (o : Option Msg). puts (heard_effect C o r3.world.keeper.book r3.world.keeper.parts).records r3.applied) read5 ∙
        ap (λ (a : WriteAnswer). puts (write_records i q (p.write + 1) v a) r3.applied) answered ∙ ap (λ (h : List Put). put ∷ h) applied3

    e1 : next r (world.call i q call.Forget v None) ≡ r1
    e1 = call_step r call.Forget awake

    e2 : next (next r (world.call i q call.Forget v None)) (world.call i q (call.Ask Writing) v None) ≡ r2
    e2 = ap (λ (y : Run). next y (world.call i q (call.Ask Writing) v None)) e1 ∙ call_step r1 (call.Ask Writing) s1.awake

    e3 : next (next (next r (world.call i q call.Forget v None)) (world.call i q (call.Ask Writing) v None)) (deliver (length w.sent) 2000 keeper None) ≡ r3
    e3 = ap (λ (y : Run). next y (deliver (length w.sent) 2000 keeper None)) e2 ∙ keeper_step r2 (length w.sent) U.keeper

    e4 : next (next (next (next r (world.call i q call.Forget v None)) (world.call i q (call.Ask Writing) v None)) (deliver (length w.sent) 2000 keeper None)) (deliver (length w.sent + 1) 2000 (borrower i) None) ≡ r4
    e4 = ap (λ (y : Run). next y (deliver (length w.sent + 1) 2000 (borrower i) None)) e3 ∙ borrower_step r3 (length w.sent + 1) s2.awake

    e5 : next (next (next (next (next r (world.call i q call.Forget v None)) (world.call i q (call.Ask Writing) v None)) (deliver (length w.sent) 2000 keeper None)) (deliver (length w.sent + 1) 2000 (borrower i) None)) (world.call i q call.Write v None) ≡ r5
    e5 = ap (λ (y : Run). next y (world.call i q call.Write v None)) e4 ∙ call_step r4 call.Write s4.awake

    -- and no time has passed
    pub six : ((run r (to_write i q v w)).applied ≡ put ∷ r.applied) × (moments (run r (to_write i q v w)) ≡ moments r)
    unfolding run
    six = (ap (λ (y : Run). (next y (deliver (length w.sent + 2) 2000 keeper None)).applied) e5 ∙ last, ap (λ (y : Run). moments (next y (deliver (length w.sent + 2) 2000 keeper None))) e5)
