-- Each event keeps the whole invariant, and a write that it sends is sent by a call that was allowed.
-- Assumes nothing.
use Rattle.std.proofs.Common.{◌≡◌, ℕ, suc, ◌+◌, ◌^◌, ◌<◌, Bool, true, false, cond, eqb, ltb, leb, List, [], ◌++◌, Some, None, Ok, Err, Option, Result, sym, refl, subst, append-nil}
use mathlib.Core.List.Memᴰ
use mathlib.Core.List.{Memᴰ}
use Rattle.std.proofs.lemmas.Bool.{cond_both, leb-false}
use Rattle.message.specs.declared.kind.Kind.{Kind}
use Rattle.message.specs.declared.kind.Kind.TheVariants.{Reading, Writing}
use Rattle.message.specs.declared.refusal.Refusal.{Refusal}
use Rattle.message.specs.declared.refusal.Refusal.TheVariants.{Exhausted}
use Rattle.message.specs.Format.{Msg, Ask, Loan, Write, In, Void, Recall, Back}
use Rattle.message.specs.Reading.{read}
use Rattle.borrower.specs.declared.hold.Held.{Held as InHand}
use Rattle.borrower.specs.declared.hold.Part.{Part}
use Rattle.borrower.specs.declared.hold.Asked.{Asked}
use Rattle.borrower.specs.declared.outcome.Call.{Call}
use Rattle.borrower.specs.declared.outcome.Call.TheVariants as call
use Rattle.borrower.specs.Steps.{last_number, copy, stale, released, settled, lets_write, writable, wrote, write_by, write_of}
use Rattle.borrower.specs.Outcomes.{Effect, ask_sends, write_sends, turned_away, heard_effect}
use Rattle.world.specs.World.{World, Borrower, Node, keeper, borrower, Event, tick, deliver, stop, up, can_call, called, call_effect, is_up, arrived, cut, stopped, risen_from, with_keeper, with_borrower, keeper_up, borrower_up, keeper_effect, long_of, step}
use Rattle.world.specs.World as world
use Rattle.world.specs.Runs.{Put, puts, Run, whole, next}
use Rattle.world.specs.Promise.{MayShow}
use Rattle.world.proofs.Inv.{Setting, Clocked, each_at}
use Rattle.world.proofs.Wire.{arrives}
use Rattle.world.proofs.Good.{setting, Good, on}
use Rattle.world.proofs.Good as borrowers
use Rattle.world.proofs.Hears.{callable, call_good, call_torn, heard_good, heard_torn}
use Rattle.world.proofs.Serves.{NoWrite, none, served_good, served_torn}
use Rattle.world.proofs.Serves as keepers
use Rattle.world.proofs.Tick.{tick_good}

-- A CALL THAT WRITES: the part had a copy for writing that counted, and the number is the next
record Writes (c s : ℕ) (p : Part) (n : ℕ) : Type 0 where
  pub asked : ℕ
  pub holds : p.hold ≡ copy Writing asked
  pub valid : c < asked + s
  pub number : n ≡ p.write + 1

module _ (c s : ℕ) (p : Part) (n : ℕ) where
  of_kind : (k : Kind) (a : ℕ) → p.hold ≡ copy k a → c < a + s → (write_by p (lets_write k)).1 ≡ Ok n → Writes c s p n
  of_kind Reading a e z y = absurd (cc)
  of_kind Writing a e z y =
      cond_both (leb last_number p.write) (p, Err Exhausted) (wrote p, Ok (p.write + 1)) (λ (x : Part × Result ℕ Refusal). x.1 ≡ Ok n → Writes c s p n) (λ t u. absurd (cc)) (λ t u. record { asked = a; holds = e; valid = z; number = cc }) y

  of_hold : (h : Option InHand) → p.hold ≡ h → stale c s h ≡ false → (write_by p (writable h)).1 ≡ Ok n → Writes c s p n
  of_hold None e z y = absurd (cc)
  of_hold (Some g) e z y = of_kind g.kind g.asked e (leb-false (g.asked + s) c z) y

  writes_so : (write_of (settled c s p)).1 ≡ Ok n → Writes c s p n
  writes_so y =
      cond_both (stale c s p.hold) (released p) p (λ (x : Part). (write_of x).1 ≡ Ok n → Writes c s p n) (λ e u. absurd (cc)) (λ e u. of_hold p.hold refl e u) y

-- the message of a write
abbrev pub message : Put → Msg
message p = Write p.who p.place p.number p.bytes

-- a write is sent by this event, a call that was allowed
pub record Sends (r : Run) (e : Event) (p : Put) : Type 0 where
  pub is : e ≡ world.call p.who p.place call.Write p.bytes None
  pub allowed : MayShow r.world p.who p.place Writing
  pub number : p.number ≡ ((r.world.borrower p.who).parts p.place).write + 1

asks_none : (i q : ℕ) (k : Kind) (r : Result Asked Refusal) (p : Put) → Memᴰ (message p) (ask_sends i q k r) → ⊥
asks_none i q k (Ok a) p h = let e : message p ≡ Ask i q a.number k a.written = Memᴰ.eq_of_singleton h in absurd (cc)
asks_none i q k (Err x) p h = elim h [ ]

module _ (r : Run) (i q : ℕ) (v : List ℕ) (awake : (r.world.borrower i).up ≡ true) where
  abbrev w : World
  w = r.world

  writes_this : (x : Result ℕ Refusal) → x ≡ (write_of (settled (w.now.hand (suc i)) w.short ((w.borrower i).parts q))).1 →
      (p : Put) → Memᴰ (message p) (write_sends i q v x) → Sends r (world.call i q call.Write v None) p
  writes_this (Err x) e p h = elim h [ ]
  writes_this (Ok n) e p h = subst (Sends r (world.call i q call.Write v None)) (sym same) this
    where
      same : ◌≡◌ {A = Put} p (record { who = i; place = q; number = n; bytes = v })
      same = put_is p (Memᴰ.eq_of_singleton h)
        where
          put_is : (p : Put) → message p ≡ Write i q n v → ◌≡◌ {A = Put} (record { who = p.who; place = p.place; number = p.number; bytes = p.bytes }) (record { who = i; place = q; number = n; bytes = v })
          put_is p z = cc

      made : Writes (w.now.hand (suc i)) w.short ((w.borrower i).parts q) n
      made = writes_so (w.now.hand (suc i)) w.short ((w.borrower i).parts q) n (sym e)

      this : Sends r (world.call i q call.Write v None) (record { who = i; place = q; number = n; bytes = v })
      this = record { is = refl; allowed = record { up = awake; asked = made.asked; holds = made.holds; valid = made.valid }; number = made.number }

  call_writes : (k : Call) (p : Put) → Memᴰ (message p) (call_effect i q k v w).sends → Sends r (world.call i q k v None) p
  call_writes (call.Ask k) p h = absurd (asks_none i q k _ p h)
  call_writes call.Show p h = elim h [ ]
  call_writes call.Write p h = writes_this _ refl p h
  call_writes call.Forget p h = elim h [ ]

-- a message that a borrower hears makes it send no write
unless_turned_away : (x : Bool) (E : Effect) (p : Put) → (Memᴰ (message p) E.sends → ⊥) → Memᴰ (message p) (cond x E turned_away).sends → ⊥
unless_turned_away true E p f h = f h
unless_turned_away false E p f h = elim h [ ]

heard_none : (i : ℕ) (o : Option Msg) (b : Borrower) (p : Put) → Memᴰ (message p) (heard_effect i o b.parts b.filed).sends → ⊥
heard_none i None b p h = elim h [ ]
heard_none i (Some (Ask j q n k l)) b p h = elim h [ ]
heard_none i (Some (Loan j q n k v)) b p h = unless_turned_away (eqb j i) _ p (λ z. elim z [ ]) h
heard_none i (Some (Write j q n v)) b p h = elim h [ ]
heard_none i (Some (In j q n)) b p h = unless_turned_away (eqb j i) _ p (λ z. elim z [ ]) h
heard_none i (Some (Void j q n)) b p h = unless_turned_away (eqb j i) _ p (λ z. elim z [ ]) h
heard_none i (Some (Recall j q)) b p h = unless_turned_away (eqb j i) _ p (λ z. let e : message p ≡ Back j q (b.parts q).ask = Memᴰ.eq_of_singleton z in absurd (cc)) h
heard_none i (Some (Back j q n)) b p h = elim h [ ]

-- what holds after an event that sent these messages more
pub record After (S : Setting) (r : Run) (ms : List Msg) (e : Event) (r' : Run) : Type 0 where
  pub new : List Msg
  pub good : Good S r' (ms ++ new)
  pub writes : (p : Put) → Memᴰ (message p) new → Sends r e p

module _ (r : Run) (ms : List Msg) (G : Good (setting r.world) r ms) where
  abbrev w' : World
  w' = r.world

  abbrev S : Setting
  S = setting w'

  abbrev Then : Event → World → Type 0
  Then e x = After S r ms e (on r x)

  -- nothing is sent
  silent : (e : Event) (r' : Run) → Good S r' (ms ++ []) → After S r ms e r'
  silent e r' g = record { new = []; good = g; writes = λ p h. elim h [ ] }

  -- nothing is sent, of an invariant of the messages as they were
  unsaid : (e : Event) (r' : Run) → Good S r' ms → After S r ms e r'
  unsaid e r' g = silent e r' (subst (Good S r') (sym (append-nil ms)) g)

  nothing : (e : Event) → Then e w'
  nothing e = unsaid e (on r w') G

  -- what arrives was sent
  arrival : (m n : ℕ) (x : Msg) → read (cut m n w') ≡ Some x → Memᴰ x ms
  arrival m n x = arrives w'.sent ms G.wire G.formed m n x

  calls : (i q : ℕ) (k : Call) (v : List ℕ) (t : Option ℕ) → can_call i q v w' ≡ true → Then (world.call i q k v t) (called i q k v t w')
  calls i q k v None e = let a = callable w' i q v e in record { new = (call_effect i q k v w').sends; good = call_good S r ms G i a.awake q v a.few a.here a.long k; writes = call_writes r i q v a.awake k }
  calls i q k v (Some n) e = let a = callable w' i q v e in silent _ _ (call_torn S r ms G i a.awake q v a.few a.here a.long k n)

  hears : (m n i : ℕ) (t : Option ℕ) → (w'.borrower i).up ≡ true → Then (deliver m n (borrower i) t) (arrived (borrower i) (cut m n w') t w')
  hears m n i None awake = record { new = _; good = heard_good S r ms G i awake (read (cut m n w')) (arrival m n); writes = λ p h. absurd (heard_none i (read (cut m n w')) (w'.borrower i) p h) }
  hears m n i (Some l) awake = silent _ _ (heard_torn S r ms G i awake (read (cut m n w')) (arrival m n) l)

  module _ (C : Clocked S w'.now r.past) where
    pub serves : (m n : ℕ) (t : Option ℕ) → w'.keeper.up ≡ true →
        After S r ms (deliver m n keeper t) (record { world = arrived keeper (cut m n w') t w'; past = r.past; applied = puts (whole (keeper_effect (cut m n w') w').records t) r.applied })
    serves m n None awake = record { new = _; good = served_good r ms G C awake (cut m n w') (arrival m n); writes = λ p h. absurd (each_at NoWrite _ (none (w'.now.hand 0) (read (cut m n w')) w'.keeper.book w'.keeper.parts) _ h tt) }
    serves m n (Some l) awake = unsaid _ _ (served_torn r ms G C awake (cut m n w') (arrival m n) l)

    -- EVERY EVENT
    pub event_good : (e : Event) → After S r ms e (next r e)
    event_good (tick x) = unsaid _ _ (tick_good S r ms G x)
    event_good (world.call i q k v t) = cond_both (can_call i q v w') (called i q k v t w') w' (Then (world.call i q k v t)) (calls i q k v t) (λ e. nothing _)
    event_good (deliver m n keeper t) = go w'.keeper.up refl
      where
        go : (b : Bool) → w'.keeper.up ≡ b →
            After S r ms (deliver m n keeper t) (record { world = cond b (arrived keeper (cut m n w') t w') w'; past = r.past; applied = puts (cond b (whole (keeper_effect (cut m n w') w').records t) []) r.applied })
        go true e = serves m n t e
        go false e = nothing _
    event_good (deliver m n (borrower i) t) = cond_both (w'.borrower i).up (arrived (borrower i) (cut m n w') t w') w' (Then (deliver m n (borrower i) t)) (hears m n i t) (λ e. nothing _)
    event_good (stop keeper) = cond_both w'.keeper.up (stopped keeper w') w' (Then (stop keeper)) (λ e. unsaid _ _ (keepers.stop_good r ms G)) (λ e. nothing _)
    event_good (stop (borrower i)) = cond_both (w'.borrower i).up (stopped (borrower i) w') w' (Then (stop (borrower i))) (λ e. silent _ _ (borrowers.stop_good S r ms G i)) (λ e. nothing _)
    event_good (up keeper) = cond_both w'.keeper.up w' (risen_from keeper w') (Then (up keeper)) (λ e. nothing _)
        (λ e. cond_both (leb (2 ^ 64) (w'.now.hand 0 + long_of w')) w' (with_keeper (keeper_up (w'.now.hand 0) (long_of w') w'.keeper.file) w') (Then (up keeper)) (λ z. nothing _) (λ z. unsaid _ _ (keepers.up_good r ms G C)))
    event_good (up (borrower i)) = cond_both (w'.borrower i).up w' (risen_from (borrower i) w') (Then (up (borrower i))) (λ e. nothing _)
        (λ e. cond_both (ltb i 32) (with_borrower i (borrower_up (w'.borrower i).file) w') w' (Then (up (borrower i))) (λ z. silent _ _ (borrowers.up_good S r ms G i)) (λ z. nothing _))
