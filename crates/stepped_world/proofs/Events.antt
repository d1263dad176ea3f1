-- Each event keeps the whole invariant, and a write that it sends is sent by a call that was allowed.
use Rattle.std.proofs.Common.{◌≡◌, ℕ, suc, ◌+◌, ◌<◌, Bool, true, false, cond, ltb, leb, List, [], ◌++◌, Some, None, Ok, Err, Option, Result, sym, refl, subst, append-nil}
use mathlib.Core.List.Memᴰ
use mathlib.Core.List.{Memᴰ}
use Rattle.std.proofs.lemmas.Bool.{cond_both, leb-false}
use Rattle.message.specs.declared.kind.Kind.{Kind}
use Rattle.message.specs.declared.kind.Kind.TheVariants.{Reading, Writing}
use Rattle.message.specs.declared.refusal.Refusal.{Refusal}
use Rattle.message.specs.declared.refusal.Refusal.TheVariants.{Exhausted}
use Rattle.message.specs.Format.{Msg, Ask, Write}
use Rattle.message.specs.Reading.{read}
use Rattle.machine.specs.Inputs.{Call, Came, Called}
use Rattle.machine.specs.Inputs as call
use Rattle.machine.specs.Machines as machines
use Rattle.borrowing.specs.declared.hold.Held.{Held as InHand}
use Rattle.borrowing.specs.declared.hold.Part.{Part}
use Rattle.borrowing.specs.declared.hold.Asked.{Asked}
use Rattle.borrowing.specs.Parts.{last_number, copy, stale, released, settled, lets_write, writable, wrote, write_by, write_of, showing}
use Rattle.borrowing.specs.Rules.{asks, writes, shows}
use Rattle.stepped_world.specs.World.{World, Node, keeper, borrower, Event, tick, deliver, stop, up, can_call, effect, is_up, acted, cut, stopped, came_up, keeper_wakes, borrower_wakes, borrower_woken, step}
use Rattle.stepped_world.specs.World as world
use Rattle.stepped_world.specs.Runs.{Put, puts, Run, whole, next}
use Rattle.stepped_world.specs.Promise.{MayShow}
use Rattle.stepped_world.proofs.Inv.{Setting, Clocked, each_at}
use Rattle.stepped_world.proofs.Wire.{arrives}
use Rattle.stepped_world.proofs.Good.{setting, Good, Steps, on}
use Rattle.stepped_world.proofs.Good as borrowers
use Rattle.stepped_world.proofs.Hears.{callable, called_steps, heard_steps, heard_none}
use Rattle.stepped_world.proofs.Serves.{NoWrite, Served, heard_served, served_good, served_torn}
use Rattle.stepped_world.proofs.Serves as keepers
use Rattle.stepped_world.proofs.Tick.{tick_good}

-- A CALL THAT WRITES: the part had a copy for writing that counted, and the number is the next
record Writes (c s : ℕ) (p : Part) (n : ℕ) : Type 0 where
  pub asked : ℕ
  pub holds : p.hold ≡ copy Writing asked
  pub valid : c < asked + s
  pub number : n ≡ p.write + 1

module _ (c s : ℕ) (p : Part) (n : ℕ) where
  of_kind : (k : Kind) (a : ℕ) → p.hold ≡ copy k a → c < a + s → (write_by p (lets_write k)).1 ≡ Ok n → Writes c s p n
  of_kind Reading a e z y = absurd (cc)
  of_kind Writing a e z y =
      cond_both (leb last_number p.write) (p, Err Exhausted) (wrote p, Ok (p.write + 1)) (λ (x : Part × Result ℕ Refusal). x.1 ≡ Ok n → Writes c s p n) (λ t u. absurd (cc)) (λ t u. record { asked = a; holds = e; valid = z; number = cc }) y

  of_hold : (h : Option InHand) → p.hold ≡ h → stale c s h ≡ false → (write_by p (writable h)).1 ≡ Ok n → Writes c s p n
  of_hold None e z y = absurd (cc)
  of_hold (Some g) e z y = of_kind g.kind g.asked e (leb-false (g.asked + s) c z) y

  writes_so : (write_of (settled c s p)).1 ≡ Ok n → Writes c s p n
  writes_so y =
      cond_both (stale c s p.hold) (released p) p (λ (x : Part). (write_of x).1 ≡ Ok n → Writes c s p n) (λ e u. absurd (cc)) (λ e u. of_hold p.hold refl e u) y

-- the message of a write
abbrev pub message : Put → Msg
message p = Write p.who p.place p.number p.bytes

-- a write is sent by this event, a call that was allowed
pub record Sends (r : Run) (e : Event) (p : Put) : Type 0 where
  pub is : e ≡ world.call p.who (call.Write p.place p.bytes) None
  pub allowed : MayShow r.world p.who p.place Writing
  pub number : p.number ≡ ((r.world.borrower p.who).volatile.parts p.place).write + 1

asks_none : (i q : ℕ) (k : Kind) (r : Result Asked Refusal) (p : Put) → Memᴰ (message p) (asks i q k r).sends → ⊥
asks_none i q k (Ok a) p h = let e : message p ≡ Ask i q a.number k a.written = Memᴰ.eq_of_singleton h in absurd (cc)
asks_none i q k (Err x) p h = elim h [ ]

shows_none : (q : ℕ) (r : Result (Unit {0}) Refusal) (m : Msg) → Memᴰ m (shows q r).sends → ⊥
shows_none q (Ok u) m h = elim h [ ]
shows_none q (Err e) m h = elim h [ ]

module _ (r : Run) (i : ℕ) (awake : (r.world.borrower i).up ≡ true) where
  abbrev w : World
  w = r.world

  writes_this : (q : ℕ) (v : List ℕ) (x : Result ℕ Refusal) → x ≡ (write_of (settled (w.now.hand (suc i)) w.short ((w.borrower i).volatile.parts q))).1 →
      (p : Put) → Memᴰ (message p) (writes i q v x).sends → Sends r (world.call i (call.Write q v) None) p
  writes_this q v (Err x) e p h = elim h [ ]
  writes_this q v (Ok n) e p h = subst (Sends r (world.call i (call.Write q v) None)) (sym same) this
    where
      same : ◌≡◌ {A = Put} p (record { who = i; place = q; number = n; bytes = v })
      same = put_is p (Memᴰ.eq_of_singleton h)
        where
          put_is : (p : Put) → message p ≡ Write i q n v → ◌≡◌ {A = Put} (record { who = p.who; place = p.place; number = p.number; bytes = p.bytes }) (record { who = i; place = q; number = n; bytes = v })
          put_is p z = cc

      made : Writes (w.now.hand (suc i)) w.short ((w.borrower i).volatile.parts q) n
      made = writes_so (w.now.hand (suc i)) w.short ((w.borrower i).volatile.parts q) n (sym e)

      this : Sends r (world.call i (call.Write q v) None) (record { who = i; place = q; number = n; bytes = v })
      this = record { is = refl; allowed = record { up = awake; asked = made.asked; holds = made.holds; valid = made.valid }; number = made.number }

  call_writes : (c : Call) (p : Put) → Memᴰ (message p) (effect (borrower i) (Called c) w).sends → Sends r (world.call i c None) p
  call_writes (call.Ask q k) p h = absurd (asks_none i q k _ p h)
  call_writes (call.Show q) p h = absurd (shows_none q (showing (settled (w.now.hand (suc i)) w.short ((w.borrower i).volatile.parts q)).hold) (message p) h)
  call_writes (call.Write q v) p h = writes_this q v _ refl p h
  call_writes (call.Forget q) p h = elim h [ ]

-- what holds after an event that sent these messages more
pub record After (S : Setting) (r : Run) (ms : List Msg) (e : Event) (r' : Run) : Type 0 where
  pub new : List Msg
  pub good : Good S r' (ms ++ new)
  pub writes : (p : Put) → Memᴰ (message p) new → Sends r e p

module _ (r : Run) (ms : List Msg) (G : Good (setting r.world) r ms) where
  abbrev w' : World
  w' = r.world

  abbrev S : Setting
  S = setting w'

  abbrev Then : Event → World → Type 0
  Then e x = After S r ms e (on r x)

  -- nothing is sent
  silent : (e : Event) (r' : Run) → Good S r' (ms ++ []) → After S r ms e r'
  silent e r' g = record { new = []; good = g; writes = λ p h. elim h [ ] }

  -- nothing is sent, of an invariant of the messages as they were
  unsaid : (e : Event) (r' : Run) → Good S r' ms → After S r ms e r'
  unsaid e r' g = silent e r' (subst (Good S r') (sym (append-nil ms)) g)

  nothing : (e : Event) → Then e w'
  nothing e = unsaid e (on r w') G

  -- what arrives was sent
  pub arrival : (m n : ℕ) (x : Msg) → read (cut m n w') ≡ Some x → Memᴰ x ms
  arrival m n x = arrives w'.sent ms G.wire G.formed m n x

  calls : (i : ℕ) (c : Call) (t : Option ℕ) → can_call i c w' ≡ true → Then (world.call i c t) (acted (borrower i) (Called c) t w')
  calls i c None e = let a = callable w' i c e in record { new = _; good = (called_steps S r ms G i a.awake c a.few a.part).good; writes = call_writes r i a.awake c }
  calls i c (Some n) e = let a = callable w' i c e in silent _ _ ((called_steps S r ms G i a.awake c a.few a.part).torn n)

  hears : (m n i : ℕ) (t : Option ℕ) → (w'.borrower i).up ≡ true → Then (deliver m n (borrower i) t) (acted (borrower i) (Came (cut m n w')) t w')
  hears m n i None awake =
      record {
        new = _;
        good = (heard_steps S r ms G i awake (read (cut m n w')) (arrival m n)).good;
        writes = λ p h. absurd (heard_none i (w'.borrower i).durable (w'.borrower i).volatile (message p) tt (read (cut m n w')) h);
      }
  hears m n i (Some l) awake = silent _ _ ((heard_steps S r ms G i awake (read (cut m n w')) (arrival m n)).torn l)

  module _ (C : Clocked S w'.now r.past) where
    pub served : (m n : ℕ) (awake : w'.keeper.up ≡ true) → Served r ms G C awake (world.keeper_step (Came (cut m n w')) w')
    served m n awake = heard_served r ms G C awake (read (cut m n w')) (arrival m n)

    pub serves : (m n : ℕ) (t : Option ℕ) → w'.keeper.up ≡ true →
        After S r ms (deliver m n keeper t) (record { world = acted keeper (Came (cut m n w')) t w'; past = r.past; applied = puts (whole (effect keeper (Came (cut m n w')) w').records t) r.applied })
    serves m n None awake =
        let s = served m n awake in
        record { new = _; good = served_good r ms G C awake _ s; writes = λ p h. absurd (each_at NoWrite _ s.silent _ h tt) }
    serves m n (Some l) awake = unsaid _ _ (served_torn r ms G C awake _ (served m n awake) l)

    -- EVERY EVENT
    pub event_good : (e : Event) → After S r ms e (next r e)
    event_good (tick x) = unsaid _ _ (tick_good S r ms G x)
    event_good (world.call i c t) = cond_both (can_call i c w') (acted (borrower i) (Called c) t w') w' (Then (world.call i c t)) (calls i c t) (λ e. nothing _)
    event_good (deliver m n keeper t) = go w'.keeper.up refl
      where
        go : (b : Bool) → w'.keeper.up ≡ b →
            After S r ms (deliver m n keeper t) (record { world = cond b (acted keeper (Came (cut m n w')) t w') w'; past = r.past; applied = puts (cond b (whole (effect keeper (Came (cut m n w')) w').records t) []) r.applied })
        go true e = serves m n t e
        go false e = nothing _
    event_good (deliver m n (borrower i) t) = cond_both (w'.borrower i).up (acted (borrower i) (Came (cut m n w')) t w') w' (Then (deliver m n (borrower i) t)) (hears m n i t) (λ e. nothing _)
    event_good (stop keeper) = cond_both w'.keeper.up (stopped keeper w') w' (Then (stop keeper)) (λ e. unsaid _ _ (keepers.stop_good r ms G)) (λ e. nothing _)
    event_good (stop (borrower i)) = cond_both (w'.borrower i).up (stopped (borrower i) w') w' (Then (stop (borrower i))) (λ e. silent _ _ (borrowers.stop_good S r ms G i)) (λ e. nothing _)
    event_good (up keeper) = go w'.keeper.up
      where
        go : (b : Bool) → After S r ms (up keeper) (record { world = cond b w' (came_up keeper w'); past = r.past; applied = puts (cond b [] (machines.woken_records (keeper_wakes w'))) r.applied })
        go true = nothing _
        go false = unsaid _ _ (keepers.up_good r ms G C)
    event_good (up (borrower i)) = cond_both (w'.borrower i).up w' (came_up (borrower i) w') (Then (up (borrower i))) (λ e. nothing _)
        (λ e. cond_both (ltb i 32) (borrower_woken i (borrower_wakes i w') w') w' (Then (up (borrower i))) (λ z. silent _ _ (borrowers.up_good S r ms G i)) (λ z. nothing _))
