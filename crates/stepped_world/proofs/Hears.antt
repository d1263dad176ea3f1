-- A borrower's calls and messages keep the whole invariant, and no message makes it send a write.
use Rattle.std.proofs.Common.{◌≡◌, ℕ, suc, ◌<◌, true, ◌&&◌, eqb, ltb, List, [], ◌∷◌, length, Some, None, Ok, Err, Option, Result, sym, refl, subst}
use mathlib.Core.List.Memᴰ
use mathlib.Core.List.{Memᴰ}
use Rattle.std.proofs.lemmas.Bool.{cond_both, eqb-true, ltb-true, and_parts}
use Rattle.message.specs.declared.refusal.Refusal.{Refusal}
use Rattle.message.specs.declared.refusal.Refusal.TheVariants.{HoldsCopy, OtherAsk}
use Rattle.message.specs.Format.{Msg, Ask, Loan, Write, In, Void, Recall, Back}
use Rattle.message.specs.Directions.{for_borrower}
use Rattle.machine.specs.Effects.{nothing}
use Rattle.machine.specs.Inputs.{Call}
use Rattle.machine.specs.Inputs as call
use Rattle.borrowing.specs.declared.hold.Part.{Part}
use Rattle.borrowing.specs.Parts.{holds, settled, ask_of, showing, write_of, lent, loan_of}
use Rattle.borrowing.specs.Rules.{Terms, Volatile, Durable, called, heard, turned_away, asks, writes, shows}
use Rattle.borrowing.specs.Rules as rules
use Rattle.machine.specs.Effects.{Effect}
use Rattle.stepped_world.specs.World.{World, Borrower, can_call, is_of_part}
use Rattle.stepped_world.specs.Runs.{Run}
use Rattle.stepped_world.proofs.Inv.{Setting}
use Rattle.stepped_world.proofs.Borrow.{WriteOf}
use Rattle.stepped_world.proofs.Calls.{still, ask_inv, write_inv, forget_inv, recall_inv, kept, takes}
use Rattle.stepped_world.proofs.Good.{Good, Steps, idle, one_part}

-- what it takes to be called
pub record Callable (w : World) (i : ℕ) (c : Call) : Type 0 where
  pub awake : (w.borrower i).up ≡ true
  pub few : i < 32
  pub part : is_of_part c ≡ true

pub callable : (w : World) (i : ℕ) (c : Call) → can_call i c w ≡ true → Callable w i c
callable w i c e =
    let a = and_parts (w.borrower i).up (ltb i 32 && is_of_part c) e in
    let b = and_parts (ltb i 32) (is_of_part c) a.1 in
    record { awake = a.0; few = ltb-true i 32 b.0; part = b.1 }

-- a write is of a part, and has its bytes
pub writable : (q : ℕ) (v : List ℕ) → is_of_part (call.Write q v) ≡ true → (q < 16384) × (length v ≡ 1024)
writable q v e = let d = and_parts (ltb q 16384) (eqb (length v) 1024) e in (ltb-true q 16384 d.0, eqb-true (length v) 1024 d.1)

module _ (S : Setting) (r : Run) (ms : List Msg) (G : Good S r ms) (i : ℕ) (awake : (r.world.borrower i).up ≡ true) where
  abbrev w : World
  w = r.world

  abbrev B : Borrower
  B = w.borrower i

  abbrev c : ℕ
  c = w.now.hand (suc i)

  abbrev T : Terms
  T = record { who = i; short = w.short }

  abbrev Kept : Volatile × Effect → Type 0
  Kept x = Steps S r ms G i awake x

  -- the part at q, settled
  abbrev p1 : ℕ → Part
  p1 q = settled c w.short (B.volatile.parts q)

  -- CALLS
  pub called_steps : (x : Call) → i < 32 → is_of_part x ≡ true → Kept (called T c x B.durable B.volatile)
  called_steps (call.Ask q k) few h =
      let here = ltb-true q 16384 h in
      one_part S r ms G i awake q few here _ B.volatile.copies (asks i q k (ask_of c w.short (p1 q)).1) (ask_inv S w r.past ms r.applied G.inv i q _ few here c w.short k refl)
  called_steps (call.Show q) few h =
      let here = ltb-true q 16384 h in
      showed (showing (p1 q).hold) here
    where
      showed : (a : Result (Unit {0}) Refusal) (here : q < 16384) → Kept (rules.leave q (p1 q) (shows q a) B.durable B.volatile)
      showed (Ok u) here = one_part S r ms G i awake q few here (p1 q) B.volatile.copies (shows q (Ok u)) (still S w r.past ms r.applied G.inv i q _ few here c w.short)
      showed (Err e) here = one_part S r ms G i awake q few here (p1 q) B.volatile.copies (shows q (Err e)) (still S w r.past ms r.applied G.inv i q _ few here c w.short)
  called_steps (call.Write q v) few h =
      let z = writable q v h in
      one_part S r ms G i awake q few z.0 _ B.volatile.copies (writes i q v (write_of (p1 q)).1) (write_inv S w r.past ms r.applied G.inv i q _ few z.0 c w.short v z.1)
  called_steps (call.Forget q) few h =
      let here = ltb-true q 16384 h in
      one_part S r ms G i awake q few here _ B.volatile.copies nothing (forget_inv S w r.past ms r.applied G.inv i q _ few here)

  -- MESSAGES
  loan_steps : (q n : ℕ) (k : _) (v : List ℕ) → i < 32 → q < 16384 → Memᴰ (Loan i q n k v) ms → Kept (rules.lent q v (loan_of n k (B.volatile.parts q)) B.durable B.volatile)
  loan_steps q n k v few here mem =
      cond_both (holds p.hold) (p, Err HoldsCopy) _ M (λ e. same HoldsCopy)
      (λ none. cond_both (eqb n p.ask) (lent k p, Ok tt) (p, Err OtherAsk) M
      (λ e. one_part S r ms G i awake q few here (lent k p) _ nothing (takes S w r.past ms r.applied G.inv i q _ few here k v (subst (λ (x : ℕ). Memᴰ (Loan i q x k v) ms) (eqb-true n p.ask e) mem)))
      (λ e. same OtherAsk))
    where
      p : Part
      p = B.volatile.parts q

      M : Part × Result (Unit {0}) Refusal → Type 0
      M x = Kept (rules.lent q v x B.durable B.volatile)

      same : (why : Refusal) → Kept (rules.lent q v (p, Err why) B.durable B.volatile)
      same why = one_part S r ms G i awake q few here p B.volatile.copies (rules.answers (Err why)) (kept S w r.past ms r.applied G.inv i q _ few here)

  pub heard_steps : (o : Option Msg) → ((x : Msg) → o ≡ Some x → Memᴰ x ms) → Kept (heard i (for_borrower o) B.durable B.volatile)
  heard_steps None mem = idle S r ms G i awake _ _ _
  heard_steps (Some (Ask j q m k l)) mem = idle S r ms G i awake _ _ _
  heard_steps (Some (Loan j q m k v)) mem =
      cond_both (eqb j i) _ (turned_away B.volatile) Kept
      (λ e. let f = (G.formed _ (mem _ refl)).0 in loan_steps q m k v (subst (λ (x : ℕ). x < 32) (eqb-true j i e) f.0) f.1 (subst (λ (x : ℕ). Memᴰ (Loan x q m k v) ms) (eqb-true j i e) (mem _ refl)))
      (λ e. idle S r ms G i awake _ _ _)
  heard_steps (Some (Write j q n v)) mem = idle S r ms G i awake _ _ _
  heard_steps (Some (In j q n)) mem = cond_both (eqb j i) _ (turned_away B.volatile) Kept (λ e. idle S r ms G i awake _ _ _) (λ e. idle S r ms G i awake _ _ _)
  heard_steps (Some (Void j q n)) mem = cond_both (eqb j i) _ (turned_away B.volatile) Kept (λ e. idle S r ms G i awake _ _ _) (λ e. idle S r ms G i awake _ _ _)
  heard_steps (Some (Recall j q)) mem =
      cond_both (eqb j i) (rules.recalled j q B.durable B.volatile) (turned_away B.volatile) Kept
      (λ e. let f = G.formed _ (mem _ refl) in
      subst (λ (x : ℕ). Kept (rules.recalled x q B.durable B.volatile)) (sym (eqb-true j i e))
      (one_part S r ms G i awake q (subst (λ (x : ℕ). x < 32) (eqb-true j i e) f.0) f.1 _ B.volatile.copies (record nothing { sends = Back i q (B.volatile.parts q).ask ∷ [] }) (recall_inv S w r.past ms r.applied G.inv i q _ (subst (λ (x : ℕ). x < 32) (eqb-true j i e) f.0) f.1)))
      (λ e. idle S r ms G i awake _ _ _)
  heard_steps (Some (Back j q n)) mem = idle S r ms G i awake _ _ _

-- a message sends no write
module _ (i : ℕ) (d : Durable) (v : Volatile) (m : Msg) (is : WriteOf m) where
  abbrev Quiet : Volatile × Effect → Type 0
  Quiet x = Memᴰ m x.1.sends → ⊥

  back_none : (j q n : ℕ) → Memᴰ m (Back j q n ∷ []) → ⊥
  back_none j q n h = subst WriteOf (Memᴰ.eq_of_singleton h) is

  pub heard_none : (o : Option Msg) → Quiet (heard i (for_borrower o) d v)
  heard_none None h = elim h [ ]
  heard_none (Some (Ask j q n k l)) h = elim h [ ]
  heard_none (Some (Loan j q n k b)) h = cond_both (eqb j i) (rules.lent q b (loan_of n k (v.parts q)) d v) (turned_away v) Quiet (λ e z. elim z [ ]) (λ e z. elim z [ ]) h
  heard_none (Some (Write j q n b)) h = elim h [ ]
  heard_none (Some (In j q n)) h = cond_both (eqb j i) _ (turned_away v) Quiet (λ e z. elim z [ ]) (λ e z. elim z [ ]) h
  heard_none (Some (Void j q n)) h = cond_both (eqb j i) _ (turned_away v) Quiet (λ e z. elim z [ ]) (λ e z. elim z [ ]) h
  heard_none (Some (Recall j q)) h = cond_both (eqb j i) (rules.recalled j q d v) (turned_away v) Quiet (λ e z. back_none j q _ z) (λ e z. elim z [ ]) h
  heard_none (Some (Back j q n)) h = elim h [ ]
