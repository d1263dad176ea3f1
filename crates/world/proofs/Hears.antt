-- A borrower's calls and messages, whole or torn, keep the whole invariant.
-- Assumes nothing.
use Rattle.std.proofs.Common.{◌≡◌, ℕ, suc, ◌<◌, Bool, true, false, cond, ◌&&◌, eqb, ltb, List, [], ◌∷◌, ◌++◌, length, Some, None, Ok, Option, sym, refl, subst, arith}
use mathlib.Core.List.{Memᴰ}
use Rattle.std.proofs.lemmas.Bool.{eqb-true, ltb-true, and_parts}
use Rattle.part.specs.Parts.{at_1}
use Rattle.message.specs.declared.kind.Kind.{Kind}
use Rattle.message.specs.Format.{Msg, Ask, Loan, Write, In, Void, Recall, Back}
use Rattle.journal.specs.Records.{bytes_of}
use Rattle.borrower.specs.declared.hold.Part.{Part}
use Rattle.borrower.specs.declared.hold.OnFile.{OnFile}
use Rattle.borrower.specs.declared.outcome.Call.{Call}
use Rattle.borrower.specs.declared.outcome.Call.TheVariants as call
use Rattle.borrower.specs.Steps.{released, loan_of}
use Rattle.borrower.specs.Outcomes.{Effect, call_part, lent_part, taken, told, turned_away, step_effect, filed_after, heard_effect, heard_parts, heard_filed, heard_copies}
use Rattle.borrower.specs.Outcomes.{records_of as numbers_due}
use Rattle.borrower.specs.Used.{Near, on_file}
use Rattle.borrower.proofs.Used.{covered, Small}
use Rattle.world.specs.World.{World, Borrower, with_borrower, with_sent, borrower_down, torn_file, can_call, after_call}
use Rattle.world.specs.World as world
use Rattle.world.specs.Runs.{Run}
use Rattle.world.proofs.Inv.{Setting, Inv}
use Rattle.world.proofs.View.{view, stepped}
use Rattle.world.proofs.Calls.{still, ask_inv, write_inv, forget_inv, recall_inv, loan_inv}
use Rattle.world.proofs.Good.{Good, on, idle_good, idle_torn, step_good, step_torn}
use Rattle.world.proofs.Wire.{near_small, call_formed}

-- what it takes to be called
pub record Callable (w : World) (i q : ℕ) (v : List ℕ) : Type 0 where
  pub awake : (w.borrower i).up ≡ true
  pub few : i < 32
  pub here : q < 16384
  pub long : length v ≡ 1024

pub callable : (w : World) (i q : ℕ) (v : List ℕ) → can_call i q v w ≡ true → Callable w i q v
callable w i q v e =
    let a = and_parts (w.borrower i).up (ltb i 32 && (ltb q 16384 && eqb (length v) 1024)) e in
    let b = and_parts (ltb i 32) (ltb q 16384 && eqb (length v) 1024) a.1 in
    let d = and_parts (ltb q 16384) (eqb (length v) 1024) b.1 in
    record { awake = a.0; few = ltb-true i 32 b.0; here = ltb-true q 16384 d.0; long = eqb-true (length v) 1024 d.1 }

small_of : (g : OnFile) (p : Part) → Near g p → Small p
small_of g p n = let z = near_small g p n in (n.ask_last, omega (arith, n.write, z.1))

module _ (S : Setting) (r : Run) (ms : List Msg) (G : Good S r ms) (i : ℕ) (awake : (r.world.borrower i).up ≡ true) where
  abbrev w : World
  w = r.world

  abbrev B : Borrower
  B = w.borrower i

  abbrev c : ℕ
  c = w.now.hand (suc i)

  -- CALLS
  module _ (q : ℕ) (v : List ℕ) (few : i < 32) (here : q < 16384) (long : length v ≡ 1024) where
    near : (k : Call) → Near (on_file (B.parts q) (B.filed q) (call_part c w.short k (B.parts q))) (call_part c w.short k (B.parts q))
    near k = (covered.call i q v c w.short k (B.parts q) (B.filed q) (G.inv.near i q)).0

    pub call_good : (k : Call) → Good S (on r (with_sent (world.call_effect i q k v w).sends (with_borrower i (after_call i q k v w) w))) (ms ++ (world.call_effect i q k v w).sends)
    call_good (call.Ask k) =
        step_good S r ms G i awake q _ (small_of _ _ (near (call.Ask k))) (near (call.Ask k)) here B.copies _ (call_formed i q v c w.short (call.Ask k) (B.parts q) (B.filed q) (G.inv.near i q) few here long)
        (ask_inv S w r.past ms r.applied G.inv i q _ c w.short k refl)
    call_good call.Show = step_good S r ms G i awake q _ (small_of _ _ (near call.Show)) (near call.Show) here B.copies [] tt (still S w r.past ms r.applied G.inv i q _ c w.short)
    call_good call.Write =
        step_good S r ms G i awake q _ (small_of _ _ (near call.Write)) (near call.Write) here B.copies _ (call_formed i q v c w.short call.Write (B.parts q) (B.filed q) (G.inv.near i q) few here long)
        (write_inv S w r.past ms r.applied G.inv i q _ c w.short v)
    call_good call.Forget = step_good S r ms G i awake q _ (small_of _ _ (near call.Forget)) (near call.Forget) here B.copies [] tt (forget_inv S w r.past ms r.applied G.inv i q _)

    pub call_torn : (k : Call) (n : ℕ) → Good S (on r (with_borrower i (borrower_down (torn_file B.file (world.call_effect i q k v w).records n)) w)) (ms ++ [])
    call_torn (call.Ask k) n = step_torn S r ms G i awake q _ (small_of _ _ (near (call.Ask k))) (near (call.Ask k)) here n
    call_torn call.Show n = step_torn S r ms G i awake q _ (small_of _ _ (near call.Show)) (near call.Show) here n
    call_torn call.Write n = step_torn S r ms G i awake q _ (small_of _ _ (near call.Write)) (near call.Write) here n
    call_torn call.Forget n = step_torn S r ms G i awake q _ (small_of _ _ (near call.Forget)) (near call.Forget) here n

  -- MESSAGES
  abbrev E : Option Msg → Effect
  E o = heard_effect i o B.parts B.filed

  -- what the borrower is after a message
  abbrev after_msg : Option Msg → Borrower
  after_msg o = record { parts = heard_parts i o B.parts; filed = heard_filed i o B.parts B.filed; copies = heard_copies i o B.parts B.copies; up = true; file = B.file ++ bytes_of (E o).records }

  -- nothing changes, whatever was told
  idle_by : (b : Bool) (m : Msg) → Good S (on r (with_sent (cond b (told m) turned_away).sends (with_borrower i (record { parts = B.parts; filed = B.filed; copies = B.copies; up = true; file = B.file ++ bytes_of (cond b (told m) turned_away).records }) w))) (ms ++ (cond b (told m) turned_away).sends)
  idle_by true m = idle_good S r ms G i awake
  idle_by false m = idle_good S r ms G i awake

  idle_torn_by : (b : Bool) (m : Msg) (n : ℕ) → Good S (on r (with_borrower i (borrower_down (torn_file B.file (cond b (told m) turned_away).records n)) w)) (ms ++ [])
  idle_torn_by true m n = idle_torn S r ms G i awake n
  idle_torn_by false m n = idle_torn S r ms G i awake n

  module _ (q m : ℕ) (k : Kind) (v : List ℕ) (here : q < 16384) where
    loan_near : Near (on_file (B.parts q) (B.filed q) (lent_part m k (B.parts q))) (lent_part m k (B.parts q))
    loan_near = covered.loan m k (B.parts q) (B.filed q) (G.inv.near i q)

    abbrev loan_effect : Bool → Effect
    loan_effect b = cond b (step_effect q (B.parts q) (B.filed q) (lent_part m k (B.parts q)) [] (loan_of m k (B.parts q)).1) turned_away

    loan_by : (b : Bool) → (b ≡ true → Memᴰ (Loan i q m k v) ms) →
        Good S (on r (with_sent (loan_effect b).sends (with_borrower i (record { parts = cond b (at_1 q (lent_part m k (B.parts q)) B.parts) B.parts; filed = cond b (filed_after q (B.parts q) (lent_part m k (B.parts q)) B.filed) B.filed; copies = cond b (taken q v (loan_of m k (B.parts q)).1 B.copies) B.copies; up = true; file = B.file ++ bytes_of (loan_effect b).records }) w))) (ms ++ (loan_effect b).sends)
    loan_by true mem = step_good S r ms G i awake q (lent_part m k (B.parts q)) (small_of _ _ loan_near) loan_near here _ [] tt (loan_inv S w r.past ms r.applied G.inv i q _ m k v (mem refl))
    loan_by false mem = idle_good S r ms G i awake

    loan_torn : (b : Bool) (n : ℕ) → Good S (on r (with_borrower i (borrower_down (torn_file B.file (loan_effect b).records n)) w)) (ms ++ [])
    loan_torn true n = step_torn S r ms G i awake q (lent_part m k (B.parts q)) (small_of _ _ loan_near) loan_near here n
    loan_torn false n = idle_torn S r ms G i awake n

  module _ (j q : ℕ) (few : j < 32) (here : q < 16384) where
    back_near : Near (on_file (B.parts q) (B.filed q) (released (B.parts q))) (released (B.parts q))
    back_near = (covered.recall (B.parts q) (B.filed q) (G.inv.near i q)).0

    abbrev filed : List ℕ
    filed = B.file ++ bytes_of (numbers_due q (B.parts q) (B.filed q) (released (B.parts q)))

    abbrev back_effect : Bool → Effect
    back_effect b = cond b (step_effect q (B.parts q) (B.filed q) (released (B.parts q)) (Back j q (B.parts q).ask ∷ []) (Ok tt)) turned_away

    recall_by : (b : Bool) → (b ≡ true → j ≡ i) →
        Good S (on r (with_sent (back_effect b).sends (with_borrower i (record { parts = cond b (at_1 q (released (B.parts q)) B.parts) B.parts; filed = cond b (filed_after q (B.parts q) (released (B.parts q)) B.filed) B.filed; copies = B.copies; up = true; file = B.file ++ bytes_of (back_effect b).records }) w))) (ms ++ (back_effect b).sends)
    recall_by true e =
        step_good S r ms G i awake q (released (B.parts q)) (small_of _ _ back_near) back_near here B.copies (Back j q (B.parts q).ask ∷ []) ((few, here, omega (arith, (G.inv.near i q).ask_last)), tt)
        (subst (λ (x : ℕ). Inv S (view (with_borrower i (stepped S w r.past ms r.applied G.inv i q (released (B.parts q)) B.copies filed) w) r.past (ms ++ Back x q (B.parts q).ask ∷ []) r.applied)) (sym (e refl)) (recall_inv S w r.past ms r.applied G.inv i q filed))
    recall_by false e = idle_good S r ms G i awake

    recall_torn : (b : Bool) (n : ℕ) → Good S (on r (with_borrower i (borrower_down (torn_file B.file (back_effect b).records n)) w)) (ms ++ [])
    recall_torn true n = step_torn S r ms G i awake q (released (B.parts q)) (small_of _ _ back_near) back_near here n
    recall_torn false n = idle_torn S r ms G i awake n

  pub heard_good : (o : Option Msg) → ((x : Msg) → o ≡ Some x → Memᴰ x ms) → Good S (on r (with_sent (E o).sends (with_borrower i (after_msg o) w))) (ms ++ (E o).sends)
  heard_good None mem = idle_good S r ms G i awake
  heard_good (Some (Ask j q m k l)) mem = idle_good S r ms G i awake
  heard_good (Some (Loan j q m k v)) mem =
      loan_by q m k v (G.formed _ (mem _ refl)).0.1 (eqb j i) (λ e. subst (λ (x : ℕ). Memᴰ (Loan x q m k v) ms) (eqb-true j i e) (mem _ refl))
  heard_good (Some (Write j q n v)) mem = idle_good S r ms G i awake
  heard_good (Some (In j q n)) mem = idle_by (eqb j i) (In j q n)
  heard_good (Some (Void j q n)) mem = idle_by (eqb j i) (Void j q n)
  heard_good (Some (Recall j q)) mem = recall_by j q (G.formed _ (mem _ refl)).0 (G.formed _ (mem _ refl)).1 (eqb j i) (eqb-true j i)
  heard_good (Some (Back j q n)) mem = idle_good S r ms G i awake

  pub heard_torn : (o : Option Msg) → ((x : Msg) → o ≡ Some x → Memᴰ x ms) → (n : ℕ) → Good S (on r (with_borrower i (borrower_down (torn_file B.file (E o).records n)) w)) (ms ++ [])
  heard_torn None mem n = idle_torn S r ms G i awake n
  heard_torn (Some (Ask j q m k l)) mem n = idle_torn S r ms G i awake n
  heard_torn (Some (Loan j q m k v)) mem n = loan_torn q m k v (G.formed _ (mem _ refl)).0.1 (eqb j i) n
  heard_torn (Some (Write j q m v)) mem n = idle_torn S r ms G i awake n
  heard_torn (Some (In j q m)) mem n = idle_torn_by (eqb j i) (In j q m) n
  heard_torn (Some (Void j q m)) mem n = idle_torn_by (eqb j i) (Void j q m) n
  heard_torn (Some (Recall j q)) mem n = recall_torn j q (G.formed _ (mem _ refl)).0 (G.formed _ (mem _ refl)).1 (eqb j i) n
  heard_torn (Some (Back j q m)) mem n = idle_torn S r ms G i awake n
