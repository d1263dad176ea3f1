-- What a step of a borrower makes of the world, from what it leaves of the borrowers and what it sends.
-- Assumes nothing.
use Rattle.std.proofs.Common.{◌≡◌, ℕ, suc, ◌<◌, Bool, true, false, if◌then◌else◌, List, ◌++◌, map, length, Some, None, Result, refl, arith}
use Rattle.std.proofs.lemmas.Bool.{lt-ltb, eq-eqb}
use Rattle.part.specs.Parts.{at_1}
use Rattle.message.specs.declared.refusal.Refusal.{Refusal}
use Rattle.message.specs.Format.{Msg, layout}
use Rattle.borrower.specs.declared.outcome.Call.{Call}
use Rattle.world.specs.World.{World, Borrower, call, deliver, borrower, can_call, after_call, call_effect, after_heard, borrower_effect, cut, step}
use Rattle.site.specs.declared.seen.Answer.TheVariants.{Given, Down, Stopped}
use Rattle.site.specs.declared.event.Borrower.{Borrower as Who}
use Rattle.site.specs.declared.event.Borrower.TheVariants.{Zero, One, Two, Three}
use Rattle.site.specs.Nodes.{borrower_number}
use Rattle.site.specs.FourBorrowers.{CalledTorn}
use Rattle.site.specs.Worlds.{answer_to, told_of}

-- the world with other borrowers and with this sent
abbrev pub with_both : World → (short : ℕ) → (ℕ → Borrower) → List (List ℕ) → World
with_both w s bs ms = record { now = w.now; short = s; keeper = w.keeper; borrower = bs; sent = ms }

pub few : (b : Who) → borrower_number b < 32
few Zero = omega arith
few One = omega arith
few Two = omega arith
few Three = omega arith

module _ (w : World) (i : ℕ) where
  module _ (q : ℕ) (x : Call) (v : List ℕ) (few : i < 32) (here : q < 16384) (long : length v ≡ 1024) where
    pub can : (w.borrower i).up ≡ true → can_call i q v w ≡ true
    can e = simp (e, lt-ltb i 32 few, lt-ltb q 16384 here, eq-eqb (length v) 1024 long)

    pub called : (w.borrower i).up ≡ true → (s : ℕ) (bs : ℕ → Borrower) (ms : List (List ℕ)) → s ≡ w.short → bs ≡ at_1 i (after_call i q x v w) w.borrower
        → ms ≡ w.sent ++ map layout (call_effect i q x v w).sends → with_both w s bs ms ≡ step w (call i q x v None)
    called u s bs ms h e f = rw (can u) (rw h (rw e (rw f refl)))

    -- of a call in whose midst it stops, whether it was up or not
    pub called_torn : (n s : ℕ) (bs : ℕ → Borrower) (b : Bool) → s ≡ w.short → CalledTorn w.short w.borrower bs i (w.now.hand (suc i)) q x n b
        → (with_both w s bs w.sent ≡ step w (call i q x v (Some n))) × ((if b then Stopped else Down) ≡ answer_to w (call i q x v (Some n)))
    called_torn n s bs false h (u, e) = (rw u (rw h (rw e refl)), rw u refl)
    called_torn n s bs true h (u, e) = (rw (can u) (rw h (rw (e v) refl)), rw u refl)

    pub answered : (w.borrower i).up ≡ true → (a : Result (Unit {0}) Refusal) → a ≡ (call_effect i q x v w).answer → Given a ≡ answer_to w (call i q x v None)
    answered u a e = rw u (rw e refl)

  module _ (m n : ℕ) (up : (w.borrower i).up ≡ true) where
    pub heard : (s : ℕ) (bs : ℕ → Borrower) (ms : List (List ℕ)) → s ≡ w.short → bs ≡ at_1 i (after_heard i (cut m n w) w) w.borrower
        → ms ≡ w.sent ++ map layout (borrower_effect i (cut m n w) w).sends → with_both w s bs ms ≡ step w (deliver m n (borrower i) None)
    heard s bs ms h e f = rw up (rw h (rw e (rw f refl)))

    pub heard_answer : (a : Result (Unit {0}) Refusal) → a ≡ (borrower_effect i (cut m n w) w).answer → Given a ≡ answer_to w (deliver m n (borrower i) None)
    heard_answer a e = rw up (rw e refl)

    pub heard_told : (ms : List Msg) → ms ≡ (borrower_effect i (cut m n w) w).tells → ms ≡ told_of w (deliver m n (borrower i) None)
    heard_told ms e = rw up e
