-- A refusal changes nothing, but for a copy that was no longer valid.
use Rattle.std.proofs.Common.{◌≡◌, ℕ, ◌+◌, Bool, true, cond, not, ◌&&◌, ◌||◌, eqb, leb, List, [], ◌∷◌, Some, None, Option, Ok, Err, Result, refl, sym, ap, inl, inr}
use mathlib.Core.Path.{fun_ext}
use Rattle.std.proofs.lemmas.Bool.{cond_both, eqb-true, eq-eqb}
use Rattle.part.specs.Parts.{at_1}
use Rattle.message.specs.declared.kind.Kind.{Kind}
use Rattle.message.specs.declared.kind.Kind.TheVariants as kind
use Rattle.message.specs.declared.refusal.Refusal.{Refusal}
use Rattle.message.specs.declared.refusal.Refusal.TheVariants.{HoldsCopy, OtherAsk, Exhausted}
use Rattle.message.specs.Format.{Msg, Ask, Loan, Write, In, Void, Recall, Back}
use Rattle.message.specs.Reading.{read}
use Rattle.message.specs.Directions.{for_borrower}
use Rattle.journal.specs.Records.{Numbers}
use Rattle.machine.specs.Effects.{Effect, refused}
use Rattle.machine.specs.Inputs.{Input, Came, Called, Reading, Call}
use Rattle.machine.specs.Inputs as call
use Rattle.borrowing.specs.declared.hold.Held.{Held}
use Rattle.borrowing.specs.declared.hold.Part.{Part}
use Rattle.borrowing.specs.declared.hold.Asked.{Asked}
use Rattle.borrowing.specs.declared.on_file.OnFile.{OnFile}
use Rattle.borrowing.specs.Parts.{passes, raised, same_kind, same_hold, same_part, released, stale, settled, holds, showing, writable, wrote, write_by, lent, loan_of}
use Rattle.borrowing.specs.Rules.{Terms, Durable, Volatile, due, leave, asks, shows, writes, asked, shown, written, called, turned_away, heard, step}
use Rattle.borrowing.specs.Rules.{lent as lend}
use Rattle.borrowing.specs.Refusals.{Refuses, RefusalsChangeNothing}

same_kind_itself : (k : Kind) → same_kind k k ≡ true
same_kind_itself kind.Reading = refl
same_kind_itself kind.Writing = refl

same_hold_itself : (h : Option Held) → same_hold h h ≡ true
same_hold_itself None = refl
same_hold_itself (Some h) = simp (same_kind_itself h.kind, eq-eqb h.asked h.asked refl)

same_itself : (p : Part) → same_part p p ≡ true
same_itself p = simp (eq-eqb p.ask p.ask refl, eq-eqb p.write p.write refl, eq-eqb p.asked p.asked refl, same_hold_itself p.hold)

-- a part that stays as it is
none_due : (q : ℕ) (p : Part) (f : OnFile) → due q p f p ≡ []
none_due q p f = ap (λ (b : Bool). cond (not b && passes f p) (Numbers q (raised f p).ask (raised f p).write ∷ []) []) (same_itself p)

at_itself : (q : ℕ) (v : Volatile) → record v { parts = at_1 q (v.parts q) v.parts } ≡ v
at_itself q v =
    ap (λ (ps : ℕ → Part). record v { parts = ps })
    (fun_ext (λ r. cond_both (eqb r q) (v.parts q) (v.parts r) (λ p. p ≡ v.parts r) (λ e. ap v.parts (sym (eqb-true r q e))) (λ e. refl)))

stays : (c s q : ℕ) (d : Durable) (v : Volatile) (e : Refusal) → Refuses c s d v (leave q (v.parts q) (refused e) d v)
stays c s q d v e =
    record { sends = refl; tells = refl; shows = refl; left = inl (record { volatile = at_itself q v; records = none_due q (v.parts q) (d q) }) }

settles : (c s q : ℕ) (d : Durable) (v : Volatile) (e : Refusal) → Refuses c s d v (leave q (settled c s (v.parts q)) (refused e) d v)
settles c s q d v e =
    cond_both (stale c s (v.parts q).hold) (released (v.parts q)) (v.parts q) (λ p. Refuses c s d v (leave q p (refused e) d v))
    (λ t. record { sends = refl; tells = refl; shows = refl; left = inr (q, record { stale = t; volatile = refl; records = refl }) })
    (λ t. stays c s q d v e)

module _ (t : Terms) (c : ℕ) (d : Durable) (v : Volatile) (why : Refusal) where
  -- where it is refused, it changes nothing
  abbrev Fine : Volatile × Effect → Type 0
  Fine x = x.1.answer ≡ Err why → Refuses c t.short d v x

  module _ (q : ℕ) where
    abbrev p1 : Part
    p1 = settled c t.short (v.parts q)

    ask_fine : (k : Kind) → Fine (asked t c q k p1 d v)
    ask_fine k =
        cond_both (holds p1.hold) (p1, Err HoldsCopy) _ M (λ e h. settles c t.short q d v HoldsCopy)
        (λ e. cond_both (leb 4294967294 p1.ask || leb 18446744073709551616 (c + t.short)) (p1, Err Exhausted) _ M (λ f h. settles c t.short q d v Exhausted) (λ f h. cc))
      where
        M : Part × Result Asked Refusal → Type 0
        M r = Fine (leave q r.0 (asks t.who q k r.1) d v)

    show_fine : Fine (shown q p1 d v)
    show_fine = go (showing p1.hold)
      where
        go : (r : Result (Unit {0}) Refusal) → Fine (leave q p1 (shows q r) d v)
        go (Ok u) = λ h. cc
        go (Err e) = λ h. settles c t.short q d v e

    write_fine : (bs : List ℕ) → Fine (written t q bs p1 d v)
    write_fine bs = go (writable p1.hold)
      where
        M : Part × Result ℕ Refusal → Type 0
        M r = Fine (leave q r.0 (writes t.who q bs r.1) d v)

        go : (r : Result (Unit {0}) Refusal) → M (write_by p1 r)
        go (Err e) = λ h. settles c t.short q d v e
        go (Ok u) = cond_both (leb 4294967295 p1.write) (p1, Err Exhausted) (wrote p1, Ok (p1.write + 1)) M (λ f h. settles c t.short q d v Exhausted) (λ f h. cc)

  called_fine : (x : Call) → Fine (called t c x d v)
  called_fine (call.Ask q k) = ask_fine q k
  called_fine (call.Show q) = show_fine q
  called_fine (call.Write q bs) = write_fine q bs
  called_fine (call.Forget q) = λ h. cc

  away : Fine (turned_away v)
  away = λ h. record { sends = refl; tells = refl; shows = refl; left = inl (record { volatile = refl; records = refl }) }

  for_it : (w i : ℕ) (x : Volatile × Effect) → Fine x → Fine (cond (eqb i w) x (turned_away v))
  for_it w i x f = cond_both (eqb i w) x (turned_away v) Fine (λ e. f) (λ e. away)

  loan_fine : (q m : ℕ) (k : Kind) (bs : List ℕ) → Fine (lend q bs (loan_of m k (v.parts q)) d v)
  loan_fine q m k bs =
      cond_both (holds (v.parts q).hold) (v.parts q, Err HoldsCopy) _ M (λ e h. stays c t.short q d v HoldsCopy)
      (λ e. cond_both (eqb m (v.parts q).ask) (lent k (v.parts q), Ok tt) (v.parts q, Err OtherAsk) M (λ f h. cc) (λ f h. stays c t.short q d v OtherAsk))
    where
      M : Part × Result (Unit {0}) Refusal → Type 0
      M r = Fine (lend q bs r d v)

  heard_fine : (w : ℕ) (o : Option Msg) → Fine (heard w o d v)
  heard_fine w (Some (Loan i q m k bs)) = for_it w i _ (loan_fine q m k bs)
  heard_fine w (Some (In i q m)) = for_it w i _ (λ h. cc)
  heard_fine w (Some (Void i q m)) = for_it w i _ (λ h. cc)
  heard_fine w (Some (Recall i q)) = for_it w i _ (λ h. cc)
  heard_fine w None = away
  heard_fine w (Some (Ask i q m k l)) = away
  heard_fine w (Some (Write i q m bs)) = away
  heard_fine w (Some (Back i q m)) = away

  step_fine : (x : Input) → Fine (step t c x d v)
  step_fine (Came bs) = heard_fine t.who (for_borrower (read bs))
  step_fine (Called x) = called_fine x
  step_fine Reading = λ h. cc

pub refusals : RefusalsChangeNothing
refusals t c x d v why = step_fine t c d v why x
