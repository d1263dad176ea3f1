-- What a line of the script does to a rehearsal, and what is printed of it.
-- Assumes nothing.
use Rattle.std.specs.Prelude.{◌≡◌, ℕ, ◌-◌, true, false, cond, ◌&&◌, List, [], ◌∷◌, length, replicate, Some, None, MatchBool, MatchOption, Ok, Err, Option, Result, is_ok, OnOk, nat_le, slice_index, slice_index_or}
use Rattle.part.specs.declared.place.Place.{Place}
use Rattle.message.specs.declared.refusal.Refusal.{Refusal}
use Rattle.message.specs.declared.refusal.Refusal.TheVariants.{Malformed}
use Rattle.message.specs.Reading.{read}
use Rattle.clock.specs.declared.terms.Terms.{Terms}
use Rattle.clock.specs.declared.clocks.NoPass.{NoPass}
use Rattle.clock.specs.Clocks.{moment, passing}
use Rattle.borrower.specs.declared.outcome.Call.{Call}
use Rattle.borrower.specs.declared.outcome.Call.TheVariants as what
use Rattle.world.specs.World.{World, Event, tick, call, deliver, up, stop}
use Rattle.site.specs.declared.event.Node.{Node}
use Rattle.site.specs.declared.seen.Answer.TheVariants as answer
use Rattle.site.specs.declared.seen.Seen.{Seen as Sight}
use Rattle.site.specs.declared.seen.Shown.{Shown as View}
use Rattle.site.specs.Nodes.{borrower_number, receiver_of}
use Rattle.site.specs.Worlds.{world_of, node_of, Plays, Ticks}
use Rattle.site.specs.Led.{Led, Onward}
use Rattle.site.specs.Shows.{show_of, Shows, Fresh}
use Rattle.script.specs.declared.step.Act.{Act}
use Rattle.script.specs.declared.step.Act.TheVariants as act
use Rattle.script.specs.declared.step.Step.{Step}
use Rattle.script.specs.declared.step.Step.TheVariants as step
use Rattle.rehearse.specs.declared.rehearsal.Rehearsal.{Rehearsal}
use Rattle.rehearse.specs.declared.rehearsal.Said.{Said}
use Rattle.rehearse.specs.declared.rehearsal.Said.TheVariants.{Nothing, Anew, Seen, Shown}

-- only an answer; refused by 1
abbrev pub only : Result (Unit {0}) Refusal → Said
only r = Seen (record { told = None; answer = answer.Given r })

abbrev pub refused : Said
refused = only (Err Malformed)

-- at the true time 0, with these readings; nothing has happened yet
pub record AtFirst (t : Terms) (hands : List ℕ) (r : Rehearsal) : Type 0 where
  pub led : Led r.site (moment 0 hands) []
  pub judged_by : r.site.clocks.terms ≡ t
  pub terms : r.terms ≡ t

-- a rehearsal as at first
abbrev pub Started : Terms → (hands : List ℕ) → Rehearsal → Type 0
Started t hands r = AtFirst t hands r × (r.begun ≡ false)

-- the first line says what the clocks show
abbrev pub SetTo : (was is : Rehearsal) (keeper : ℕ) (borrowers : List ℕ) → Said → Type 0
SetTo was is k bs said =
    MatchBool was.begun ((is ≡ was) × (said ≡ refused))
    (AtFirst was.terms (k ∷ slice_index bs 0 ∷ slice_index bs 1 ∷ slice_index bs 2 ∷ slice_index bs 3 ∷ []) is × (is.begun ≡ true) × (said ≡ only (Ok tt)))

-- time goes on, exactly where every clock stays within its error
abbrev pub Ticked : (was is : Rehearsal) (time : ℕ) (by : List ℕ) → Said → Type 0
Ticked was is t by said =
    (is.begun ≡ true) × (is.terms ≡ was.terms)
    × ((r : Result (Unit {0}) NoPass) × Ticks was.site is.site t by r × OnOk r (Onward was.site is.site (tick (passing t by))) × (said ≡ only (cond (is_ok r) (Ok tt) (Err Malformed))))

-- an event happens
pub record EventPlayed (was is : Rehearsal) (e : Event) (said : Said) : Type 0 where
  pub begun : is.begun ≡ true
  pub terms : is.terms ≡ was.terms
  pub seen : Sight
  pub says : said ≡ Seen seen
  pub plays : Plays was.site is.site e seen
  pub onward : Onward was.site is.site e

-- a borrower shows a part, beside what the keeper has: what is shown is fresh
pub record ShowPlayed (was is : Rehearsal) (who place : ℕ) (said : Said) : Type 0 where
  pub begun : is.begun ≡ true
  pub terms : is.terms ≡ was.terms
  pub clocks : is.site.clocks ≡ was.site.clocks
  pub shown : View
  pub kept : List ℕ
  pub says : said ≡ Shown shown kept
  pub shows : Shows (world_of was.site) who place shown
  pub fresh : Fresh was.site place shown
  pub keeper : kept ≡ (world_of is.site).keeper.parts place
  pub onward : Onward was.site is.site (show_of who place)

-- the call that a line asks for, and the bytes of a write
abbrev pub called_of : Act → Call × List ℕ
called_of (act.Ask k) = (what.Ask k, replicate 1024 0)
called_of act.Show = (what.Show, replicate 1024 0)
called_of (act.Write v) = (what.Write, v)
called_of act.Forget = (what.Forget, replicate 1024 0)

abbrev pub any_call : (was is : Rehearsal) (who place : ℕ) → Call × List ℕ → Option ℕ → Said → Type 0
any_call was is i q c t said = EventPlayed was is (call i q c.0 c.1 t) said

abbrev pub CallPlayed : (was is : Rehearsal) (who place : ℕ) → Act → (torn : Option ℕ) → Said → Type 0
CallPlayed was is i q (act.Ask k) t said = any_call was is i q (called_of (act.Ask k)) t said
CallPlayed was is i q act.Show None said = ShowPlayed was is i q said
CallPlayed was is i q act.Show (Some n) said = any_call was is i q (called_of act.Show) (Some n) said
CallPlayed was is i q (act.Write v) t said = any_call was is i q (called_of (act.Write v)) t said
CallPlayed was is i q act.Forget t said = any_call was is i q (called_of act.Forget) t said

-- a message by its number in a script, which counts from 1
abbrev pub index_of : World → (message : ℕ) → Option ℕ
index_of w m = cond (nat_le 1 m && nat_le m (length w.sent)) (Some (m - 1)) None

-- where it arrives: where the line says, or else where it is meant to
abbrev pub target_of : World → (index : ℕ) → Option Node → Option Node
target_of w m None = receiver_of (read (slice_index_or w.sent m []))
target_of w m (Some x) = Some x

-- nothing happens, and the line is refused by 1
abbrev pub TurnedAway : (was is : Rehearsal) → Said → Type 0
TurnedAway was is said =
    (is.site ≡ was.site) × (is.terms ≡ was.terms) × (is.begun ≡ true) × (said ≡ refused)

-- so many bytes arrive, or all; no message is longer than the largest size
abbrev pub size_of : (cut : Option ℕ) → ℕ
size_of None = 18446744073709551615
size_of (Some n) = n

abbrev pub Delivered : (was is : Rehearsal) (message : ℕ) (cut : Option ℕ) (to : Option Node) (torn : Option ℕ) → Said → Type 0
Delivered was is m n x t said =
    MatchOption (index_of (world_of was.site) m) (TurnedAway was is said) (λ j.
    MatchOption (target_of (world_of was.site) j x) (TurnedAway was is said) (λ y. EventPlayed was is (deliver j (size_of n) (node_of y) t) said))

abbrev pub Played : (was is : Rehearsal) → Option (Step Place) → Said → Type 0
Played was is None said = (is ≡ was) × (said ≡ refused)
Played was is (Some step.Blank) said = (is ≡ was) × (said ≡ Nothing)
Played was is (Some (step.Set k bs)) said = SetTo was is k bs said
Played was is (Some step.Anew) said = Started was.terms (replicate 5 0) is × (said ≡ Anew)
Played was is (Some (step.Tick t by)) said = Ticked was is t by said
Played was is (Some (step.Up w)) said = EventPlayed was is (up (node_of w)) said
Played was is (Some (step.Stop w)) said = EventPlayed was is (stop (node_of w)) said
Played was is (Some (step.Call w q a k)) said = CallPlayed was is (borrower_number w) q.at a k said
Played was is (Some (step.Deliver m c w k)) said = Delivered was is m c w k said
