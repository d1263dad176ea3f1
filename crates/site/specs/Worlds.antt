-- What a site is in the world, and what is seen of each event.
-- Assumes nothing.
use Rattle.std.specs.Prelude.{◌≡◌, ℕ, ◌+◌, ◌^◌, Bool, cond, List, [], Some, None, Ok, Err, Option, Result, nat_le}
use Rattle.message.specs.declared.refusal.Refusal.{Refusal}
use Rattle.message.specs.declared.refusal.Refusal.TheVariants.{Malformed, Exhausted}
use Rattle.message.specs.Format.{Msg}
use Rattle.clock.specs.declared.clocks.NoPass.{NoPass}
use Rattle.clock.specs.Clocks.{present, passing, Passed, Reason}
use Rattle.borrower.specs.Outcomes.{sent_by}
use Rattle.world.specs.World as world
use Rattle.world.specs.World.{World, Event, tick, call, deliver, stop, up, step, is_up, long_of, call_effect, keeper_effect, borrower_effect, cut}
use Rattle.site.specs.declared.event.Event.{Event as CodeEvent}
use Rattle.site.specs.declared.event.Event.TheVariants as code
use Rattle.site.specs.declared.event.Node.{Node}
use Rattle.site.specs.declared.event.Node.TheVariants.{Keeper, Borrower}
use Rattle.site.specs.declared.seen.Answer.{Answer}
use Rattle.site.specs.declared.seen.Answer.TheVariants.{Given, Down, Stopped}
use Rattle.site.specs.declared.seen.Seen.{Seen}
use Rattle.site.specs.declared.site.Site.{Site}
use Rattle.site.specs.Nodes.{borrower_number}
use Rattle.site.specs.Networks.{sent_of}
use Rattle.site.specs.OneKeeper.{lender_of}
use Rattle.site.specs.FourBorrowers.{borrowers_of}

abbrev pub world_of : Site → World
world_of s =
    record { now = present s.clocks; short = s.borrowers.short; keeper = lender_of s.keeper; borrower = borrowers_of s.borrowers; sent = sent_of s.network }

-- somebody of the code, in the world
abbrev pub node_of : Node → world.Node
node_of Keeper = world.keeper
node_of (Borrower b) = world.borrower (borrower_number b)

-- an event of the code, in the world
abbrev pub event_of : CodeEvent → Event
event_of (code.Call b p c v t) = call (borrower_number b) p.at c v t
event_of (code.Deliver m n x t) = deliver m n (node_of x) t
event_of (code.Stop x) = stop (node_of x)
event_of (code.Up x) = up (node_of x)

-- WHAT IS SEEN of an event in a world: what the writer is told, and the answer

-- the answer of somebody who is up; one that stops in the midst gives none
abbrev pub given : Result (Unit {0}) Refusal → (torn : Option ℕ) → Answer
given r None = Given r
given r (Some n) = Stopped

abbrev pub of_one_up : (up : Bool) → Answer → Answer
of_one_up b a = cond b a Down

-- only its grace period can keep the keeper from coming up
abbrev pub rise_answer : world.Node → World → Result (Unit {0}) Refusal
rise_answer world.keeper w = cond (nat_le (2 ^ 64) (w.now.hand 0 + long_of w)) (Err Exhausted) (Ok tt)
rise_answer (world.borrower i) w = Ok tt

abbrev pub answer_to : World → Event → Answer
answer_to w (tick p) = Given (Ok tt)
answer_to w (call i q c v t) = of_one_up (w.borrower i).up (given (call_effect i q c v w).answer t)
answer_to w (deliver m n world.keeper t) = of_one_up w.keeper.up (given (keeper_effect (cut m n w) w).answer t)
answer_to w (deliver m n (world.borrower i) t) = of_one_up (w.borrower i).up (given (borrower_effect i (cut m n w) w).answer t)
answer_to w (stop x) = Given (cond (is_up x w) (Ok tt) (Err Malformed))
answer_to w (up x) = Given (cond (is_up x w) (Err Malformed) (rise_answer x w))

-- a borrower that is up and doesn't stop tells what became of a write
abbrev pub telling : (up : Bool) → (torn : Option ℕ) → List Msg → List Msg
telling b None ms = cond b ms []
telling b (Some n) ms = []

abbrev pub told_of : World → Event → List Msg
told_of w (tick p) = []
told_of w (call i q c v t) = []
told_of w (deliver m n world.keeper t) = []
told_of w (deliver m n (world.borrower i) t) = telling (w.borrower i).up t (borrower_effect i (cut m n w) w).tells
told_of w (stop x) = []
told_of w (up x) = []

-- an event makes this of the world, and this is seen of it
pub record Plays (was is : Site) (e : Event) (s : Seen) : Type 0 where
  pub world : world_of is ≡ step (world_of was) e
  pub clocks : is.clocks ≡ was.clocks
  pub answer : s.answer ≡ answer_to (world_of was) e
  pub told : sent_by [] s.told ≡ told_of (world_of was) e

-- letting time pass is the event of a tick, where every clock keeps within its error; elsewhere nothing has changed, and rightly
abbrev pub Ticks : (was is : Site) (time : ℕ) (by : List ℕ) → Result (Unit {0}) NoPass → Type 0
Ticks was is t by (Ok u) = (world_of is ≡ step (world_of was) (tick (passing t by))) × Passed t by was.clocks is.clocks
Ticks was is t by (Err why) = (is ≡ was) × Reason t by was.clocks why
