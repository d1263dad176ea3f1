-- A step of a site is a step of the run that led to it.
-- Assumes nothing.
use Rattle.std.proofs.Common.{◌≡◌, ℕ, List, ◌∷◌, [], Ok, Err, Result, refl, sym, ap, ◌∙◌, subst}
use Rattle.clock.specs.Moments.{Moment}
use Rattle.clock.specs.declared.clocks.Clocks.{Clocks}
use Rattle.std.specs.Prelude.{OnOk}
use Rattle.clock.specs.declared.clocks.NoPass.{NoPass}
use Rattle.clock.specs.declared.terms.Terms.{Terms}
use Rattle.clock.specs.Clocks.{Stands, Passed, Outcome, passing, present}
use Rattle.world.specs.World.{World, tick, step, first_world}
use Rattle.world.specs.Runs.{past_by, run, start}
use Rattle.site.specs.declared.event.Event.{Event as CodeEvent}
use Rattle.site.specs.declared.event.Event.TheVariants.{Call, Deliver, Stop, Up}
use Rattle.site.specs.declared.site.Site.{Site}
use Rattle.site.specs.Worlds.{world_of, event_of}
use Rattle.site.specs.Led.{run_of, Led, Onward}

-- only a tick makes the present moment an earlier one
no_time : (w : World) (e : CodeEvent) (ms : List Moment) → past_by w (event_of e) ms ≡ ms
no_time w (Call b p c v t) ms = refl
no_time w (Deliver m n x t) ms = refl
no_time w (Stop x) ms = refl
no_time w (Up x) ms = refl

pub onward : (was is : Site) (e : CodeEvent) → world_of is ≡ step (world_of was) (event_of e) → is.clocks ≡ was.clocks → Onward was is (event_of e)
unfolding run
onward was is e world clocks m es led =
    let r = run_of was m es in
    let leads : step r.world (event_of e) ≡ world_of is = ap (λ (w : World). step w (event_of e)) led.leads ∙ sym world in
    record {
      leads = ap (λ (c : Clocks). step (run (start c.terms.short c.terms.long m) es).world (event_of e)) clocks ∙ leads;
      stands = rw (no_time (run_of is m es).world e (run_of is m es).past) (rw clocks led.stands);
    }

onward_tick : (was is : Site) (t : ℕ) (by : List ℕ) → world_of is ≡ step (world_of was) (tick (passing t by)) → Passed t by was.clocks is.clocks → Onward was is (tick (passing t by))
unfolding run
onward_tick was is t by world passed m es led =
    let r = run_of was m es in
    let e = tick (passing t by) in
    record {
      leads = ap (λ (c : Terms). step (run (start c.short c.long m) es).world e) passed.terms ∙ ap (λ (w : World). step w e) led.leads ∙ sym world;
      stands =
          subst (λ (c : Terms). Stands is.clocks (run (start c.short c.long m) (e ∷ es)).past) (sym passed.terms)
          (subst (λ (x : Moment). Stands is.clocks (x ∷ r.past)) (sym (ap (λ (w : World). w.now) led.leads)) (passed.stands r.past led.stands));
    }

-- the world at another moment
abbrev pub at_moment : Moment → World → World
at_moment m w = record { now = m; short = w.short; keeper = w.keeper; borrower = w.borrower; sent = w.sent }

pub ticked : (was is : Site) (t : ℕ) (by : List ℕ) (r : Result (Unit {0}) NoPass) → world_of is ≡ at_moment (present is.clocks) (world_of was) → Outcome t by was.clocks is.clocks r
    → OnOk r (Onward was is (tick (passing t by)))
ticked was is t by (Ok u) same passed = onward_tick was is t by (same ∙ ap (λ (m : Moment). at_moment m (world_of was)) passed.is) passed
ticked was is t by (Err e) same h = tt

-- at first no event has led anywhere
pub at_first : (s : Site) (t : Terms) (m : Moment) → world_of s ≡ first_world t.short t.long m → s.clocks.terms ≡ t → Stands s.clocks [] → Led s m []
unfolding run
at_first s t m world terms stands =
    record { leads = ap (λ (c : Terms). first_world c.short c.long m) terms ∙ sym world; stands = stands }
