-- How a site came to be as it is: by events, the clocks within their error.
-- Assumes nothing.
use Rattle.std.specs.Prelude.{◌≡◌, List, ◌∷◌}
use Rattle.clock.specs.Moments.{Moment}
use Rattle.clock.specs.Clocks.{Stands}
use Rattle.world.specs.World.{Event}
use Rattle.world.specs.Runs.{Run, run, start}
use Rattle.site.specs.declared.site.Site.{Site}
use Rattle.site.specs.Worlds.{world_of}

-- the run of no events yet
abbrev pub first_of : Site → Moment → Run
first_of s m = start s.clocks.terms.short s.clocks.terms.long m

-- the run of these events, the newest first, from this first moment on
abbrev pub run_of : Site → Moment → List Event → Run
run_of s m es = run (first_of s m) es

-- these events have led here, and the clocks have kept within their error all the time
pub record Led (s : Site) (m : Moment) (es : List Event) : Type 0 where
  pub leads : (run_of s m es).world ≡ world_of s
  pub stands : Stands s.clocks (run_of s m es).past

-- whatever led to one site leads, with this event, to the other
abbrev pub Onward : (was is : Site) → Event → Type 0
Onward was is e = (m : Moment) (es : List Event) → Led was m es → Led is m (e ∷ es)

-- some events have led here, so that all that is promised of a run is so
pub record Reached (s : Site) : Type 0 where
  pub first : Moment
  pub events : List Event
  pub led : Led s first events
