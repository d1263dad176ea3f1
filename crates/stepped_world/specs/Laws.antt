-- What is true of every run.
use Rattle.std.specs.Prelude.{ℕ, List}
use Rattle.clock.specs.Moments.{Moment, Later, Pairs}
use Rattle.stepped_world.specs.World.{Event}
use Rattle.stepped_world.specs.Runs.{moments, run, start}

-- whatever happens, of any two moments the later one has no lower true time and no lower reading of
-- any clock
abbrev pub TimeGoesOn : Type 0
TimeGoesOn =
    (short long : ℕ) (m : Moment) (events : List Event)
    → Pairs Later (moments (run (start short long m) events))
