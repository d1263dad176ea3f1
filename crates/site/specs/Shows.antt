-- What a call to show a part gives, and that it is what the newest write has left.
-- Assumes nothing.
use Rattle.std.specs.Prelude.{◌≡◌, ℕ, List, replicate, None, Ok, Err}
use Rattle.clock.specs.Moments.{Moment}
use Rattle.borrower.specs.declared.outcome.Call.TheVariants as what
use Rattle.world.specs.World.{World, Event, call}
use Rattle.world.specs.Promise.{latest}
use Rattle.site.specs.declared.seen.Answer.TheVariants as answer
use Rattle.site.specs.declared.seen.Shown.{Shown}
use Rattle.site.specs.declared.seen.Shown.TheVariants.{Copy, Refused, Down}
use Rattle.site.specs.declared.site.Site.{Site}
use Rattle.site.specs.Worlds.{world_of, answer_to}
use Rattle.site.specs.Led.{run_of, Led}

-- the call: the bytes beside it are not looked at
abbrev pub show_of : (who place : ℕ) → Event
show_of i q = call i q what.Show (replicate 1024 0) None

-- it gives the copy where the rules let it be shown
abbrev pub Shows : World → (who place : ℕ) → Shown → Type 0
Shows w i q (Copy v) = (answer_to w (show_of i q) ≡ answer.Given (Ok tt)) × (v ≡ (w.borrower i).copies q)
Shows w i q (Refused e) = answer_to w (show_of i q) ≡ answer.Given (Err e)
Shows w i q Down = answer_to w (show_of i q) ≡ answer.Down

-- whatever events led to this site, the clocks within their error: a copy that is given is what the newest write applied anywhere has
-- left of the part, and that is what the keeper has
abbrev pub Fresh : Site → (place : ℕ) → Shown → Type 0
Fresh s q (Copy v) =
    (m : Moment) (es : List Event) → Led s m es → (v ≡ latest q (run_of s m es).applied) × (v ≡ (world_of s).keeper.parts q)
Fresh s q (Refused e) = Unit {0}
Fresh s q Down = Unit {0}
