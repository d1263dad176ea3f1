-- What a line of a rehearsal does.
-- Assumes nothing.
use Rattle.std.specs.Prelude.{◌≡◌, ℕ, List, length, drop, Option}
use Rattle.std.specs.Option.{option_map}
use Rattle.part.specs.declared.place.Place.{Place}
use Rattle.world.specs.World.{World}
use Rattle.site.specs.Worlds.{world_of}
use Rattle.script.specs.declared.step.Step.{Step}
use Rattle.script.specs.Scripts.{plain, step_of}
use Rattle.rehearse.specs.declared.rehearsal.Rehearsal.{Rehearsal}
use Rattle.rehearse.specs.declared.rehearsal.Said.{Said}
use Rattle.rehearse.specs.Played.{Played}
use Rattle.rehearse.specs.Prints.{sents_behind, said_behind}

-- what is printed of the messages that were sent from here to there
abbrev pub sent_between : List ℕ → (was is : World) → List ℕ
sent_between w was is = sents_behind w (length was.sent) (drop (length was.sent) is.sent)

-- the step that the line says is played; the messages that it sent are printed, and what is said of it behind them
pub record LineDone (was is : Rehearsal) (line printed_was printed_is : List ℕ) : Type 0 where
  pub step : Option (Step Place)
  pub said : Said
  pub says : option_map plain step ≡ step_of line
  pub played : Played was is step said
  pub prints : printed_is ≡ said_behind (sent_between printed_was (world_of was.site) (world_of is.site)) said
