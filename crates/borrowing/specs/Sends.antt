-- What a step sends.
use Rattle.std.specs.Prelude.{◌≡◌, Result, map}
use Rattle.message.specs.declared.refusal.Refusal.{Refusal}
use Rattle.message.specs.Format.{layout}
use Rattle.machine.specs.declared.effects.Effects.{Effects}
use Rattle.machine.specs.Effects.{Effect}
use Rattle.machine.specs.Outboxes.{Sent}

-- this is sent and answered, and nothing else comes of it
pub record Sends (e : Effect) (out out' : Effects) (r : Result (Unit {0}) Refusal) : Type 0 where
  pub sends : Sent out.sends out'.sends (map layout e.sends)
  pub rest : out' ≡ record out { sends = out'.sends }
  pub answer : r ≡ e.answer
