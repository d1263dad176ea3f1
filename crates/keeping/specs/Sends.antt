-- What only sends.
use Rattle.std.specs.Prelude.{◌≡◌, List, map}
use Rattle.message.specs.Format.{Msg, layout}
use Rattle.machine.specs.declared.effects.Effects.{Effects}
use Rattle.machine.specs.Outboxes.{Sent}

-- these messages more are sent, and no more comes of it
pub record Sends (ms : List Msg) (out out' : Effects) : Type 0 where
  pub messages : Sent out.sends out'.sends (map layout ms)
  pub rest : out' ≡ record out { sends = out'.sends }
