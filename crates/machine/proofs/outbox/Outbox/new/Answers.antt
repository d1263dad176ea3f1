use Rattle.std.proofs.Common.{ℕ, List, ap, ◌∙◌}
use Rattle.machine.specs.Outboxes.{cut_by}
use Rattle.machine.proofs.Cuts.{no_messages}
use Rattle.machine.proofs.outbox.Outbox.new.Goals as goal

pub returns-clause-sent : goal.returns-clause-sent
returns-clause-sent c =
    ap (λ (ns : List ℕ). cut_by ns c.new.result.bytes.items) c.new-2.ensures.items ∙ no_messages _
