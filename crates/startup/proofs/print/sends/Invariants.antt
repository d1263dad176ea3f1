use Rattle.std.proofs.Common.{◌≡◌, ◌++◌, drop}
use Rattle.lines.specs.Outputs.{printed}
use Rattle.machine.specs.Outboxes.{cut_by, sent}
use Rattle.startup.specs.Prints.{sends_text}
use Rattle.startup.proofs.print.sends.Given as goal

abbrev pub invariant-loop-size : goal.invariant-loop-size
invariant-loop-size l =
    printed l.out ++ sends_text (cut_by (drop l.size-index l.size-items) l.rest) ≡ printed l.initial.out ++ sends_text (sent l.outbox)
