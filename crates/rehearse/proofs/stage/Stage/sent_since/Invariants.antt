use Rattle.std.proofs.Common.{◌≡◌}
use Rattle.lines.specs.Outputs.{printed}
use Rattle.site.specs.Worlds.{world_of}
use Rattle.rehearse.proofs.Sents.{left}
use Rattle.rehearse.proofs.stage.Stage.sent_since.Given as goal

abbrev pub invariant-loop-index : goal.invariant-loop-index
invariant-loop-index l = left (printed l.out) (world_of l.self.rehearsal.site).sent l.index ≡ left (printed l.initial.out) (world_of l.self.rehearsal.site).sent l.from
