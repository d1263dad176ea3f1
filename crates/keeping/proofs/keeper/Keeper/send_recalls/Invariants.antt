use Rattle.std.proofs.Common.{◌≡◌, ◌++◌, false, drop, map}
use Rattle.message.specs.Format.{layout}
use Rattle.machine.specs.Outboxes.{sent}
use Rattle.keeping.specs.Rules.{recalls}
use Rattle.keeping.proofs.keeper.Keeper.send_recalls.Given as goal

abbrev pub invariant-loop-id : goal.invariant-loop-id
invariant-loop-id l = record {
  messages : l.out.sends.buffer.failed ≡ false → record {
    before : l.initial.out.sends.buffer.failed ≡ false;
    sent : sent l.out.sends ++ map layout (recalls l.place.at l.id (drop l.id l.by)) ≡ sent l.initial.out.sends ++ map layout (recalls l.place.at 0 l.by);
  };
  rest : l.out ≡ record l.initial.out { sends = l.out.sends };
}
