use Rattle.std.proofs.Common.{◌≡◌, ◌++◌, map, drop}
use Rattle.message.specs.Format.{layout}
use Rattle.lender.specs.Rules.{recalls}
use Rattle.site.specs.Networks.{sent_of}
use Rattle.site.proofs.network.Network.send_recalls.Given as goal

abbrev pub invariant-loop-id : goal.invariant-loop-id
invariant-loop-id l = sent_of l.self ++ map layout (recalls l.place.at l.id (drop l.id l.by)) ≡ sent_of l.initial.self ++ map layout (recalls l.place.at 0 l.by)
