use Rattle.std.proofs.Common.{length}
use Rattle.keeping.specs.Keepers.{durable, volatile}
use Rattle.capi.proofs.Fitting.{keeper_room}
use Rattle.capi.proofs.content.Machine.keeper_receive.Goals as goal

pub step-requires-clause-fits : goal.step-requires-clause-fits
step-requires-clause-fits c =
    let k = c.in-Keeper.run'.machine in
    keeper_room k.long c.args.clock c.args.message.now (durable k) (volatile k) (length c.args.sent.now) c.requires.1 c.sized.ensures
