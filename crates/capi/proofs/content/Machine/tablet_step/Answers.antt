use Rattle.std.proofs.Common.{length}
use Rattle.machine.specs.Inputs.{input_of}
use Rattle.borrowing.specs.Tablets.{terms, durable, volatile}
use Rattle.capi.proofs.Fitting.{tablet_room}
use Rattle.capi.proofs.content.Machine.tablet_step.Goals as goal

pub step-requires-clause-fits : goal.step-requires-clause-fits
step-requires-clause-fits c =
    let t = c.in-Tablet.run'.machine in
    tablet_room (terms t) c.args.clock (input_of c.args.input.now) (durable t) (volatile t) (length c.args.sent.now) c.requires.1 c.sized_input.ensures
