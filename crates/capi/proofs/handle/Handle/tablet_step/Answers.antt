use Rattle.std.proofs.Common.{rules}
use Rattle.machine.specs.Inputs.{input_of}
use Rattle.capi.specs.Handles.{held}
use Rattle.capi.proofs.Behind.{tablet_behind}
use Rattle.capi.proofs.handle.Handle.tablet_step.Goals as goal

pub returns : goal.returns
returns c =
    tablet_behind c.args.clock (input_of c.args.input.now) c.in_ok-machine.machine.value c.tablet_step-result.new.self (held c.args.self.now) (held c.put_back.new.self)
    c.tablet_step-result.result c.args.filed.now c.tablet_step-result.new.filed c.args.sent.now c.tablet_step-result.new.sent
    (search rules) (search rules) (search rules)
