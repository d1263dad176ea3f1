use Rattle.std.proofs.Common.{rules}
use Rattle.capi.specs.Handles.{held}
use Rattle.capi.proofs.Behind.{keeper_behind}
use Rattle.capi.proofs.handle.Handle.keeper_receive.Goals as goal

pub returns : goal.returns
returns c =
    keeper_behind c.args.clock c.args.message.now c.in_ok-machine.machine.value c.keeper_receive-result.new.self (held c.args.self.now) (held c.put_back.new.self)
    c.keeper_receive-result.result c.args.filed.now c.keeper_receive-result.new.filed c.args.sent.now c.keeper_receive-result.new.sent
    (search rules) (search rules) (search rules)
