use Rattle.std.proofs.Common.{◌∙◌}
use Rattle.startup.proofs.Prints.{one_sent, all_sent}
use Rattle.startup.proofs.print.sends.Goals as goal

pub loop-size-preserved : goal.loop-size-preserved
loop-size-preserved c =
    one_sent _ _ _ _ _ _ _ _ c.loop-size-test.true c.min.ensures c.split_at.ensures.front c.split_at.ensures.back c.in_ok-message.ensures ∙ c.loop-size.invariant

pub returns : goal.returns
returns c = all_sent _ _ _ _ c.loop-size-test.false ∙ c.loop-size.invariant
