use Rattle.std.proofs.Common.{rules}
use Rattle.message.proofs.Readers.{up_read, other_up}
use Rattle.message.proofs.to_keeper.ToKeeper.read.Goals as goal

pub returns-in-1 : goal.returns-in-1
returns-in-1 c = up_read c.args.bytes.now 1 _ (search rules) (search rules) c.ask.ensures

pub returns-in-3 : goal.returns-in-3
returns-in-3 c = up_read c.args.bytes.now 3 _ (search rules) (search rules) c.write.ensures

pub returns-in-7 : goal.returns-in-7
returns-in-7 c = up_read c.args.bytes.now 7 _ (search rules) (search rules) c.back.ensures

pub returns-in_default : goal.returns-in_default
returns-in_default c = other_up c.args.bytes.now (λ l. search rules) (λ l. search rules) (λ l. search rules)
