use Rattle.std.proofs.Common.{rules}
use Rattle.message.proofs.Readers.{down_read, other_down}
use Rattle.message.proofs.to_borrower.ToBorrower.read.Goals as goal

pub returns-in-2 : goal.returns-in-2
returns-in-2 c = down_read c.args.bytes.now 2 _ (search rules) (search rules) c.loan.ensures

pub returns-in-4 : goal.returns-in-4
returns-in-4 c = down_read c.args.bytes.now 4 _ (search rules) (search rules) c.applied.ensures

pub returns-in-5 : goal.returns-in-5
returns-in-5 c = down_read c.args.bytes.now 5 _ (search rules) (search rules) c.void.ensures

pub returns-in-6 : goal.returns-in-6
returns-in-6 c = down_read c.args.bytes.now 6 _ (search rules) (search rules) c.recall.ensures

pub returns-in_default : goal.returns-in_default
returns-in_default c =
    other_down c.args.bytes.now (λ l. search rules) (λ l. search rules) (λ l. search rules) (λ l. search rules)
