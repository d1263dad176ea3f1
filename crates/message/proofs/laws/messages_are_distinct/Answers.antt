use Rattle.message.proofs.Unique.{distinct}
use Rattle.message.proofs.laws.messages_are_distinct.Goals as goal

pub returns : goal.returns
returns c = distinct
