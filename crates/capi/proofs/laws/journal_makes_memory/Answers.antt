use Rattle.capi.proofs.Hosts.{hosted}
use Rattle.capi.proofs.laws.journal_makes_memory.Goals as goal

pub returns : goal.returns
returns c = hosted
