use Rattle.std.proofs.Common.{rules}
use Rattle.journal.proofs.Saves.{take_less}
use Rattle.journal.proofs.store.memory.MemoryStore.cut.Goals as goal

pub returns : goal.returns
returns c = record { file = c.truncate.ensures.items; disk = search (rules, take_less) }
