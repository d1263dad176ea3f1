use Rattle.std.proofs.Common.{rules}
use Rattle.std.proofs.lemmas.List.{take-append-le}
use Rattle.journal.proofs.store.memory.MemoryStore.extend.Goals as goal

pub returns : goal.returns
returns c = record { file = search rules; disk = search (rules, take-append-le) }
