use Rattle.std.proofs.Common.{vec_items, refl, arith}
use Rattle.std.proofs.lemmas.List.{take_all}
use Rattle.journal.proofs.store.memory.MemoryStore.holding.Goals as goal

pub returns : goal.returns
returns c = record { file = refl; disk = take_all _ (vec_items c.args.bytes) (omega arith) }
