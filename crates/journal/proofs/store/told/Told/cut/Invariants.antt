use Rattle.std.proofs.Common.{take}
use Rattle.journal.proofs.store.told.Told.cut.Given as goal

abbrev pub ghost-next : goal.ghost-next
ghost-next a = record a._was.now { appended = take a._size a._was.now.appended; synced = take a._size a._was.now.synced }
