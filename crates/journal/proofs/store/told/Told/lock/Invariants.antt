use Rattle.std.proofs.Common.{true}
use Rattle.journal.proofs.store.told.Told.lock.Given as goal

abbrev pub ghost-next : goal.ghost-next
ghost-next a = record a._was.now { locked = true }
