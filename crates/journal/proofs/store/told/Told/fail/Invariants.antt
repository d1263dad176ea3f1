use Rattle.std.proofs.Common.{suc}
use Rattle.journal.proofs.store.told.Told.fail.Given as goal

abbrev pub ghost-next : goal.ghost-next
ghost-next a = record a._was.now { faults = suc a._was.now.faults }
