use Rattle.std.proofs.Common.{◌++◌}
use Rattle.journal.proofs.store.told.Told.read.Given as goal

abbrev pub ghost-next : goal.ghost-next
ghost-next a = record a._was.now { appended = a._was.now.appended ++ a._bytes.now; synced = a._was.now.synced ++ a._bytes.now; found = a._was.now.found ++ a._bytes.now }
