use Rattle.journal.proofs.store.told.Told.sync.Given as goal

abbrev pub ghost-next : goal.ghost-next
ghost-next a = record a._was.now { synced = a._was.now.appended }
