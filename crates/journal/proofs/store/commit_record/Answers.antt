use Rattle.std.proofs.Common.{rules}
use Rattle.journal.proofs.Saves.{grown_synced}
use Rattle.journal.proofs.store.commit_record.Goals as goal

pub returns : goal.returns
returns g c = search (rules, grown_synced)
