-- The cases come out: each is computed.
use Rattle.std.proofs.Common.{refl}
use Rattle.part.specs.Parts.{blank}
use Rattle.message.specs.Reading.{read, same_bytes}
use Rattle.journal.specs.Records.{records_of, records_from}
use Rattle.lease.specs.Tables.{marks_of}
use Rattle.stepped_world.specs.Cases.{answers, AllCome, cases}

pub all_come : AllCome cases
unfolding answers records_of records_from blank read same_bytes marks_of
all_come = (refl, (refl, (refl, (refl, (refl, (refl, (refl, (refl, (refl, tt)))))))))
