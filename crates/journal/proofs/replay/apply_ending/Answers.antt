use Rattle.std.proofs.Common.{subst}
use Rattle.journal.specs.Records.{Rec}
use Rattle.journal.proofs.Turns.{no_part, too_short}
use Rattle.journal.proofs.replay.apply_ending.Goals as goal

pub returns-in-None : goal.returns-in-None
returns-in-None g c =
    let P : Rec → Type 0 = λ r. g.R.Journaled.becomes c.args.into.now r c.apply-in-None.new.self in
    let l = too_short c.args.bytes.now c.args.end c.in-None.ensures in
    subst P (no_part _ _ c.args.«record» c.requires.formed l) c.apply-in-None.ensures
