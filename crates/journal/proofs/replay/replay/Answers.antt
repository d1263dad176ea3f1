use Rattle.std.proofs.Common.{sym, ◌∙◌}
use Rattle.journal.proofs.Readers.{within_more, given, passed_over}
use Rattle.journal.proofs.Turns.{leading_more, leading_end}
use Rattle.journal.proofs.replay.replay.Goals as goal

pub apply_ending-requires : goal.apply_ending-requires
apply_ending-requires g c =
    let s = given c.args.owner c.args.bytes.now c.loop-entry.at c.next_record.result c.in-Some.entry c.next_record.ensures c.in-Some.ensures in
    record {
      within = (within_more c.args.owner c.args.bytes.now c.loop-entry.at _ _ c.loop-entry.invariant.0 s).1;
      formed = s.sound.0;
    }

pub loop-entry-preserved : goal.loop-entry-preserved
loop-entry-preserved g c =
    leading_more g.R.Journaled.becomes c.args.owner c.args.bytes.now c.args.into.now c.loop-entry.into c.apply_ending.new.into _ _ _
    c.loop-entry.invariant (given c.args.owner c.args.bytes.now c.loop-entry.at c.next_record.result c.in-Some.entry c.next_record.ensures c.in-Some.ensures) c.apply_ending.ensures

pub returns : goal.returns
returns g c = (
  c.in_ok-size.ensures,
  leading_end g.R.Journaled.becomes c.args.owner c.args.bytes.now _ c.loop-entry.into _ c.loop-entry.invariant
      (passed_over _ c.args.bytes.now _ c.next_record.result c.next_record.ensures (sym c.in_default.is ∙ c.unwrap_or.ensures)),
)
