use Rattle.std.proofs.Common.{refl, ◌∙◌}
use Rattle.journal.proofs.Passes.{standing, passing_more, passed, passed_none}
use Rattle.journal.proofs.journaled.redo_all.Goals as goal

pub loop-entry-preserved : goal.loop-entry-preserved
loop-entry-preserved g c =
    let bs = c.args.bytes.now in let at = c.loop-entry.at in
    let s = standing c.args.owner bs at c.in-Some.entry c.in-Some.size (rw c.in-Some.is at c.in_ok-entry.ensures) in
    let i = c.loop-entry.invariant in
    record {
      passing = passing_more g.R.Journaled.redo c.args.owner bs _ _ _ at c.in-Some.size _ _ i.passing s c.apply.ensures.redone refl;
      fixed = c.apply.ensures.fixed ∙ i.fixed;
    }

pub returns-clause-redone : goal.returns-clause-redone
returns-clause-redone g c =
    passed g.R.Journaled.redo c.args.owner c.args.bytes.now _ _ c.loop-entry.at c.loop-entry.invariant.passing (rw c.in_default.is at c.in_ok-entry.ensures)

pub returns-in_err-entry-clause-redone : goal.returns-in_err-entry-clause-redone
returns-in_err-entry-clause-redone g c =
    passed_none g.R.Journaled.redo c.args.owner c.args.bytes.now _ _ c.loop-entry.at _ c.from_residual.ensures.0 c.loop-entry.invariant.passing c.in_err-entry.ensures
