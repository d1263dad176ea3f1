use Rattle.std.proofs.Common.{refl, sym, ap, ◌∙◌, drop}
use Rattle.journal.specs.Windows.{left}
use Rattle.journal.proofs.Blockwise.{ahead_none, ahead_more, ahead_refused, ahead_failed}
use Rattle.journal.proofs.journaled.read_by.Goals as goal

pub loop-init : goal.loop-init
loop-init g c =
    record { all = refl; fixed = refl; ahead = ahead_none g.R.Journaled.redo c.args.owner (g.S.Source.had c.args.from.now) (g.R.Journaled.state c.args.into.now) _ c.requires }

pub returns-in_default-clause-through : goal.returns-in_default-clause-through
returns-in_default-clause-through g c =
    let f = c.in_ok-fill.ensures.bytes in
    ahead_refused g.R.Journaled.redo c.args.owner _ _ _ _ _ _ c.loop.size (left c.loop.window) f.0 c.left.result.now c.loop.invariant.ahead f.2 (c.left.ensures ∙ f.3) _ c.in_default.ensures.redone

pub loop-preserved : goal.loop-preserved
loop-preserved g c =
    let f = c.in_ok-fill.ensures.bytes in let i = c.loop.invariant in let r = c.in-Ok.ensures in
    record {
      all = c.in_ok-fill.ensures.all ∙ i.all;
      fixed = r.fixed ∙ i.fixed;
      ahead = ahead_more g.R.Journaled.redo c.args.owner _ _ _ _ _ _ c.loop.size (left c.loop.window) f.0 c.left.result.now i.ahead f.2 (c.left.ensures ∙ f.3)
          c.in-Ok.done _ _ r.redone c.in-Some.ensures.1 (c.pass.ensures ∙ ap (drop c.in-Ok.done) (sym c.left.ensures));
    }

pub returns-in_default-checked_add-clause-through : goal.returns-in_default-checked_add-clause-through
returns-in_default-checked_add-clause-through g c =
    let f = c.in_ok-fill.ensures.bytes in
    ahead_failed g.R.Journaled.redo c.args.owner _ _ _ _ _ _ c.loop.size (left c.loop.window) f.0 c.left.result.now c.loop.invariant.ahead f.2 (c.left.ensures ∙ f.3) _ _ c.in-Ok.ensures.redone
