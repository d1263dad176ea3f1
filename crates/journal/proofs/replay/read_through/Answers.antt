use Rattle.std.proofs.Common.{ℕ, List, refl, sym, ap, ◌∙◌, subst, drop}
use Rattle.journal.specs.Blocks.{left}
use Rattle.journal.proofs.Through.{Ahead, ahead_none, ahead_more, ahead_refused}
use Rattle.journal.proofs.replay.read_through.Goals as goal

pub loop-init : goal.loop-init
loop-init g c =
    let P = g.R.Journaled.becomes in let had = g.S.Source.had c.args.from.now in let s = c.args.into.now in
    let Q : List ℕ → Type 0 = Ahead P c.args.owner had had s s 0 in
    (refl, subst Q (sym c.new-block.ensures) (ahead_none P c.args.owner had s))

pub returns-in_default-clause-through : goal.returns-in_default-clause-through
returns-in_default-clause-through g c =
    let f = c.in_ok-fill.ensures.bytes in
    let all =
    ahead_refused g.R.Journaled.becomes c.args.owner _ _ _ c.args.into.now c.loop.into c.loop.size (left c.loop.block) f.0 c.left.result.now c.loop.invariant.1 f.2 (c.left.ensures ∙ f.3) c.in_default.ensures.0 in
    (refl, all.0, all.1, all.2)

pub loop-preserved : goal.loop-preserved
loop-preserved g c =
    let f = c.in_ok-fill.ensures.bytes in
    let r = c.in-Ok.ensures in (
      c.in_ok-fill.ensures.all ∙ c.loop.invariant.0,
      ahead_more g.R.Journaled.becomes c.args.owner _ _ _ c.args.into.now c.loop.into c.replay.new.into c.loop.size c.in-Ok.done c.in-Some.end (left c.loop.block) f.0 c.left.result.now (left c.pass.new.self)
          c.loop.invariant.1 f.2 (c.left.ensures ∙ f.3) r.0 r.1 c.in-Some.ensures.1 (c.pass.ensures ∙ ap (drop c.in-Ok.done) (sym c.left.ensures)),
    )
