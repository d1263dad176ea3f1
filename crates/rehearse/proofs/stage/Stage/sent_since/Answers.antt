use Rattle.std.proofs.Common.{ℕ, List, ap, ◌∙◌, arith}
use Rattle.message.specs.Reading.{read}
use Rattle.lines.specs.Outputs.{printed}
use Rattle.site.specs.Worlds.{world_of}
use Rattle.rehearse.specs.Prints.{sent_behind}
use Rattle.rehearse.proofs.Sents.{one_more, none_left}
use Rattle.rehearse.proofs.stage.Stage.sent_since.Goals as goal

pub loop-index-preserved : goal.loop-index-preserved
loop-index-preserved c =
    let l = c.loop-index in
    one_more (printed l.out) _ _ (world_of c.args.self.now.rehearsal.site).sent l.index (omega arith)
    (c.in_ok-sent.ensures ∙ ap (λ (v : List ℕ). sent_behind (printed l.out) l.index (read v)) c.message.ensures) l.invariant

pub returns : goal.returns
returns c = none_left _ _ (world_of c.args.self.now.rehearsal.site).sent _ (omega arith) c.loop-index.invariant
