use Rattle.std.proofs.Common.{ap, ◌∙◌}
use Rattle.part.specs.Parts.{parts}
use Rattle.lender.specs.declared.answer.WriteAnswer.{WriteAnswer}
use Rattle.lender.specs.Book.{book}
use Rattle.lender.specs.Rules.{after_write, parts_after}
use Rattle.lender.specs.Replies.{write_effect}
use Rattle.lender.proofs.Effects.{same_effect}
use Rattle.lender.proofs.lender.Lender.on_write.Goals as goal

pub returns : goal.returns
returns c =
    let i = c.args.head.who.id in
    let q = c.args.head.place.at in
    let n = c.args.head.number in
    let v = c.args.bytes.now in
    let f = parts c.args.files.now in
    let w = c.write-answer.ensures in
    record {
      effect =
          c.write_reply.ensures (parts c.write-answer.new.files)
          ∙ same_effect i q n v f (parts c.write-answer.new.files) c.write-answer.result w.parts
          ∙ ap (λ (a : WriteAnswer). write_effect i q n v a) w.answer;
      book = w.after ∙ ap (λ (a : WriteAnswer). after_write i q n a (book c.args.self.now)) w.answer;
      parts = w.parts ∙ ap (λ (a : WriteAnswer). parts_after q v a f) w.answer;
    }
