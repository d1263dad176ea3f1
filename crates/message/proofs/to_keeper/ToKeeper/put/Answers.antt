use Rattle.std.proofs.Common.{ℕ, List, ◌∷◌, ◌++◌, sym, ap, ◌∙◌, append_assoc}
use Rattle.part.specs.Bytes.{four}
use Rattle.message.specs.Kinds.{kind_byte}
use Rattle.message.specs.Format.{layout}
use Rattle.message.specs.Directions.{up_msg}
use Rattle.message.proofs.to_keeper.ToKeeper.put.Goals as goal

pub returns-in-Ask-clause-bytes : goal.returns-in-Ask-clause-bytes
returns-in-Ask-clause-bytes c = λ f.
    let i = c.in-Ask in
    let p = c.put_kind.ensures f in
    let q = c.put_head.ensures.bytes p.before in
    let tail : List ℕ = kind_byte i.kind ∷ four i.written in
    record {
      before = q.before;
      bytes = p.bytes ∙ ap (λ (xs : List ℕ). xs ++ tail) q.bytes ∙ append_assoc _ _ tail ∙ ap (λ m. c.args.out.now.bytes.items ++ layout (up_msg m)) (sym i.is);
    }
