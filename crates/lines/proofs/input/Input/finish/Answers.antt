use Rattle.std.proofs.Common.{◌≡◌, [], sym, ◌∙◌}
use Rattle.std.proofs.lemmas.List.{nil_from_length}
use Rattle.std.proofs.lemmas.Bool.{eqb-true}
use Rattle.lines.specs.Inputs.{rest}
use Rattle.lines.proofs.input.Input.finish.Goals as goal

pub returns-then-is_empty : goal.returns-then-is_empty
returns-then-is_empty c =
    let e : rest c.args.self.now ≡ [] = sym c.left.ensures ∙ nil_from_length _ (eqb-true _ _ (sym c.if-is_empty.ensures)) in
    (e, e)
