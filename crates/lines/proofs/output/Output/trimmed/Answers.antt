use Rattle.std.proofs.Common.{ℕ, List, Result, sym, ap, ◌∙◌, arith}
use Rattle.std.proofs.lemmas.Bool.{eqb-true, eqb-false}
use Rattle.std.specs.declared.alloc.AllocError.{AllocError}
use Rattle.lines.specs.Outputs.{printed, appended_to}
use Rattle.lines.proofs.Prints.{dash_none, text_some}
use Rattle.lines.proofs.output.Output.trimmed.Goals as goal

pub returns-then-is_empty : goal.returns-then-is_empty
returns-then-is_empty c =
    let r : Result (Unit {0}) AllocError = c.bytes.result in
    c.bytes.ensures ∙ ap (λ (q : List ℕ). appended_to (printed c.args.self.now) q r) (dash_none _ _ c.trim-front.ensures (eqb-true _ _ (sym c.if-is_empty.ensures)))

pub returns-else-is_empty : goal.returns-else-is_empty
returns-else-is_empty c =
    let r : Result (Unit {0}) AllocError = c.hex.result in
    c.hex.ensures ∙ ap (λ (q : List ℕ). appended_to (printed c.args.self.now) q r) (text_some _ _ c.trim-front.ensures (omega (arith, eqb-false _ _ (sym c.if-is_empty.ensures))))
