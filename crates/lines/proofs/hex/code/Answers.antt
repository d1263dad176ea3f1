use Rattle.std.proofs.Common.{ℕ, get_or, refl, ap, ◌∙◌, arith}
use Rattle.lines.specs.declared.hex.TheConstants.{VALUES}
use Rattle.lines.proofs.HexTexts.{by_table}
use Rattle.lines.proofs.hex.code.Goals as goal

pub returns : goal.returns
returns c = ap (λ (i : ℕ). get_or VALUES i 0) c.from.ensures ∙ by_table VALUES refl c.args.b 0 (omega arith)
