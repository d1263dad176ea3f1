use Rattle.std.proofs.Common.{◌≡◌, ℕ, Option, unwrap_or, ap, ◌∙◌, arith}
use Rattle.lines.specs.Hex.{hex_value}
use Rattle.lines.proofs.HexTexts.{value_small}
use Rattle.lines.proofs.hex.value.Goals as goal

pub returns : goal.returns
unfolding hex_value
returns c =
    let e : c.unwrap_or.result ≡ hex_value c.args.b = c.unwrap_or.ensures ∙ ap (λ (o : Option ℕ). unwrap_or o 0) c.digit.ensures in
    record { is = e; small = omega (arith, value_small c.args.b, e) }
