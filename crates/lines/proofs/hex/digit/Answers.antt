use Rattle.lines.specs.Hex.{hex_digit, hex_value}
use Rattle.lines.proofs.HexTexts.{is_digit, no_digit, value_small}
use Rattle.lines.proofs.hex.digit.Goals as goal

pub returns-then-value-lt16 : goal.returns-then-value-lt16
returns-then-value-lt16 c = is_digit (hex_digit c.args.b) _ c.if-value-lt16.true c.code-value.ensures

pub returns-else-value-lt16 : goal.returns-else-value-lt16
unfolding hex_value
returns-else-value-lt16 c = no_digit (hex_digit c.args.b) _ c.if-value-lt16.false c.code-value.ensures (value_small c.args.b)
