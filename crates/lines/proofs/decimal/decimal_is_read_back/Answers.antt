use Rattle.lines.proofs.Numerals.{decimal_back}
use Rattle.lines.proofs.decimal.decimal_is_read_back.Goals as goal

pub returns : goal.returns
returns c = decimal_back
