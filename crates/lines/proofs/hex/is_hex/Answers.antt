use Rattle.std.proofs.Common.{rules}
use Rattle.lines.specs.Hex.{is_hex}
use Rattle.lines.proofs.hex.is_hex.Goals as goal

pub returns-then-text-eq0 : goal.returns-then-text-eq0
unfolding is_hex
returns-then-text-eq0 c = search rules

pub returns-else-text-eq0 : goal.returns-else-text-eq0
unfolding is_hex
returns-else-text-eq0 c = search rules
