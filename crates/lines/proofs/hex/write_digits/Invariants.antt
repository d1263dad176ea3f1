use Rattle.std.proofs.Common.{◌≡◌}
use Rattle.lines.proofs.HexTexts.{text_on}
use Rattle.lines.proofs.hex.write_digits.Given as goal

abbrev pub invariant-loop-i : goal.invariant-loop-i
invariant-loop-i l = text_on l.out l.i l.bytes ≡ text_on l.initial.out 0 l.bytes
