use Rattle.std.proofs.Common.{◌≡◌, drop}
use Rattle.lines.proofs.Numerals.{read_on}
use Rattle.lines.proofs.decimal.number.Given as goal

abbrev pub invariant-loop-b : goal.invariant-loop-b
invariant-loop-b l = read_on l.sum (drop l.b-index l.word) ≡ read_on 0 l.word
