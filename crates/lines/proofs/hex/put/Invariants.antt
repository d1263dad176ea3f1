use Rattle.std.proofs.Common.{◌≡◌}
use Rattle.lines.specs.Hex.{hex_bytes, fronted}
use Rattle.lines.proofs.HexTexts.{put_on}
use Rattle.lines.proofs.hex.put.Given as goal

abbrev pub invariant-loop-slot : goal.invariant-loop-slot
invariant-loop-slot l = put_on l.out l.slot-index l.rest ≡ fronted (hex_bytes l.text) l.initial.out
