use Rattle.std.proofs.Common.{◌≡◌, ◌+◌, ◌*◌, get_or, ◌∙◌, arith}
use Rattle.lines.specs.Hex.{hex_value}
use Rattle.lines.proofs.HexTexts.{put_step, two_first}
use Rattle.lines.proofs.hex.put.Goals as goal

pub loop-slot-preserved : goal.loop-slot-preserved
loop-slot-preserved c =
    let is : c.value.result * 16 + c.value-in-loop-slot.result ≡ hex_value (get_or c.loop-slot.rest.now 0 0) * 16 + hex_value (get_or c.loop-slot.rest.now 1 0) = cc in
    put_step c.loop-slot.out c.loop-slot.slot-index _ _ _ c.loop-slot.rest.now _ (omega arith) (two_first c.loop-slot.rest.now c.in-len2-up.len_at_least) is
    ∙ c.loop-slot.invariant
