use Rattle.std.proofs.Common.{sym, ◌∙◌, arith}
use Rattle.lines.proofs.HexTexts.{text_put, text_done}
use Rattle.lines.proofs.hex.write_digits.Goals as goal

pub loop-i-preserved : goal.loop-i-preserved
loop-i-preserved c =
    text_put c.loop-i.out c.args.bytes.now c.loop-i.i _ _ (omega arith) (omega (arith, c.loop-i.auto.out, c.requires)) c.letter.ensures c.letter-in-loop-i.ensures
    ∙ c.loop-i.invariant

pub returns : goal.returns
returns c = sym (text_done c.loop-i.out c.args.bytes.now c.loop-i.i (omega arith)) ∙ c.loop-i.invariant
