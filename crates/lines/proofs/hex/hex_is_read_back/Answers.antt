use Rattle.lines.proofs.HexTexts.{bytes_back, text_is_hex}
use Rattle.lines.proofs.hex.hex_is_read_back.Goals as goal

pub returns : goal.returns
returns c = record { text = text_is_hex; back = bytes_back }
