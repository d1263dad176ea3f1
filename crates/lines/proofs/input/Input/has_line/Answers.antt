use Rattle.std.proofs.Common.{◌∙◌}
use Rattle.lines.specs.Inputs.{rest}
use Rattle.lines.proofs.Handing.{ended}
use Rattle.lines.proofs.input.Input.has_line.Goals as goal

pub returns : goal.returns
returns c = c.is_some.ensures ∙ ended c.line_end.result (rest c.args.self.now) (rw c.left.ensures at c.line_end.ensures)
