use Rattle.std.proofs.Common.{ℕ, List, vec_items}
use Rattle.lines.proofs.Handing as handing
use Rattle.lines.proofs.input.Input.take_line.Goals as goal

pub returns : goal.returns
returns c =
    let held : List ℕ = vec_items c.args.self.now.held in
    let next : ℕ = c.args.self.now.next in
    let found = rw c.left.ensures at c.in-Some.ensures in
    record { found = handing.found held next _ found.0 found.1; line = handing.line held next _ found.0; after = handing.after held next _ found.0 found.1 }
