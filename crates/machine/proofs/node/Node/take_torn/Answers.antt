use Rattle.std.proofs.Common.{rules, sym, ◌∙◌}
use Rattle.machine.proofs.Turns.{none_more}
use Rattle.machine.proofs.node.Node.take_torn.Goals as goal

pub returns-then-has_failed-clause-torn : goal.returns-then-has_failed-clause-torn
returns-then-has_failed-clause-torn g c =
    let M = g.M.Machine in
    let m = c.in-Some.machine in
    let t = c.in-Some.ensures in (
      M.terms m,
      M.durable m,
      t.0,
      search rules,
      record { machine = search rules; left = 0; disk = search rules ∙ sym (none_more _) },
    )
