use Rattle.std.proofs.Common.{ℕ, sym, ap, ◌∙◌}
use Rattle.borrower.specs.declared.hold.OnFile.{OnFile}
use Rattle.borrower.specs.Steps.{risen}
use Rattle.borrower.specs.Tablets.{no_numbers}
use Rattle.borrower.specs.Opened.{CameUp}
use Rattle.borrower.proofs.Opened.{through, on_disk}
use Rattle.borrower.proofs.tablet.Tablet.open.Goals as goal

pub returns-clause-opened : goal.returns-clause-opened
returns-clause-opened g c =
    let n = c.in_ok-tablet.ensures in
    let o = c.in_ok-size.ensures.through in
    let came = through c.args.who c.args.short _ c.in_ok-tablet.tablet c.read_through.new.into (λ q. no_numbers)
    (record { filed = n.filed; parts = n.parts ∙ ap (λ (f : ℕ → OnFile). λ q. risen (f q)) (sym n.filed); copies = n.copies; short = n.short; who = n.who }) o.3 in
    let up : CameUp c.args.who c.args.short o.0 c.read_through.new.into = record { filed = came.filed; parts = came.parts; copies = came.copies; short = came.short; who = came.who } in
    (o.0, o.1, o.2, up, on_disk c.args.who c.args.short _ o.0 c.read_through.new.into o.2 up)
