use Rattle.std.proofs.Common.{ap, ◌∙◌, arith}
use Rattle.site.specs.Nodes.{borrower_number}
use Rattle.world.specs.World.{Borrower, borrower_up}
use Rattle.site.proofs.FourBorrowers.{there, put}
use Rattle.site.proofs.borrowers.Borrowers.come_up.Goals as goal

pub returns-clause-is : goal.returns-clause-is
returns-clause-is c =
    let ns = c.args.self.now.nodes in
    let i = borrower_number c.args.who in
    let here = c.index.ensures.here in
    let was = there ns _ c.index-self-index.result (omega arith) i here in
    put ns _ i _ _ here (omega arith) (c.in_ok-come_up.ensures.is ∙ ap (λ (b : Borrower). borrower_up b.file) was)
