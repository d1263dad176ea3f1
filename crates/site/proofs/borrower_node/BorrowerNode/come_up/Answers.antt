use Rattle.std.proofs.Common.{ℕ, List, take, ap, sym, ◌∙◌, subst}
use Rattle.journal.specs.declared.record.Owner.TheVariants.{Borrower}
use Rattle.journal.specs.Records.{bytes_of, records_of}
use Rattle.journal.proofs.Blocks.{all_read}
use Rattle.borrower.specs.Opened.{CameUp}
use Rattle.world.specs.World.{borrower_up}
use Rattle.site.proofs.OneBorrower.{came_up, file_is}
use Rattle.site.proofs.borrower_node.BorrowerNode.come_up.Goals as goal

pub returns-clause-is : goal.returns-clause-is
returns-clause-is c =
    let t = c.in_ok-tablet.tablet in
    let opened = c.in_ok-tablet.ensures in
    let o = opened.opened in
    let file = all_read c.of-from.result c.open.new.journal _ o.0 c.of-from.ensures opened.all opened.ended o.1 ∙ c.content.ensures in
    let Up : List ℕ → Type 0 = λ q. CameUp c.args.self.now.who c.args.self.now.short q t in
    let front = c.cut.ensures.file ∙ ap (take c.in_ok-tablet.size) (sym file) ∙ o.2.front ∙ ap (λ (q : List ℕ). bytes_of (records_of Borrower q)) file in
    came_up _ _ _ _ t (subst Up file o.3) front ∙ ap borrower_up (sym (file_is c.args.self.now.tablet _))
