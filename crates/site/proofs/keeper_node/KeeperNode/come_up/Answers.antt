use Rattle.std.proofs.Common.{◌≡◌, ◌+◌, ◌^◌, ◌<◌, ℕ, List, take, false, leb, ap, sym, ◌∙◌, subst, rules, arith}
use Rattle.std.proofs.lemmas.Bool.{lt-leb}
use Rattle.journal.specs.declared.record.Owner.TheVariants.{Keeper}
use Rattle.journal.specs.Records.{bytes_of, records_of}
use Rattle.journal.proofs.Blocks.{all_read}
use Rattle.lender.specs.Book.{keeper_book}
use Rattle.lender.specs.OnDisk.{OnDisk}
use Rattle.world.specs.World.{keeper_up}
use Rattle.site.proofs.OneKeeper.{came_up, file_is}
use Rattle.site.proofs.keeper_node.KeeperNode.come_up.Goals as goal

pub returns-clause-is : goal.returns-clause-is
returns-clause-is c =
    let l = c.args.self.now.long in
    let k = c.in_ok-memory.memory in
    let size = c.in_ok-memory.size in
    let opened = c.in_ok-memory.ensures in
    let o = opened.opened in
    let file = all_read c.of-from.result c.open.new.journal _ o.0 c.of-from.ensures opened.all opened.ended o.1 ∙ c.content.ensures in
    let cut = c.cut.ensures.file ∙ ap (take size) (sym file) in
    let On : List ℕ → Type 0 = OnDisk k in
    let on = subst On (sym cut) o.3 in
    let front = cut ∙ o.2.front ∙ ap (λ (q : List ℕ). bytes_of (records_of Keeper q)) file in
    let room : c.args.clock + l < 2 ^ 64 = search rules in
    let fits : c.args.clock + (keeper_book k).long < 2 ^ 64 = omega (arith, room, o.4) in
    let up : leb (2 ^ 64) (c.args.clock + l) ≡ false = lt-leb (2 ^ 64) (c.args.clock + l) room in
    rw up (came_up c.args.clock l _ _ k _ _ on front o.4 (search rules) c.come_up-answer.ensures.parts ∙ ap (keeper_up c.args.clock l) (sym (file_is c.args.self.now.memory l _)))
