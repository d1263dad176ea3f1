use Rattle.std.proofs.Common.{◌≡◌, ℕ, List, ap, ◌∙◌}
use Rattle.lender.specs.Rules.{Book, fresh}
use Rattle.lender.specs.Book.{keeper_book, keeper_parts}
use Rattle.lender.specs.Replay.{memory, nothing}
use Rattle.lender.proofs.OnDisk.{holds_opened, went_long}
use Rattle.lender.proofs.keeper.Keeper.open.Goals as goal

pub returns-clause-opened : goal.returns-clause-opened
returns-clause-opened g c =
    let k = c.in_ok-keeper.keeper in
    let j = c.read_through.new.into in
    let n = c.in_ok-keeper.ensures in
    let o = c.in_ok-size.ensures.through in
    let zero : memory (keeper_book k) (keeper_parts k) ≡ nothing =
    ap (λ (b : Book). memory b (keeper_parts k)) n.0 ∙ ap (λ (f : ℕ → List ℕ). memory (fresh c.args.long) f) n.1 in
    (o.0, o.1, o.2, holds_opened k j o.0 _ zero o.2.front o.3, went_long k j _ o.3 ∙ ap (λ (b : Book). b.long) n.0)
