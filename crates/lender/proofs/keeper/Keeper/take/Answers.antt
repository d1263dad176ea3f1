use Rattle.std.proofs.Common.{◌≡◌, List, ap, ◌∙◌, subst}
use Rattle.message.specs.Reading.{read}
use Rattle.journal.specs.Records.{Rec}
use Rattle.journal.specs.Logs.{Appended}
use Rattle.lender.specs.Book.{keeper_book, keeper_parts}
use Rattle.lender.specs.Replies.{Effect, heard_effect, heard_book, heard_parts}
use Rattle.lender.specs.Replay.{memory}
use Rattle.lender.proofs.Kept.{kept}
use Rattle.lender.proofs.OnDisk.{holds_more, all_sound}
use Rattle.lender.proofs.keeper.Keeper.take.Goals as goal

pub returns : goal.returns
returns g c =
    let o = read c.args.bytes.now in
    let b = keeper_book c.args.self.now in
    let f = keeper_parts c.args.self.now in
    let r = c.receive-reply.ensures in
    let was = g.S.Store.disk c.args.store.now in
    let is = g.S.Store.disk c.append.new.store in
    let L : List Rec → Type 0 = λ rs. Appended rs was is in
    let done : L (heard_effect c.args.clock o b f).records = subst L (ap (λ (e : Effect). e.records) r.effect) c.in_ok-append.ensures in
    let same : memory (keeper_book c.receive-reply.new.self) (keeper_parts c.receive-reply.new.self) ≡ memory (heard_book c.args.clock o b) (heard_parts c.args.clock o b f) =
    λ i. memory (r.book i) (r.parts i) in
    record {
      effect = r.effect;
      book = r.book;
      parts = r.parts;
      appended = done;
      disk = λ held. holds_more (memory b f) _ was.appended is.appended _ held (all_sound c.args.clock c.args.bytes.now b f) done.grown (same ∙ kept c.args.clock o b f);
    }
