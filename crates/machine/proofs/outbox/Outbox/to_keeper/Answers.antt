use Rattle.std.proofs.Common.{◌≡◌, ℕ, ◌-◌, List, [], ◌∷◌, ◌++◌, length, sum, rules, arith}
use Rattle.message.specs.Format.{layout}
use Rattle.message.specs.Directions.{up_msg}
use Rattle.machine.proofs.Cuts.{sent_more}
use Rattle.machine.proofs.outbox.Outbox.to_keeper.Goals as goal

pub returns-else-is_err : goal.returns-else-is_err
returns-else-is_err c = λ f.
    let p = c.put.ensures.bytes f in
    let ns = c.args.self.now.sizes.items in
    let bs = c.args.self.now.buffer.bytes.items in
    let l = c.saturating_sub-size.result in
    let whole = c.args.self.now.whole p.before in
    let s : sum ns ≡ length bs = search rules in
    let n : c.push.new.self.items ≡ ns ++ (l ∷ []) = search rules in
    let e : l ≡ length c.put.new.out.bytes.items - length bs = search rules in
    record {
      before = p.before;
      sent = sent_more ns _ bs _ (layout (up_msg c.args.message.now)) l s p.bytes n e;
    }
