use Rattle.std.proofs.Common.{ℕ, ◌-◌, List, ◌++◌, length, take, drop, sym, ap, ◌∙◌, append_assoc, arith}
use Rattle.std.proofs.Math.Seq.{take-add}
use Rattle.std.proofs.lemmas.List.{length-drop, take_all}
use Rattle.journal.proofs.store.file.put.Goals as goal

pub loop-preserved : goal.loop-preserved
loop-preserved c =
    let i = c.loop.invariant in let t = c.in_ok-done.ensures.taken in
    let bs = c.args.bytes.now in let was = c.args.known.now.appended in let done = c.loop.done in let count = c.in_ok-done.field-0 in
    let rest = take_all (length bs - done) (drop done bs) (omega (arith, length-drop done bs)) in
    let joined = append_assoc was (take done bs) (take count (drop done bs)) ∙ ap (λ (q : List ℕ). was ++ q) (sym (take-add done count bs)) in
    record {
      within = omega (arith, i.within, t.0, length-drop done bs, ap length rest);
      appended = t.1 ∙ ap (λ (q : List ℕ). c.loop.known.appended ++ take count q) rest ∙ ap (λ (q : List ℕ). q ++ take count (drop done bs)) i.appended ∙ joined;
      synced = t.2 ∙ i.synced;
      locked = c.in_ok-done.ensures.locked ∙ i.locked;
      later = omega (arith, i.later, t.3);
      turns = omega (arith, i.turns, t.4);
    }
