use Rattle.std.proofs.Common.{◌≡◌, ℕ, ◌+◌, ◌-◌, ◌≤◌, List, ◌++◌, length, take, drop, sym, ap, ◌∙◌, arith, rules}
use Rattle.std.proofs.Math.Seq.{take-append-add}
use Rattle.std.proofs.lemmas.List.{take-append-le, length-take-le, length-drop, take_rest, with_items_is, places}
use Rattle.journal.proofs.window.Window.fill.Goals as goal

-- what is held, when so many bytes came behind it
held_more : (bs block over : List ℕ) (held n : ℕ) → held ≤ length bs → n ≤ length block
    → take (held + n) (take held bs ++ (block ++ over)) ≡ take held bs ++ take n block
held_more bs block over held n l h =
    let xs : List ℕ = take held bs in
    let k : held ≡ length xs = sym (length-take-le held bs l) in
    ap (λ (m : ℕ). take (m + n) (xs ++ (block ++ over))) k ∙ take-append-add xs (block ++ over) n ∙ ap (λ (q : List ℕ). xs ++ q) (take-append-le n block over h)

pub returns-clause-bytes : goal.returns-clause-bytes
returns-clause-bytes g c =
    let n = c.in_ok-count.count in let w = c.make_room.new.self in let bs = c.deref_mut.result.now in let block = c.read.new.block in
    let f = c.in_ok-count.ensures.bytes in let a = c.in_ok-make_room.ensures in let v = c.deref_mut.ensures in
    let r : length (take (length bs - w.held) (drop w.held bs)) ≡ length bs - w.held = ap length (take_rest bs w.held) ∙ length-drop w.held bs in
    let b : length block ≡ length (take (length bs - w.held) (drop w.held bs)) = search rules in
    let h : w.held ≤ length bs = omega (arith, a.room, v.len) in
    let i : n ≤ length block = omega (arith, f.0, b) in (
      take n block,
      length-take-le n block i,
      f.1,
      ap (take (w.held + n)) (with_items_is w.bytes _ (search (rules, places))) ∙ held_more bs block _ w.held n h i ∙ ap (λ (q : List ℕ). take w.held q ++ take n block) v.value ∙ ap (λ (q : List ℕ). q ++ take n block) a.left,
      λ z. f.2 z (omega (arith, r, a.room, v.len)),
    )
