use Rattle.std.proofs.Common.{ℕ, ◌-◌, List, ap, ◌∙◌, take, length, ◌≡◌, arith}
use Rattle.std.proofs.lemmas.List.{length-drop}
use Rattle.journal.proofs.Blocks.{came}
use Rattle.journal.proofs.source.memory.MemorySourceSource.read.Goals as goal

pub returns-clause-bytes : goal.returns-clause-bytes
returns-clause-bytes c =
    let n = c.min-count.result in
    let bs : List ℕ = c.args.self.now.bytes.now in
    let l : length c.left-left.result.now ≡ length bs - c.args.self.now.at = ap length c.left-left.ensures ∙ length-drop c.args.self.now.at bs in (
      omega (arith, c.min-count.ensures),
      came bs c.args.block.now _ c.args.self.now.at n (c.copy_from_slice.ensures.after ∙ ap (take n) c.left-left.ensures)
          (omega (arith, c.min-count.ensures, ap length c.left-left.ensures)) (omega (arith, c.min-count.ensures)),
      λ e k. omega (arith, c.min-count.ensures, l, e, k, c.args.self.now.within),
    )
