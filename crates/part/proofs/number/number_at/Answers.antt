use Rattle.std.proofs.Common.{◌≡◌, take, drop, arith}
use Rattle.std.proofs.lemmas.Grind.{common_steps}
use Rattle.part.proofs.Numbers.{cut}
use Rattle.part.proofs.number.number_at.Goals as goal

pub returns : goal.returns
returns c =
    let e : c.in_ok-four.four.now ≡ take 4 (drop c.args.at c.args.bytes.now) = grind (arith, common_steps) in
    record {
      inside = grind (arith, common_steps);
      small = c.from_be_bytes.type_inv;
      bytes = cut c.args.bytes.now _ c.args.at _ (grind (arith, common_steps)) (λ i. (c.type_inv.bytes i).fits) e c.from_be_bytes.ensures;
    }
