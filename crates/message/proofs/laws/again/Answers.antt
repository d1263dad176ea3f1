use Rattle.std.proofs.Common.{ℕ, List, refl, subst, arith}
use Rattle.part.proofs.Writes.{front_is}
use Rattle.message.specs.Format.{said, layout, Decoded}
use Rattle.message.proofs.Unique.{sized, most, exact}
use Rattle.message.proofs.laws.again.Goals as goal

pub returns : goal.returns
returns c =
    let m = said c.args.part.now c.args.message.now in
    let w = rw c.in_ok-size.ensures.ok_part at c.encode.ensures in
    let P : List ℕ → Type 0 = λ q. Decoded q c.decode.result in
    exact m (w.formed refl) c.decode.result (subst P (front_is _ _ (layout m) _ w.wrote.0 w.wrote.1) c.decode.ensures.exact)

pub returns-in_err-size : goal.returns-in_err-size
returns-in_err-size c =
    let w = rw c.in_err-size.ensures.ok_part at c.encode.ensures in
    absurd (omega (arith, w.wrote.0, sized c.args.part.now c.args.message.now c.told-part, most c.args.message.now))
