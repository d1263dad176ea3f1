use Rattle.std.proofs.Common.{◌≡◌, ℕ, take, rules}
use Rattle.tablet.proofs.Writes.{write_is}
use Rattle.tablet.proofs.calls.write.Goals as goal

pub returns : goal.returns
returns c =
    let big : c.in_ok-size.size ≡ 1024 = search rules in
    let is : c.unwrap-part.result.now ≡ take 1024 c.decode.new.out = search rules in
    write_is c.args.place.at c.in_ok-size.size c.args.word.now c.args.buffer.now _ c.unwrap-part.result.now big c.requires is c.in_ok-size.ensures.count c.decode.ensures.after
