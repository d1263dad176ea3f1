use Rattle.std.proofs.Common.{◌<◌, length, vec_items, refl, arith}
use Rattle.std.proofs.lemmas.List.{get_or_read}
use Rattle.keeping.specs.declared.numbers.Counts.{Counts}
use Rattle.keeping.specs.Numbering.{no_numbers}
use Rattle.keeping.proofs.Pairs.{pair_put, pair_keep}
use Rattle.keeping.proofs.Durables.{same_durable}
use Rattle.keeping.proofs.durable.Durable.set_void.Goals as goal

pub returns : goal.returns
returns c =
    let rows = vec_items c.args.self.now.numbers in
    let q = c.args.head.now.place.at in
    let i = c.args.head.now.who.id in
    let was = c.index_mut.result.now in
    let inside : q < length rows = omega arith in
    let among : i < length was.counts = omega arith in
    let row = get_or_read rows q was inside c.index_mut.ensures.value no_numbers in
    let put = pair_put (λ (k : Counts). k.voided) rows q i _ was row inside among in
    let keep = pair_keep (λ (k : Counts). k.done) rows q i _ was row inside among refl in
    same_durable _ _ keep put refl
