use Rattle.std.proofs.Common.{◌<◌, length, vec_items, refl, arith}
use Rattle.std.proofs.lemmas.List.{get_or_read}
use Rattle.lender.specs.declared.numbers.Counts.{Counts}
use Rattle.lender.specs.Numbering.{no_numbers}
use Rattle.lender.proofs.Pairs.{pair_put, pair_keep}
use Rattle.lender.proofs.Books.{same_book}
use Rattle.lender.proofs.lender.Lender.set_void.Goals as goal

pub returns : goal.returns
returns c =
    let rows = vec_items c.args.self.now.numbers in
    let q = c.args.head.place.at in
    let i = c.args.head.who.id in
    let was = c.index_mut.result.now in
    let inside : q < length rows = omega arith in
    let among : i < length was.counts = omega arith in
    let row = get_or_read rows q was inside c.index_mut.ensures.value no_numbers in
    let put = pair_put (λ (k : Counts). k.voided) rows q i _ was row inside among in
    let keep = pair_keep (λ (k : Counts). k.done) rows q i _ was row inside among refl in
    same_book _ _ keep put refl refl refl
