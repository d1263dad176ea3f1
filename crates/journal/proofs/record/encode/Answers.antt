use Rattle.std.proofs.Common.{◌≡◌, ◌≤◌, length, ap, arith, rules}
use Rattle.part.proofs.Writes.{put_mid_is, there}
use Rattle.journal.specs.Records.{recorded}
use Rattle.journal.proofs.Writes.{applied_wrote, numbers_wrote}
use Rattle.journal.proofs.record.encode.Goals as goal

pub returns-in-Applied : goal.returns-in-Applied
returns-in-Applied c =
    let i = c.in-Applied in
    let xs = c.args.out.now in
    let l : 1032 ≤ length xs = search rules in
    let lv : length c.args.part.now ≡ 1024 = omega arith in
    let p = c.put.ensures in
    let s = ap (recorded c.args.part.now) i.is in
    applied_wrote i.head.who.id i.head.place.at i.head.number xs _ c.args.part.now _ _ s
    (there _ _ _ _ _ _ p.fits (omega arith) p.after) lv (put_mid_is 8 _ _ _ c.args.part.now c.copy_from_slice.ensures.after lv)

pub returns-in-Numbers : goal.returns-in-Numbers
returns-in-Numbers c =
    let i = c.in-Numbers in
    let xs = c.args.out.now in
    let l : 11 ≤ length xs = search rules in
    let a = c.put_number.ensures in
    let w = c.put_number-in-Numbers.ensures in
    let s = ap (recorded c.args.part.now) i.is in
    numbers_wrote i.place.at i.ask i.write _ _ xs _ _ _ s l c.file.ensures c.part.ensures
    (there _ _ _ _ _ _ a.fits (search rules) a.after) (there _ _ _ _ _ _ w.fits (search rules) w.after)
