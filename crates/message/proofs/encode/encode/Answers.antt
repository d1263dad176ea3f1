use Rattle.std.proofs.Common.{◌≡◌, ◌≤◌, length, ap, arith, rules}
use Rattle.part.proofs.Writes.{put_mid_is, there}
use Rattle.message.specs.Format.{said}
use Rattle.message.proofs.Writes.{ask_wrote, loan_wrote, write_wrote}
use Rattle.message.proofs.encode.encode.Goals as goal

pub returns-in-Ask : goal.returns-in-Ask
returns-in-Ask c =
    let i = c.in-Ask in
    let xs = c.args.out.now in
    let l : 13 ≤ length xs = search rules in
    let p = c.put.ensures in
    let q = c.put_number.ensures in
    let s = ap (said c.args.part.now) i.is in
    record {
      formed = λ _. rw s (p.named, q.small);
      wrote = ask_wrote i.ask.head.who.id i.ask.head.place.at i.ask.head.number xs _ (there _ _ _ _ _ _ p.fits (omega arith) p.after)
          i.ask.kind i.ask.written _ _ _ s l c.from.ensures (there _ _ _ _ _ _ q.fits (search rules) q.after);
    }

pub returns-in-Loan : goal.returns-in-Loan
returns-in-Loan c =
    let i = c.in-Loan in
    let xs = c.args.out.now in
    let l : 1033 ≤ length xs = search rules in
    let lv : length c.args.part.now ≡ 1024 = omega arith in
    let p = c.put-in-Loan.ensures in
    let s = ap (said c.args.part.now) i.is in
    record {
      formed = λ _. rw s (p.named, lv);
      wrote = loan_wrote i.head.who.id i.head.place.at i.head.number xs _ (there _ _ _ _ _ _ p.fits (omega arith) p.after)
          i.kind c.args.part.now _ _ _ s l lv c.from-in-Loan.ensures
          (put_mid_is 9 _ _ _ c.args.part.now c.copy_from_slice.ensures.after lv);
    }

pub returns-in-Write : goal.returns-in-Write
returns-in-Write c =
    let i = c.in-Write in
    let xs = c.args.out.now in
    let l : 1032 ≤ length xs = search rules in
    let lv : length c.args.part.now ≡ 1024 = omega arith in
    let p = c.put-in-Write.ensures in
    let s = ap (said c.args.part.now) i.is in
    record {
      formed = λ _. rw s (p.named, lv);
      wrote = write_wrote i.head.who.id i.head.place.at i.head.number xs _ (there _ _ _ _ _ _ p.fits (omega arith) p.after)
          c.args.part.now _ _ s lv
          (put_mid_is 8 _ _ _ c.args.part.now c.copy_from_slice-in-Write.ensures.after lv);
    }
