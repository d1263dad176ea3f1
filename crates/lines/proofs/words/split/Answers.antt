use Rattle.std.proofs.Common.{sym}
use Rattle.lines.proofs.Splits.{found, not_found, words_by, slice_before, slice_behind, all_before}
use Rattle.lines.proofs.words.split.Goals as goal

pub returns-in-Some : goal.returns-in-Some
returns-in-Some c =
    let e = found 32 _ c.args.text.now c.in-Some.ensures in
    let w = slice_before 32 _ c.args.text.now e.0 in
    let b = slice_behind 32 _ c.args.text.now e.0 e.1 in
    words_by c.args.text.now _ _ w b

pub returns-in-None : goal.returns-in-None
returns-in-None c =
    let none = not_found 32 c.args.text.now c.in-None.ensures in
    let w = all_before 32 c.args.text.now none in
    words_by c.args.text.now _ _ w (sym none)
