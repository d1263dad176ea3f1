use Rattle.std.proofs.Common.{ℕ, ◌-◌, List, length, take, drop, length-take, length-drop, arith, rules}
use Rattle.lines.proofs.Splits.{found, not_found, end_clean, none_clean}
use Rattle.lines.proofs.input.line_end.Goals as goal

pub returns-in_err-find : goal.returns-in_err-find
returns-in_err-find c =
    let text : List ℕ = c.args.text.now in
    let left : List ℕ = take (length text - c.args.seen) (drop c.args.seen text) in
    let none = none_clean 10 c.args.seen text c.requires.clean (not_found 10 left c.in_err-find.ensures) in
    search rules

pub returns : goal.returns
returns c =
    let text : List ℕ = c.args.text.now in
    let left : List ℕ = take (length text - c.args.seen) (drop c.args.seen text) in
    let there = found 10 c.in_ok-find.field-0 left c.in_ok-find.ensures in
    let at = end_clean 10 c.args.seen _ text (omega arith) c.requires.clean there.0 in
    (at, omega (arith, simp (length-take, length-drop) at there.1))
