use Rattle.std.proofs.Common.{length, ap, arith}
use Rattle.lines.specs.Inputs.{rest}
use Rattle.lines.proofs.Handing.{reading_start, reading_more, reading_over, handed_whole, handed_last}
use Rattle.lines.proofs.input.Input.next_line.Goals as goal

pub loop-init : goal.loop-init
loop-init g c = reading_start _ _

pub take_line-requires : goal.take_line-requires
take_line-requires g c = record { within = c.loop.invariant.within; clean = c.loop.invariant.clean }

pub returns-then-take_line : goal.returns-then-take_line
returns-then-take_line g c =
    let t = c.if-take_line.ensures in
    handed_whole _ _ _ _ _ _ _ c.loop.invariant t.found t.line t.after

pub finish-requires : goal.finish-requires
finish-requires g c =
    let t = c.if-take_line.ensures in
    let f = c.in_ok-fill.ensures in
    reading_over (rest c.loop.self) _ _ _ t.found t.after (omega (arith, f.1)) f.2

pub returns-then-branch-eq0 : goal.returns-then-branch-eq0
returns-then-branch-eq0 g c =
    let t = c.if-take_line.ensures in
    let f = c.in_ok-fill.ensures in
    handed_last _ _ _ _ _ _ _ _ (reading_more _ _ _ _ _ _ _ _ _ _ c.loop.invariant t.found t.after (ap length c.left-seen.ensures) f.2 f.3) c.finish.ensures (f.4 (omega arith))

pub loop-preserved : goal.loop-preserved
loop-preserved g c =
    let t = c.if-take_line.ensures in
    let f = c.in_ok-fill.ensures in
    reading_more _ _ _ _ _ _ _ _ _ _ c.loop.invariant t.found t.after (ap length c.left-seen.ensures) f.2 f.3
