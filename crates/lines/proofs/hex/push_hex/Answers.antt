use Rattle.std.proofs.Common.{◌≡◌, ℕ, ◌+◌, ◌*◌, ◌-◌, List, [], ◌++◌, length, take, drop, ap, ◌∙◌, rules, arith}
use Rattle.std.proofs.lemmas.List.{drop_all, append-nil, length-take, length-drop}
use Rattle.lines.specs.Hex.{hex_text}
use Rattle.lines.proofs.HexTexts.{length_text, tail_written, filled_up}
use Rattle.lines.proofs.hex.push_hex.Goals as goal

pub returns : goal.returns
returns c =
    let start = c.len-start.result in
    let items : List ℕ = c.resize.new.self.items in
    let all : List ℕ = c.deref_mut.result.now in
    let bytes = c.args.bytes.now in
    let digits : c.in_ok-digits.digits ≡ 2 * length bytes = search rules in
    let long : length items ≡ start + 2 * length bytes = search rules in
    let size : c.in_ok-ok_or.field-0 ≡ start + 2 * length bytes = search rules in
    let front = filled_up c.args.out.now.items items _ start c.in_ok-ok_or.field-0 c.in_ok-resize.ensures.items (omega arith) (omega (arith, size)) in
    let tail : List ℕ = take (length all - start) (drop start all) in
    let over : drop (2 * length bytes) tail ≡ [] = drop_all (2 * length bytes) tail (omega (arith, length-take (length all - start) (drop start all), length-drop start all)) in
    let text : c.write_digits.new.out ≡ hex_text bytes = c.write_digits.ensures ∙ ap (λ (q : List ℕ). hex_text bytes ++ q) over ∙ append-nil (hex_text bytes) in
    tail_written items all c.write_digits.new.out _ start _ c.deref_mut.ensures.value (omega arith) (omega (arith, ap length text, length_text bytes, long)) (drop_all (length all - start) (drop start all) (omega (arith, length-drop start all)))
    ∙ ap (λ (q : List ℕ). q ++ c.write_digits.new.out) front ∙ ap (λ (q : List ℕ). c.args.out.now.items ++ q) text
