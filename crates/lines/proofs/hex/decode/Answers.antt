use Rattle.std.proofs.Common.{ℕ, Some, sym, ap, ◌∙◌}
use Rattle.std.proofs.lemmas.Bool.{cond-true}
use Rattle.lines.proofs.HexTexts.{length_bytes}
use Rattle.lines.proofs.hex.decode.Goals as goal

pub returns : goal.returns
returns c =
    let yes = sym c.if-not-is_hex.ensures in
    record {
      count = ap (λ (n : ℕ). Some n) (sym (length_bytes c.args.text.now)) ∙ sym (cond-true _ _ _ yes);
      after = c.put.ensures ∙ sym (cond-true _ _ _ yes);
    }
