use Rattle.std.proofs.Common.{◌≡◌, List, get_or, replicate, rules, ap, ◌∙◌, subst}
use mathlib.Core.Path.{fun_ext}
use Rattle.borrowing.specs.declared.on_file.OnFile.{OnFile}
use Rattle.borrowing.specs.Rules.{no_numbers}
use Rattle.borrowing.proofs.Same.{all_same}
use Rattle.borrowing.proofs.durable.Durable.new.Goals as goal

pub returns : goal.returns
returns c =
    let first : c.default.result ≡ no_numbers = search rules in
    let all : c.in_ok-numbers.numbers.items ≡ replicate 16384 no_numbers = subst (λ (k : OnFile). c.in_ok-numbers.numbers.items ≡ replicate 16384 k) first (c.in_ok-numbers.ensures.items_if_clones_equal (λ y e. e)) in
    fun_ext (λ q. ap (λ (xs : List OnFile). get_or xs q no_numbers) all ∙ all_same 16384 no_numbers q)
