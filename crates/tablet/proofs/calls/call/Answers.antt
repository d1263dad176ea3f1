use Rattle.std.proofs.Common.{ℕ, List, ◌∷◌, Option, sym, ap, ◌∙◌, Bor}
use Rattle.lines.specs.Words.{rest_words}
use Rattle.lines.proofs.Splits.{words_split}
use Rattle.tablet.specs.Calls.{calls_of}
use Rattle.tablet.proofs.calls.call.Goals as goal

-- a fourth word behind the call is in no form
pub returns-in_default-more : goal.returns-in_default-more
returns-in_default-more c =
    let v = c.args.verb.now in
    let f = c.split.result.0.now in
    let p = c.split-2.result.0.now in
    let x = c.split-3.result.0.now in
    let first = c.split.ensures ∙ ap (λ (o : Option (Bor (List ℕ))). f ∷ rest_words o) c.in_ok-more.was in
    let second = c.split-2.ensures ∙ ap (λ (o : Option (Bor (List ℕ))). p ∷ rest_words o) c.in-Some.is in
    let third = c.split-3.ensures ∙ ap (λ (o : Option (Bor (List ℕ))). x ∷ rest_words o) c.in_default-more.is in
    let fourth = words_split c.in_default-more.field-0.now in
    sym (ap (λ (ws : List (List ℕ)). calls_of (v ∷ ws))
    (first ∙ ap (λ (ws : List (List ℕ)). f ∷ ws) (second ∙ ap (λ (ws : List (List ℕ)). p ∷ ws) (third ∙ ap (λ (ws : List (List ℕ)). x ∷ ws) fourth))))
