use Rattle.std.proofs.Common.{◌∷◌, ℕ, List, Option, Bor, sym, ap, ◌∙◌}
use Rattle.std.specs.Option.{option_map}
use Rattle.lines.specs.Words.{rest_words}
use Rattle.machine.specs.Inputs.{Call, Called, input_of}
use Rattle.machine.specs.declared.input.Input as given
use Rattle.startup.specs.Lines.{input_in}
use Rattle.startup.proofs.Lines.{called}
use Rattle.startup.proofs.said.input.Goals as goal

pub returns-in_err-call-in-Some-more : goal.returns-in_err-call-in-Some-more
returns-in_err-call-in-Some-more g c =
    let w = c.split.result.0.now in
    let calls = g.P.Program.calls in
    let line = c.split.ensures ∙ ap (λ (o : Option (Bor (List ℕ))). w ∷ rest_words o) c.in-Some-more.is in
    let all = ap (λ (o : Option (Bor (List ℕ))). input_in calls (rest_words o)) c.in-Some.is in
    ap (λ (o : Option given.Input). option_map input_of o) c.from_residual.ensures ∙ ap (λ (o : Option Call). option_map Called o) c.in_err-call-in-Some-more.ensures
    ∙ sym (called calls w c.in-Some-more.args.now) ∙ sym (ap (input_in calls) line) ∙ sym all

pub returns-in_ok-call-in-Some-more : goal.returns-in_ok-call-in-Some-more
returns-in_ok-call-in-Some-more g c =
    let w = c.split.result.0.now in
    let calls = g.P.Program.calls in
    let line = c.split.ensures ∙ ap (λ (o : Option (Bor (List ℕ))). w ∷ rest_words o) c.in-Some-more.is in
    let all = ap (λ (o : Option (Bor (List ℕ))). input_in calls (rest_words o)) c.in-Some.is in
    ap (λ (o : Option Call). option_map Called o) c.in_ok-call-in-Some-more.ensures ∙ sym (called calls w c.in-Some-more.args.now)
    ∙ sym (ap (input_in calls) line) ∙ sym all
