use Rattle.std.proofs.Common.{◌≡◌, ℕ, List, length, vec_items, ◌∙◌, arith}
use Rattle.std.proofs.lemmas.List.{drop_all}
use Rattle.lines.proofs.Handing.{rest_line}
use Rattle.lines.proofs.input.Input.take_rest.Goals as goal

pub returns : goal.returns
returns c =
    let held : List ℕ = vec_items c.args.self.now.held in
    let one : c.len-self.result ≡ length held = c.len-self.ensures ∙ c.args.self.now.held.ok.0 in
    let two : c.len-self-2.result ≡ length held = c.len-self-2.ensures ∙ c.args.self.now.held.ok.0 in
    record { line = rest_line held c.args.self.now.next _ one; after = drop_all _ held (omega arith) }
