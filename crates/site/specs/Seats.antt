-- Whose nodes some nodes are, and how long a loan is for each.
-- Assumes nothing.
use Rattle.std.specs.Prelude.{ℕ, List, map}
use Rattle.site.specs.declared.borrower_node.BorrowerNode.{BorrowerNode}

abbrev pub seats : List BorrowerNode → List ℕ
seats ns = map (λ (n : BorrowerNode). n.who.id) ns

abbrev pub times : List BorrowerNode → List ℕ
times ns = map (λ (n : BorrowerNode). n.short) ns
