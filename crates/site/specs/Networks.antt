-- What was ever sent over a network.
-- Assumes nothing.
use Rattle.std.specs.Prelude.{ℕ, List, map, vec_items}
use Rattle.site.specs.declared.network.Network.{Network}

abbrev pub sent_of : Network → List (List ℕ)
sent_of n = map vec_items (vec_items n.sent)
