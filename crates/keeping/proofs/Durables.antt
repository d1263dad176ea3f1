-- What outlasts a stop is the same where its fields are.
use Rattle.std.proofs.Common.{◌≡◌}
use Rattle.keeping.specs.Rules.{Durable}

pub same_durable : (m n : Durable) → m.done ≡ n.done → m.void ≡ n.void → m.parts ≡ n.parts → m ≡ n
same_durable m n d o p = λ i. record { done = d i; void = o i; parts = p i }
