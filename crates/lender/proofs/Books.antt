-- Two books are the same where their fields are.
-- Assumes nothing.
use Rattle.std.proofs.Common.{◌≡◌}
use Rattle.lender.specs.Rules.{Book}

pub same_book : (m n : Book) → m.done ≡ n.done → m.void ≡ n.void → m.leases ≡ n.leases → m.quiet ≡ n.quiet → m.long ≡ n.long → m ≡ n
same_book m n d o l q t = λ i. record { done = d i; void = o i; leases = l i; quiet = q i; long = t i }
