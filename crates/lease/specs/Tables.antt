-- The list of leases that a table holds.
-- Assumes nothing.
use Rattle.std.specs.Prelude.{Bool, List, map, vec_items}
use Rattle.std.specs.List.{range_with_len}
use Rattle.lease.specs.declared.lease.Lease.{Lease}
use Rattle.lease.specs.declared.table.Table.{Table}
use Rattle.lease.specs.Leases.{of_borrower}
use Rattle.std.specs.List.{list_any}

abbrev pub leases : Table → List Lease
leases t = vec_items t.leases

-- for each of the 32 borrowers, whether it has a lease that passes
unfoldable pub marks_of : (Lease → Bool) → List Lease → List Bool
marks_of p ls = map (λ w. list_any (of_borrower p w) ls) (range_with_len 0 32)
