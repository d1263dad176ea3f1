use Rattle.lease.specs.Leases.{barring_ask}
use Rattle.lease.proofs.Marks.{Seen}
use Rattle.lease.proofs.table.Table.marks.Given as goal

abbrev pub invariant-loop-l : goal.invariant-loop-l
invariant-loop-l l = Seen (barring_ask l.clock l.ask) l.leases l.barred l.marks l.l-index
