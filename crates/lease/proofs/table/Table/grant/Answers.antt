use Rattle.std.proofs.Common.{length, ap, arith}
use Rattle.std.proofs.lemmas.List.Sums.{length-filter}
use Rattle.lease.specs.Leases.{running}
use Rattle.lease.specs.Tables.{leases}
use Rattle.lease.proofs.table.Table.grant.Goals as goal

pub push_reserved-requires : goal.push_reserved-requires
push_reserved-requires c =
    omega (arith, c.requires, length-filter (running c.args.clock) (leases c.args.self.now), ap length c.expire.ensures)

pub invariant_of-self : goal.invariant_of-self
invariant_of-self c =
    let e = length-filter (running c.args.clock) (leases c.args.self.now) in
    let l = ap length c.expire.ensures in
    record { room = omega (arith, c.requires, e, l); most = omega (arith, c.requires, e, l) }
