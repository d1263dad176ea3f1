use Rattle.std.proofs.Common.{rules}
use Rattle.journal.proofs.Readers.{from_body}
use Rattle.journal.proofs.read.first.Goals as goal

pub returns-in-Keeper-eq8 : goal.returns-in-Keeper-eq8
returns-in-Keeper-eq8 c = from_body _ _ c.args.bytes.now 8 _ c.in-Keeper-eq8.is-0 (search rules) c.in-Keeper-eq8.is-1 c.applied.ensures

pub returns-in-Keeper-eq9 : goal.returns-in-Keeper-eq9
returns-in-Keeper-eq9 c = from_body _ _ c.args.bytes.now 9 _ c.in-Keeper-eq9.is-0 (search rules) c.in-Keeper-eq9.is-1 c.void_up_to.ensures

pub returns-in-Borrower-eq10 : goal.returns-in-Borrower-eq10
returns-in-Borrower-eq10 c = from_body _ _ c.args.bytes.now 10 _ c.in-Borrower-eq10.is-0 (search rules) c.in-Borrower-eq10.is-1 c.numbers.ensures
