use Rattle.std.proofs.Common.{arith}
use Rattle.message.specs.Laws.{NoneLonger}
use Rattle.message.specs.Format.{Ask, Loan, Write, In, Void, Recall, Back}
use Rattle.message.proofs.Unique.{long}
use Rattle.message.proofs.laws.none_is_longer.Goals as goal

none_longer : NoneLonger 1033
none_longer (Ask w q n k l) f = omega (arith, long (Ask w q n k l) f)
none_longer (Loan w q n k v) f = omega (arith, long (Loan w q n k v) f)
none_longer (Write w q n v) f = omega (arith, long (Write w q n v) f)
none_longer (In w q n) f = omega (arith, long (In w q n) f)
none_longer (Void w q n) f = omega (arith, long (Void w q n) f)
none_longer (Recall w q) f = omega (arith, long (Recall w q) f)
none_longer (Back w q n) f = omega (arith, long (Back w q n) f)

pub returns : goal.returns
returns c = none_longer
