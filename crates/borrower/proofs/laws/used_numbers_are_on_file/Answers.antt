use Rattle.borrower.proofs.Used.{covered}
use Rattle.borrower.proofs.laws.used_numbers_are_on_file.Goals as goal

pub returns : goal.returns
returns c = covered
