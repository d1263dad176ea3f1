use Rattle.borrowing.proofs.Used.{all_covered}
use Rattle.borrowing.proofs.laws.used_numbers_are_on_file.Goals as goal

pub returns : goal.returns
returns c = all_covered
