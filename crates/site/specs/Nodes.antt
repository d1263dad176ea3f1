-- The borrowers of a site by their numbers, and where messages are meant to arrive.
-- Assumes nothing.
use Rattle.std.specs.Prelude.{ℕ, cond, Some, None, Option, ◌==◌}
use Rattle.std.specs.Option.{option_map}
use Rattle.message.specs.Format.{Msg, Ask, Loan, Write, In, Void, Recall, Back}
use Rattle.site.specs.declared.event.Borrower.{Borrower as Who}
use Rattle.site.specs.declared.event.Borrower.TheVariants.{Zero, One, Two, Three}
use Rattle.site.specs.declared.event.Node.{Node}
use Rattle.site.specs.declared.event.Node.TheVariants.{Keeper, Borrower}

abbrev pub borrower_number : Who → ℕ
borrower_number Zero = 0
borrower_number One = 1
borrower_number Two = 2
borrower_number Three = 3

abbrev pub borrower_at : ℕ → Option Who
borrower_at n = cond (n == 0) (Some Zero) (cond (n == 1) (Some One) (cond (n == 2) (Some Two) (cond (n == 3) (Some Three) None)))

-- where a message is meant to arrive; there are four borrowers
abbrev pub receiver_of : Option Msg → Option Node
receiver_of None = None
receiver_of (Some (Ask w q n k l)) = Some Keeper
receiver_of (Some (Loan w q n k v)) = option_map (λ b. Borrower b) (borrower_at w)
receiver_of (Some (Write w q n v)) = Some Keeper
receiver_of (Some (In w q n)) = option_map (λ b. Borrower b) (borrower_at w)
receiver_of (Some (Void w q n)) = option_map (λ b. Borrower b) (borrower_at w)
receiver_of (Some (Recall w q)) = option_map (λ b. Borrower b) (borrower_at w)
receiver_of (Some (Back w q n)) = Some Keeper
