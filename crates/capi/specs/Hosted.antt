-- What the host's journal is to its keeper, or its tablet, where it appends what each call leaves.
use Rattle.std.specs.Prelude.{ℕ, List, ◌++◌, take, Result}
use Rattle.message.specs.declared.refusal.Refusal.{Refusal}
use Rattle.journal.specs.declared.record.Owner.{Owner}
use Rattle.journal.specs.declared.record.Owner.TheVariants as owner
use Rattle.journal.specs.Made.{IsMade}
use Rattle.journal.specs.Records.{Rec}
use Rattle.machine.specs.Effects.{Effect}
use Rattle.machine.specs.Nodes.{Has}
use Rattle.keeping.specs.Rules as keeping
use Rattle.borrowing.specs.Rules as borrowing
use Rattle.capi.specs.declared.reply.Answer.{Answer}
use Rattle.capi.specs.Runs.{CameUp, Did}

-- with the bytes of a call's record behind it, a journal goes on making what outlasts a stop
abbrev pub Appends : Owner → (T D V : Type 0) → (redo : D → Rec → D) → (fresh : D) → Type 0
Appends o T D V redo fresh =
    (rules : T → D → V → V × Effect) (was is : Has T D V) (a : Answer) (filed_was filed_is sent_was sent_is journal : List ℕ)
    → Did o redo rules was is a filed_was filed_is sent_was sent_is
    → IsMade o redo fresh was.durable journal → IsMade o redo fresh is.durable (journal ++ take a.reply.«record_size» filed_is)

-- so it is with a keeper and with a tablet; and a keeper's coming up needs nothing in its journal
pub record Hosted : Type 0 where
  pub up : (was is : Has ℕ keeping.Durable keeping.Volatile) (clock : ℕ) (r : Result (Unit {0}) Refusal) (journal : List ℕ)
      → CameUp keeping.redo keeping.wakes clock was is r
      → IsMade owner.Keeper keeping.redo keeping.fresh was.durable journal → IsMade owner.Keeper keeping.redo keeping.fresh is.durable journal
  pub keeper : Appends owner.Keeper ℕ keeping.Durable keeping.Volatile keeping.redo keeping.fresh
  pub tablet : Appends owner.Borrower borrowing.Terms borrowing.Durable borrowing.Volatile borrowing.redo borrowing.fresh
