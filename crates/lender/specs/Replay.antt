-- What the keeper's journal replays to: the numbers of each part, and the parts.
-- Assumes nothing.
use Rattle.std.specs.Prelude.{◌≡◌, ℕ, List, [], ◌∷◌, Option}
use Rattle.message.specs.Format.{Msg}
use Rattle.journal.specs.Records.{Rec, Applied, VoidUpTo, Numbers}
use Rattle.part.specs.Parts.{at_1, blank}
use Rattle.lender.specs.declared.keeper.Keeper.{Keeper}
use Rattle.lender.specs.Book.{keeper_book, keeper_parts}
use Rattle.lender.specs.Rules.{Book, at_2}
use Rattle.lender.specs.Replies.{heard_effect, heard_book, heard_parts}

-- what outlasts a stop
pub record Memory : Type 0 where
  pub done : ℕ → ℕ → ℕ
  pub void : ℕ → ℕ → ℕ
  pub parts : ℕ → List ℕ

abbrev pub memory : Book → (ℕ → List ℕ) → Memory
memory m f = record { done = m.done; void = m.void; parts = f }

-- one record
abbrev pub redo : Rec → Memory → Memory
redo (Applied i q n v) s = record { done = at_2 q i n s.done; void = s.void; parts = at_1 q v s.parts }
redo (VoidUpTo i q n) s = record { done = s.done; void = at_2 q i n s.void; parts = s.parts }
redo (Numbers q a w) s = s

-- records one after another
abbrev pub replay : List Rec → Memory → Memory
replay [] s = s
replay (r ∷ rs) s = replay rs (redo r s)

-- an empty journal: nothing was written
abbrev pub nothing : Memory
nothing = record { done = λ q i. 0; void = λ q i. 0; parts = blank }

-- what memory has after a message is what it had before, with the records of the message replayed
abbrev pub Kept : Type 0
Kept =
    (c : ℕ) (o : Option Msg) (m : Book) (f : ℕ → List ℕ)
    → memory (heard_book c o m) (heard_parts c o m f) ≡ replay (heard_effect c o m f).records (memory m f)

-- a record makes this of the keeper: its memory is redone, its leases, grace period and terms are as they were
pub record Redone (was : Keeper) (r : Rec) (is : Keeper) : Type 0 where
  pub kept : memory (keeper_book is) (keeper_parts is) ≡ redo r (memory (keeper_book was) (keeper_parts was))
  pub leases : (keeper_book is).leases ≡ (keeper_book was).leases
  pub quiet : (keeper_book is).quiet ≡ (keeper_book was).quiet
  pub long : (keeper_book is).long ≡ (keeper_book was).long
