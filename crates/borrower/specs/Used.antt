-- The numbers on file are at least those that were used, that is, sent in a message.
-- Assumes nothing.
use Rattle.std.specs.Prelude.{◌≡◌, ℕ, ◌+◌, ◌≤◌, cond, List, [], ◌∷◌}
use Rattle.message.specs.declared.kind.Kind.{Kind}
use Rattle.message.specs.Format.{Msg, Ask, Loan, Write, In, Void, Recall, Back}
use Rattle.borrower.specs.declared.hold.Part.{Part}
use Rattle.borrower.specs.declared.hold.OnFile.{OnFile}
use Rattle.borrower.specs.declared.outcome.Call.{Call}
use Rattle.borrower.specs.Steps.{last_number, rounded, kept_of, recall_of}
use Rattle.borrower.specs.Outcomes.{due, call_effect, call_part, lent_part}

-- what is on file after a step
abbrev pub on_file : (was : Part) → OnFile → (is : Part) → OnFile
on_file p f p' = cond (due p f p') (kept_of f p') f

-- the part's numbers are on file, but for an ask number that is one above and was not used yet, as after coming up
pub record Near (f : OnFile) (p : Part) : Type 0 where
  pub ask_rounded : rounded f.ask ≡ f.ask
  pub write_rounded : rounded f.write ≡ f.write
  pub ask : p.ask ≤ f.ask + 1
  pub ask_last : p.ask ≤ last_number
  pub write : p.write ≤ f.write

-- the numbers that a borrower's message carries are on file
abbrev pub Used : OnFile → Msg → Type 0
Used f (Ask w q n k l) = (n ≤ f.ask) × (l ≤ f.write)
Used f (Loan w q n k v) = Unit {0}
Used f (Write w q n v) = n ≤ f.write
Used f (In w q n) = Unit {0}
Used f (Void w q n) = Unit {0}
Used f (Recall w q) = Unit {0}
Used f (Back w q n) = n ≤ f.ask

abbrev pub AllUsed : OnFile → List Msg → Type 0
AllUsed f [] = Unit {0}
AllUsed f (m ∷ ms) = Used f m × AllUsed f ms

-- each step keeps it so: of a call, of a recall and of a loan
pub record Covered : Type 0 where
  pub call : (w q : ℕ) (v : List ℕ) (c s : ℕ) (k : Call) (p : Part) (f : OnFile) → Near f p
      → Near (on_file p f (call_part c s k p)) (call_part c s k p) × AllUsed (on_file p f (call_part c s k p)) (call_effect w q v c s k p f).sends
  pub recall : (p : Part) (f : OnFile) → Near f p
      → Near (on_file p f (recall_of p).0) (recall_of p).0 × ((recall_of p).1 ≤ (on_file p f (recall_of p).0).ask)
  pub loan : (n : ℕ) (k : Kind) (p : Part) (f : OnFile) → Near f p → Near (on_file p f (lent_part n k p)) (lent_part n k p)
