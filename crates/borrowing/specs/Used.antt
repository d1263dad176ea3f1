-- The numbers on file are at least those that were used, that is, sent in a message.
use Rattle.std.specs.Prelude.{◌≡◌, ℕ, ◌+◌, ◌≤◌, List, [], ◌∷◌, Ok, Err, Result, fold}
use Rattle.message.specs.declared.refusal.Refusal.{Refusal}
use Rattle.message.specs.Format.{Msg, Ask, Write, Back}
use Rattle.machine.specs.Effects.{Effect}
use Rattle.machine.specs.Inputs.{Input}
use Rattle.borrowing.specs.declared.hold.Part.{Part}
use Rattle.borrowing.specs.declared.on_file.OnFile.{OnFile}
use Rattle.borrowing.specs.Parts.{last_number, rounded}
use Rattle.borrowing.specs.Rules.{Terms, Durable, Volatile, fresh, redo, wakes, step}

-- numbers on file are rounded up
pub record Rounded (f : OnFile) : Type 0 where
  pub ask : rounded f.ask ≡ f.ask
  pub write : rounded f.write ≡ f.write

-- the part's numbers are on file, but for an ask number that is one above, which was not used yet, as
-- after coming up
pub record Near (f : OnFile) (p : Part) : Type 0 where
  pub filed : Rounded f
  pub ask : p.ask ≤ f.ask + 1
  pub ask_last : p.ask ≤ last_number
  pub write : p.write ≤ f.write

abbrev pub AllNear : Durable → Volatile → Type 0
AllNear d v = (q : ℕ) → Near (d q) (v.parts q)

-- the numbers that a borrower's message carries are on file
abbrev pub Used : Durable → Msg → Type 0
Used d (Ask i q n k l) = (n ≤ (d q).ask) × (l ≤ (d q).write)
Used d (Write i q n bs) = n ≤ (d q).write
Used d (Back i q n) = n ≤ (d q).ask
Used d _ = Unit {0}

abbrev pub AllUsed : Durable → List Msg → Type 0
AllUsed d [] = Unit {0}
AllUsed d (m ∷ ms) = Used d m × AllUsed d ms

-- once what has come of it is on file, the parts' numbers are near again, and those sent are on file
pub record Covers (d : Durable) (x : Volatile × Effect) : Type 0 where
  pub near : AllNear (fold redo d x.1.records) x.0
  pub used : AllUsed (fold redo d x.1.records) x.1.sends

abbrev pub WokenCovers : Durable → Result (Volatile × Effect) Refusal → Type 0
WokenCovers d (Ok x) = Covers d x
WokenCovers d (Err e) = Unit {0}

-- at first all numbers on file are rounded; so coming up keeps to it, and so does every step
pub record AllCovered : Type 0 where
  pub at_first : (q : ℕ) → Rounded (fresh q)
  pub up : (t : Terms) (c : ℕ) (d : Durable) → ((q : ℕ) → Rounded (d q)) → WokenCovers d (wakes t c d)
  pub steps : (t : Terms) (c : ℕ) (x : Input) (d : Durable) (v : Volatile) → AllNear d v
      → Covers d (step t c x d v)
