-- No two leases that run clash: another's of the same part, one of the two for writing.
-- Assumes nothing.
use Rattle.std.specs.Prelude.{◌≡◌, ℕ, ◌≤◌, Bool, false, ◌&&◌, List, [], ◌∷◌, ◌++◌, filter}
use Rattle.lease.specs.declared.lease.Lease.{Lease}
use Rattle.lease.specs.Leases.{running, barring, staying}
use Rattle.std.specs.List.{list_any}

-- both run, and the one bars the other
abbrev pub clash : (clock : ℕ) → Lease → Lease → Bool
clash c a b = running c a && barring c a.who a.place a.kind b

abbrev pub Exclusive : (clock : ℕ) → List Lease → Type 0
Exclusive c [] = Unit {0}
Exclusive c (a ∷ ls) = (list_any (clash c a) ls ≡ false) × Exclusive c ls

-- what the table does to leases of which no two clash leaves such
pub record NeverClash : Type 0 where
  -- time goes on
  pub later : (c d : ℕ) (ls : List Lease) → c ≤ d → Exclusive c ls → Exclusive d ls
  -- those that no longer run are dropped, and one is added that nothing bars
  pub granted : (c : ℕ) (ls : List Lease) (x : Lease) → list_any (barring c x.who x.place x.kind) ls ≡ false → Exclusive c ls
      → Exclusive c (filter (running c) ls ++ x ∷ [])
  -- some are ended
  pub ended : (c w q n : ℕ) (ls : List Lease) → Exclusive c ls → Exclusive c (filter (staying w q n) ls)
