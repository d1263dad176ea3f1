-- The parts of the files: what stands in each, at first and after one of them is written.
-- Assumes nothing.
use Rattle.std.specs.Prelude.{ℕ, cond, List, [], replicate, vec_items, ◌==◌, nat_lt, slice_index_or}
use Rattle.part.specs.declared.files.Files.{Files}

-- what each part holds
abbrev pub parts : Files → ℕ → List ℕ
parts f q = slice_index_or (vec_items f.parts) q []

-- f with another value at one place
abbrev pub at_1 : {X : Type 0} → ℕ → X → (ℕ → X) → ℕ → X
at_1 q v f = λ p. cond (p == q) v (f p)

-- a part that nobody has written: zeros
unfoldable pub blank : ℕ → List ℕ
blank q = cond (nat_lt q 16384) (replicate 1024 0) []
