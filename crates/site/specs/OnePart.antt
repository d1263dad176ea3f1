-- What a record of a keeper's journal leaves of one part.
-- Assumes nothing.
use Rattle.std.specs.Prelude.{◌≡◌, ℕ, List, cond, ◌==◌}
use Rattle.journal.specs.Records.{Rec, Applied, VoidUpTo, Numbers}
use Rattle.site.specs.declared.written.Written.{Written}

abbrev pub rewritten : (place : ℕ) → Rec → List ℕ → List ℕ
rewritten q (Applied i p n v) b = cond (q == p) v b
rewritten q (VoidUpTo i p n) b = b
rewritten q (Numbers p a w) b = b

pub record Rewritten (was : Written) (r : Rec) (is : Written) : Type 0 where
  pub bytes : is.bytes ≡ rewritten was.place.at r was.bytes
  pub place : is.place.at ≡ was.place.at
