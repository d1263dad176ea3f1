-- What the calls on a store leave of the file that it stands for.
-- Assumes nothing.
use Rattle.std.specs.Prelude.{◌≡◌, ℕ, List, ◌++◌, take, Ok, Err, Result}

-- a file: what was appended to it, and what is known to be on disk, so that after a stop it has these bytes
-- and some first part of the rest
pub record Disk : Type 0 where
  pub appended : List ℕ
  pub synced : List ℕ

-- more bytes were appended and nothing synced: these and no others, or, where that failed, some first part of them
abbrev pub Grown : {T E : Type 0} → (was : Disk) → (more : List ℕ) → (is : Disk) → Result T E → Type 0
Grown was more is (Ok x) = (is.appended ≡ was.appended ++ more) × (is.synced ≡ was.synced)
Grown was more is (Err e) = (k : ℕ) × (is.appended ≡ was.appended ++ take k more) × (is.synced ≡ was.synced)

-- the file was synced: all that was appended is on disk, or, where that failed, what was known to be
abbrev pub Saved : {T E : Type 0} → (was is : Disk) → Result T E → Type 0
Saved was is (Ok x) = (is.appended ≡ was.appended) × (is.synced ≡ was.appended)
Saved was is (Err e) = (is.appended ≡ was.appended) × (is.synced ≡ was.synced)

-- more bytes were appended and all synced, or, where that failed, some first part was appended
abbrev pub Committed : {T E : Type 0} → (was : Disk) → (more : List ℕ) → (is : Disk) → Result T E → Type 0
Committed was more is (Ok x) = (is.appended ≡ was.appended ++ more) × (is.synced ≡ is.appended)
Committed was more is (Err e) = (k : ℕ) × (is.appended ≡ was.appended ++ take k more) × (is.synced ≡ was.synced)
