-- The file of the system that some steps were told of.
use Rattle.std.specs.Prelude.{◌≡◌, ℕ, ◌+◌, ◌<◌, ◌≤◌, List, ◌++◌, length, take, Ok, Err, Result}
use Rattle.journal.specs.declared.store.StoreError.{StoreError}
use Rattle.journal.specs.declared.store.StoreError.TheVariants.{NoMemory, Failed}
use Rattle.journal.specs.declared.store.told.Told.{Told}
use Rattle.journal.specs.Stores.{Disk}

abbrev pub told : Told → Disk
told t = record { appended = t.appended; synced = t.synced }

-- The system took so many of the first bytes, and none only where it failed. Where it failed for good, it took none.
abbrev pub Taken : (was : Told) → (bytes : List ℕ) → (is : Told) → Result ℕ StoreError → Type 0
Taken was bs is (Ok n) =
    (n ≤ length bs) × (is.appended ≡ was.appended ++ take n bs) × (is.synced ≡ was.synced)
    × (was.faults ≤ is.faults) × (was.faults < n + is.faults)
Taken was bs is (Err Failed) = (told is ≡ told was) × (was.faults < is.faults)
Taken was bs is (Err NoMemory) = ⊥

-- So many bytes came into the front of the block, and follow what is known. Where it could not be
-- read, the system has failed since.
abbrev pub Got : (was is : Told) → (room : ℕ) → (block : List ℕ) → Result ℕ StoreError → Type 0
Got was is room block (Ok n) =
    (n ≤ room) × (is.appended ≡ was.appended ++ take n block)
    × (is.synced ≡ was.synced ++ take n block) × (is.found ≡ was.found ++ take n block)
    × (was.faults ≤ is.faults)
Got was is room block (Err Failed) =
    (told is ≡ told was) × (is.found ≡ was.found) × (was.faults < is.faults)
Got was is room block (Err NoMemory) = ⊥
