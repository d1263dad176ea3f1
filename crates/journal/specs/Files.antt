-- Files of the system.
use Rattle.std.specs.Prelude.{◌≡◌, ◌⊎◌, ℕ, ◌<◌, false, List, take, codes, Some, None, Option}
use Rattle.journal.specs.declared.source.file.CutError.{CutError}
use Rattle.journal.specs.declared.source.file.CutError.TheVariants as uncut
use Rattle.journal.specs.declared.source.file.FileError.{FileError}
use Rattle.journal.specs.declared.source.file.FileError.TheVariants.{InUse, System}
use Rattle.journal.specs.declared.source.file.FileSource.{FileSource}
use Rattle.journal.specs.declared.store.told.Told.{Told}

-- what is printed where a file was not opened; of a failure of the system, what the system says
abbrev pub file_error_text : FileError → Option (List ℕ)
file_error_text InUse = Some (codes "FILE is in use by another program")
file_error_text (System e) = None

-- a file that was to be cut to so many bytes, and the disk has failed since: it is as it was, or cut
pub record Failed (was : Told) (size : ℕ) (is : Told) : Type 0 where
  pub cause : was.faults < is.faults
  pub found : is.found ≡ was.found
  pub left : (is.appended ≡ was.appended) ⊎ (is.appended ≡ take size was.appended)

-- why a source was not cut to so many bytes: it was not read to its end, and the file is as it was;
-- or the disk has failed
abbrev pub Uncut : FileSource → (size : ℕ) → CutError → Type 0
Uncut s n (uncut.Unread t) = (s.ended ≡ false) × (t ≡ s.told)
Uncut s n (uncut.Failed t) = Failed s.told n t
