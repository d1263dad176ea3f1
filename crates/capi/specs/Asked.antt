-- What a host asks of a tablet, by numbers.
use Rattle.std.specs.Prelude.{ℕ, ◌+◌, ◌*◌, if◌then◌else◌, List, length, Some, None, Option, ◌==◌, nat_lt}
use Rattle.message.specs.declared.kind.Kind.TheVariants.{Reading, Writing}
use Rattle.machine.specs.Inputs.{Input, Called, Ask, Write, Forget}

-- the part of this number in this file, where there is such a file
abbrev pub named : (file part : ℕ) → Option ℕ
named f p = (if nat_lt f 64 then Some (256 * f + p) else None)

-- an ask by the byte of its kind: 0 reading, 1 writing
abbrev pub asked : (file part kind : ℕ) → Option Input
asked f p b =
    (if nat_lt f 64 then (if b == 0 then Some (Called (Ask (256 * f + p) Reading)) else
    (if b == 1 then Some (Called (Ask (256 * f + p) Writing)) else None)) else None)

-- a write of these bytes
abbrev pub written : (file part : ℕ) → (bytes : List ℕ) → Option Input
written f p bs = (if nat_lt f 64 then (if length bs == 1024 then Some (Called (Write (256 * f + p) bs)) else None) else None)

abbrev pub forgetting : (file part : ℕ) → Option Input
forgetting f p = (if nat_lt f 64 then Some (Called (Forget (256 * f + p))) else None)
