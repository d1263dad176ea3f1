-- The calls that a line of a tablet's input says, by the words behind its reading.
use Rattle.std.specs.Prelude.{ℕ, List, [], ◌∷◌, length, Some, None, codes, Option, ◌==◌, if◌then◌else◌}
use Rattle.std.specs.Option.{option_map}
use Rattle.std.specs.Str.{bytes_eq}
use Rattle.lines.specs.Chains.{and_then}
use Rattle.lines.specs.Hex.{is_hex, hex_bytes}
use Rattle.lines.specs.Names.{place_of, kind_of}
use Rattle.machine.specs.Inputs.{Call, Ask, Show, Write, Forget}

-- a part of exactly 1,024 bytes: a shorter one may have been cut
abbrev pub write_of : (place : ℕ) → (word : List ℕ) → Option Call
write_of q w = (if is_hex w then (if length (hex_bytes w) == 1024 then Some (Write q (hex_bytes w)) else None) else None)

-- show F P, or forget F P
abbrev pub two_of : (verb : List ℕ) → (place : ℕ) → Option Call
two_of v q =
    (if bytes_eq v (codes "show") then Some (Show q) else
    (if bytes_eq v (codes "forget") then Some (Forget q) else None))

-- ask F P K, or write F P HEX
abbrev pub three_of : (verb : List ℕ) → (place : ℕ) → (word : List ℕ) → Option Call
three_of v q w =
    (if bytes_eq v (codes "ask") then option_map (λ k. Ask q k) (kind_of w) else
    (if bytes_eq v (codes "write") then write_of q w else None))

abbrev pub calls_of : List (List ℕ) → Option Call
calls_of (v ∷ f ∷ p ∷ []) = and_then (place_of f p) (two_of v)
calls_of (v ∷ f ∷ p ∷ x ∷ []) = and_then (place_of f p) (λ q. three_of v q x)
calls_of _ = None
