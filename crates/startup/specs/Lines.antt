-- What a line of a program's input says, by its words.
use Rattle.std.specs.Prelude.{ℕ, List, [], ◌∷◌, take, Some, None, Option, if◌then◌else◌}
use Rattle.std.specs.Option.{option_map}
use Rattle.lines.specs.Decimals.{number_of}
use Rattle.lines.specs.Hex.{is_hex, hex_bytes}
use Rattle.machine.specs.Inputs.{Call, Input, Came, Called, Reading, input_of}
use Rattle.startup.specs.declared.said.Said.{Said}

abbrev pub said_of : Said → ℕ × Input
said_of s = (s.clock, input_of s.input)

-- so many bytes of a line are kept: one more than the longest message has
abbrev pub room : ℕ
room = 1034

-- a message that came; of one that is longer than any, its first bytes stand for it
abbrev pub came_of : List ℕ → Option Input
came_of h = (if is_hex h then Some (Came (take room (hex_bytes h))) else None)

-- by the words behind the reading: none, a message, or a call, of which `calls` says which words say one
abbrev pub input_in : (calls : List (List ℕ) → Option Call) → List (List ℕ) → Option Input
input_in calls [] = Some Reading
input_in calls (h ∷ []) = came_of h
input_in calls (v ∷ w ∷ ws) = option_map Called (calls (v ∷ w ∷ ws))

abbrev pub said_by : Option ℕ → Option Input → Option (ℕ × Input)
said_by None x = None
said_by (Some c) None = None
said_by (Some c) (Some x) = Some (c, x)

-- A LINE: a reading of the clock, and what comes with it
abbrev pub said_in : (calls : List (List ℕ) → Option Call) → List (List ℕ) → Option (ℕ × Input)
said_in calls [] = None
said_in calls (c ∷ ws) = said_by (number_of c) (input_in calls ws)
