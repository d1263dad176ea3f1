-- What the lines of a rehearsal's script say. A step names a part by its number in all files.
-- Assumes nothing.
use Rattle.std.specs.Prelude.{◌≡◌, ℕ, Bool, true, false, cond, ◌&&◌, List, [], ◌∷◌, length, replicate, Some, None, codes, Option, ◌==◌, nat_le}
use Rattle.std.specs.Borrow.{Bor}
use Rattle.std.specs.Option.{option_map}
use Rattle.std.specs.Str.{bytes_eq}
use Rattle.part.specs.declared.place.Place.{Place}
use Rattle.lines.specs.Chains.{and_then}
use Rattle.lines.specs.Decimals.{number_of}
use Rattle.lines.specs.Hex.{is_hex, hex_bytes, fronted}
use Rattle.lines.specs.Names.{place_of, kind_of}
use Rattle.lines.specs.Words.{words}
use Rattle.site.specs.declared.event.Borrower.{Borrower as Who}
use Rattle.site.specs.declared.event.Node.{Node}
use Rattle.site.specs.declared.event.Node.TheVariants.{Keeper, Borrower}
use Rattle.site.specs.Nodes.{borrower_at}
use Rattle.script.specs.declared.step.Act.{Act}
use Rattle.script.specs.declared.step.Act.TheVariants.{Ask, Show, Write, Forget}
use Rattle.script.specs.declared.step.Step.{Step}
use Rattle.script.specs.declared.step.Step.TheVariants.{Blank, Set, Anew, Tick, Up, Stop, Call, Deliver}

-- the step with the part's number in place of the part
abbrev pub plain : Step Place → Step ℕ
plain Blank = Blank
plain (Set keeper borrowers) = Set keeper borrowers
plain Anew = Anew
plain (Tick time by) = Tick time by
plain (Up node) = Up node
plain (Stop node) = Stop node
plain (Call who place act torn) = Call who place.at act torn
plain (Deliver message cut to torn) = Deliver message cut to torn

-- an empty line, or one that begins with '#'
abbrev pub is_blank : List ℕ → Bool
is_blank [] = true
is_blank (b ∷ bs) = b == 35

-- no word is left
abbrev pub ended : List (List ℕ) → Bool
ended [] = true
ended (w ∷ ws) = false

-- each word is a number and takes the next place, of which there are enough; the places left over stay
abbrev pub fill_of : List (List ℕ) → List ℕ → Option (List ℕ)
fill_of [] out = Some out
fill_of (w ∷ ws) [] = None
fill_of (w ∷ ws) (o ∷ out) = and_then (number_of w) (λ n. option_map (λ more. n ∷ more) (fill_of ws out))

-- a borrower by its number
abbrev pub borrower_of : List ℕ → Option Who
borrower_of w = and_then (number_of w) borrower_at

-- `keeper` or the number of a borrower
abbrev pub node_of : List ℕ → Option Node
node_of w = cond (bytes_eq w (codes "keeper")) (Some Keeper) (option_map (λ b. Borrower b) (borrower_of w))

-- 1,024 zeros
unfoldable pub zeros : List ℕ
zeros = replicate 1024 0

-- the bytes of a part: 1 to 1,024 are given, and zeros follow
abbrev pub bytes_of : List ℕ → Option (List ℕ)
bytes_of w = cond (is_hex w && nat_le (length (hex_bytes w)) 1024) (Some (fronted (hex_bytes w) zeros)) None

-- a reader gives what this definition says of each word
abbrev pub Reads : {T : Type 0} → (Bor (List ℕ) → Option T → Type 0) → (List ℕ → Option T) → Type 0
Reads post of = (w : Bor (List ℕ)) (r : _) → post w r → r ≡ of w.now

-- a key and a word of this meaning behind it may come next, and then the words behind these
abbrev pub read_behind : {T : Type 0} → (List ℕ → Option T) → List (List ℕ) → Option (Option T × List (List ℕ))
read_behind of [] = None
read_behind of (w ∷ ws) = option_map (λ x. (Some x, ws)) (of w)

abbrev pub keyed : {T : Type 0} → (List ℕ → Option T) → (key : List ℕ) → List (List ℕ) → Option (Option T × List (List ℕ))
keyed of key [] = Some (None, [])
keyed of key (w ∷ ws) = cond (bytes_eq w key) (read_behind of ws) (Some (None, w ∷ ws))

-- `stop` and a number may come last
abbrev pub torn_of : List (List ℕ) → Option (Option ℕ)
torn_of ws = and_then (keyed number_of (codes "stop") ws) (λ k. cond (ended k.1) (Some k.0) None)

-- the keeper's clock and those of borrowers 0 to 3, at 0 where not given
abbrev pub set_of : List (List ℕ) → Option (Step ℕ)
set_of [] = None
set_of (w ∷ ws) = and_then (number_of w) (λ n. option_map (λ more. Set n more) (fill_of ws (0 ∷ 0 ∷ 0 ∷ 0 ∷ [])))

-- the true time, and how far the keeper's clock and those of borrowers 0 to 3 go on: as far where not given
abbrev pub tick_of : List (List ℕ) → Option (Step ℕ)
tick_of [] = None
tick_of (w ∷ ws) = and_then (number_of w) (λ n. option_map (λ more. Tick n more) (fill_of ws (n ∷ n ∷ n ∷ n ∷ n ∷ [])))

abbrev pub anew_of : List (List ℕ) → Option (Step ℕ)
anew_of ws = cond (ended ws) (Some Anew) None

-- `up` and `stop`: who it is, and nothing more
abbrev pub only_node : List (List ℕ) → Option Node
only_node [] = None
only_node (w ∷ ws) = cond (ended ws) (node_of w) None

abbrev pub up_of : List (List ℕ) → Option (Step ℕ)
up_of ws = option_map (λ node. Up node) (only_node ws)

abbrev pub stop_of : List (List ℕ) → Option (Step ℕ)
stop_of ws = option_map (λ node. Stop node) (only_node ws)

-- the message, perhaps cut and perhaps to somebody else
abbrev pub deliver_of : List (List ℕ) → Option (Step ℕ)
deliver_of [] = None
deliver_of (w ∷ ws) =
    and_then (number_of w) (λ message.
    and_then (keyed number_of (codes "cut") ws) (λ cut.
    and_then (keyed node_of (codes "to") cut.1) (λ to.
    option_map (λ torn. Deliver message cut.0 to.0 torn) (torn_of to.1))))

-- the next two words, and those behind them
abbrev pub two_of : List (List ℕ) → Option (List ℕ × List ℕ × List (List ℕ))
two_of [] = None
two_of (v ∷ []) = None
two_of (v ∷ w ∷ ws) = Some (v, w, ws)

-- the kind of an ask and the bytes of a write, and the words behind them
abbrev pub ask_of : List (List ℕ) → Option (Act × List (List ℕ))
ask_of [] = None
ask_of (w ∷ ws) = option_map (λ kind. (Ask kind, ws)) (kind_of w)

abbrev pub write_of : List (List ℕ) → Option (Act × List (List ℕ))
write_of [] = None
write_of (w ∷ ws) = option_map (λ bytes. (Write bytes, ws)) (bytes_of w)

-- what the word says is to be done, with what stands behind the part
abbrev pub act_of : List ℕ → List (List ℕ) → Option (Act × List (List ℕ))
act_of w ws =
    cond (bytes_eq w (codes "ask")) (ask_of ws)
    (cond (bytes_eq w (codes "show")) (Some (Show, ws))
    (cond (bytes_eq w (codes "write")) (write_of ws)
    (cond (bytes_eq w (codes "forget")) (Some (Forget, ws)) None)))

-- a borrower, what it is to do, and the part by its file and its number in it
abbrev pub call_of : List ℕ → List (List ℕ) → Option (Step ℕ)
call_of b [] = None
call_of b (w ∷ ws) =
    and_then (borrower_of b) (λ who.
    and_then (two_of ws) (λ two.
    and_then (place_of two.0 two.1) (λ place.
    and_then (act_of w two.2) (λ act.
    option_map (λ torn. Call who place act.0 torn) (torn_of act.1)))))

-- the form that the first word names
abbrev pub form_of : List (List ℕ) → Option (Step ℕ)
form_of [] = None
form_of (w ∷ ws) =
    cond (bytes_eq w (codes "set")) (set_of ws)
    (cond (bytes_eq w (codes "anew")) (anew_of ws)
    (cond (bytes_eq w (codes "tick")) (tick_of ws)
    (cond (bytes_eq w (codes "up")) (up_of ws)
    (cond (bytes_eq w (codes "stop")) (stop_of ws)
    (cond (bytes_eq w (codes "deliver")) (deliver_of ws) (call_of w ws))))))

-- what a line says, where it is in one of the forms
abbrev pub step_of : List ℕ → Option (Step ℕ)
step_of line = cond (is_blank line) (Some Blank) (form_of (words line))
