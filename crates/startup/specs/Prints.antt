-- The lines that the programs print of what comes of a step.
use Rattle.std.specs.Prelude.{ℕ, ◌/◌, ◌%◌, List, ◌++◌, map, vec_items, codes, decimal, Ok, Err, Result}
use Rattle.std.specs.List.{flat_map}
use Rattle.lines.specs.Hex.{hex_text}
use Rattle.message.specs.declared.refusal.Refusal.{Refusal}
use Rattle.message.specs.Refusals.{refusal_number}
use Rattle.message.specs.Format.{layout}
use Rattle.machine.specs.declared.effects.Effects as code
use Rattle.machine.specs.Effects.{Effect, Note, In, Void, place_at, note_of}
use Rattle.machine.specs.Outboxes.{sent}

-- refused N
abbrev pub refused_text : Refusal → List ℕ
refused_text e = codes "refused " ++ (decimal (refusal_number e) ++ codes "\n")

-- done, or refused N
abbrev pub answer_text : Result (Unit {0}) Refusal → List ℕ
answer_text (Ok u) = codes "done\n"
answer_text (Err e) = refused_text e

-- send HEX, of the bytes of a message
abbrev pub sent_text : List ℕ → List ℕ
sent_text m = codes "send " ++ (hex_text m ++ codes "\n")

-- F P
abbrev pub place_text : (place : ℕ) → List ℕ
place_text q = decimal (q / 256) ++ (codes " " ++ decimal (q % 256))

-- show F P HEX
abbrev pub shown_text : (place : ℕ) → (bytes : List ℕ) → List ℕ
shown_text q v = codes "show " ++ (place_text q ++ (codes " " ++ (hex_text v ++ codes "\n")))

-- a word, and F P N
abbrev pub word_text : (word : List ℕ) → (place number : ℕ) → List ℕ
word_text w q n = w ++ (place_text q ++ (codes " " ++ (decimal n ++ codes "\n")))

-- in F P N, or void F P N
abbrev pub note_text : Note → List ℕ
note_text (In q n) = word_text (codes "in ") q n
note_text (Void q n) = word_text (codes "void ") q n

abbrev pub shows_text : (copies : ℕ → List ℕ) → (places : List ℕ) → List ℕ
shows_text cs qs = flat_map (λ q. shown_text q (cs q)) qs

abbrev pub sends_text : (messages : List (List ℕ)) → List ℕ
sends_text ms = flat_map sent_text ms

abbrev pub tells_text : List Note → List ℕ
tells_text ns = flat_map note_text ns

-- what is shown, with the bytes of each copy; what is sent; and what writers are told
abbrev pub given_text : (copies : ℕ → List ℕ) → Effect → List ℕ
given_text cs e = shows_text cs e.shows ++ (sends_text (map layout e.sends) ++ tells_text e.tells)

-- the same of the code's effects
abbrev pub out_text : (copies : ℕ → List ℕ) → code.Effects → List ℕ
out_text cs o =
    shows_text cs (map place_at (vec_items o.shows.items)) ++ (sends_text (sent o.sends) ++ tells_text (map note_of (vec_items o.tells.items)))

-- WHAT COMES OF A STEP, as it is printed: all that, and then the answer
abbrev pub effect_text : (copies : ℕ → List ℕ) → Effect → List ℕ
effect_text cs e = given_text cs e ++ answer_text e.answer
