-- What a rehearsal prints, behind what was printed before.
-- Assumes nothing.
use Rattle.std.specs.Prelude.{ℕ, suc, ◌+◌, min, ◌/◌, ◌%◌, List, [], ◌∷◌, ◌++◌, replicate, codes, decimal, Some, None, Option}
use Rattle.lines.specs.Outputs.{trimmed_text}
use Rattle.message.specs.Format.{Msg, Ask, Loan, Write, In, Void, Recall, Back, said}
use Rattle.message.specs.Kinds.{kind_byte}
use Rattle.message.specs.Reading.{read}
use Rattle.message.specs.Refusals.{refusal_number}
use Rattle.message.specs.declared.form.Message.{Message}
use Rattle.message.specs.declared.refusal.Refusal.{Refusal}
use Rattle.startup.specs.Prints.{answer_text}
use Rattle.site.specs.declared.seen.Answer.{Answer}
use Rattle.site.specs.declared.seen.Answer.TheVariants.{Given, Down, Stopped}
use Rattle.site.specs.declared.seen.Shown.TheVariants as view
use Rattle.rehearse.specs.declared.rehearsal.Said.{Said}
use Rattle.rehearse.specs.declared.rehearsal.Said.TheVariants as line

-- a line that is one word
abbrev pub word_behind : List ℕ → (word : List ℕ) → List ℕ
word_behind w t = (w ++ t) ++ (10 ∷ [])

-- a number behind a space
abbrev pub also_behind : List ℕ → ℕ → List ℕ
also_behind w n = (w ++ codes " ") ++ decimal n

-- a word, the borrower and the part
abbrev pub about_behind : List ℕ → (word : List ℕ) → (who place : ℕ) → List ℕ
about_behind w t i q = also_behind (also_behind (also_behind (w ++ t) i) (q / 256)) (q % 256)

-- the same with a number
abbrev pub head_behind : List ℕ → (word : List ℕ) → (who place number : ℕ) → List ℕ
head_behind w t i q n = also_behind (about_behind w t i q) n

-- the bytes of a part behind a space, without the zeros at their end
abbrev pub bytes_behind : List ℕ → (bytes : List ℕ) → List ℕ
bytes_behind w v = (w ++ codes " ") ++ trimmed_text v

-- what a message says
abbrev pub body_behind : List ℕ → Msg → List ℕ
body_behind w (Ask i q n k l) = also_behind (also_behind (head_behind w (codes "ask") i q n) (kind_byte k)) l
body_behind w (Loan i q n k v) = bytes_behind (also_behind (head_behind w (codes "loan") i q n) (kind_byte k)) v
body_behind w (Write i q n v) = bytes_behind (head_behind w (codes "write") i q n) v
body_behind w (In i q n) = head_behind w (codes "in") i q n
body_behind w (Void i q n) = head_behind w (codes "void") i q n
body_behind w (Recall i q) = about_behind w (codes "recall") i q
body_behind w (Back i q n) = head_behind w (codes "back") i q n

abbrev pub message_behind : List ℕ → Msg → List ℕ
message_behind w m = body_behind w m ++ (10 ∷ [])

-- what a writer is told, which carries no part
abbrev pub told_behind : List ℕ → Message → List ℕ
told_behind w m = message_behind (w ++ codes "told ") (said (replicate 1024 0) m)

-- the number of a message in the script, which counts from 1
abbrev pub number_of : (index : ℕ) → ℕ
number_of i = min 18446744073709551615 (i + 1)

-- a message that is sent, by its number; nothing of bytes that are none
abbrev pub sent_behind : List ℕ → (index : ℕ) → Option Msg → List ℕ
sent_behind w i None = w
sent_behind w i (Some m) = message_behind (((w ++ codes "sent ") ++ decimal (number_of i)) ++ codes " ") m

-- messages that are sent, one behind the other, each by its number, from this one on
abbrev pub sents_behind : List ℕ → (index : ℕ) → List (List ℕ) → List ℕ
sents_behind w i [] = w
sents_behind w i (m ∷ ms) = sents_behind (sent_behind w i (read m)) (suc i) ms

-- what the keeper has
abbrev pub kept_behind : List ℕ → (kept : List ℕ) → List ℕ
kept_behind w k = bytes_behind (w ++ codes " keeper") k ++ (10 ∷ [])

-- a copy that is shown
abbrev pub shown_behind : List ℕ → (copy kept : List ℕ) → List ℕ
shown_behind w v k = kept_behind (bytes_behind (w ++ codes "shown") v) k

-- that none is
abbrev pub not_shown_behind : List ℕ → Refusal → (kept : List ℕ) → List ℕ
not_shown_behind w e k = kept_behind ((w ++ codes "refused ") ++ decimal (refusal_number e)) k

-- the answer to an event
abbrev pub given_behind : List ℕ → Answer → List ℕ
given_behind w (Given r) = w ++ answer_text r
given_behind w Down = word_behind w (codes "down")
given_behind w Stopped = word_behind w (codes "stopped")

-- what a writer is told, if anything
abbrev pub telling_behind : List ℕ → Option Message → List ℕ
telling_behind w None = w
telling_behind w (Some m) = told_behind w m

-- what is said of a line
abbrev pub said_behind : List ℕ → Said → List ℕ
said_behind w line.Nothing = w
said_behind w line.Anew = word_behind w (codes "anew")
said_behind w (line.Seen s) = given_behind (telling_behind w s.told) s.answer
said_behind w (line.Shown (view.Copy v) k) = shown_behind w v k
said_behind w (line.Shown (view.Refused e) k) = not_shown_behind w e k
said_behind w (line.Shown view.Down k) = word_behind w (codes "down")
