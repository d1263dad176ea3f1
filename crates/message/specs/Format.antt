-- The messages, and the bytes of each.
-- Assumes nothing.
use Rattle.std.specs.Prelude.{◌≡◌, ℕ, ◌-◌, ◌/◌, ◌%◌, ◌<◌, List, [], ◌∷◌, ◌++◌, length, drop, Some, None, Ok, Err, Option, Result, ◌≢◌}
use Rattle.part.specs.declared.head.Head.{Head}
use Rattle.part.specs.Bytes.{four, headed, Named}
use Rattle.message.specs.declared.kind.Kind.{Kind}
use Rattle.message.specs.declared.form.Malformed.{Malformed}
use Rattle.message.specs.declared.form.Message.{Message}
use Rattle.message.specs.declared.form.Message.TheVariants as code
use Rattle.message.specs.Kinds.{kind_byte}

-- what a message says, in numbers: the borrower, the part, the number of the ask or the write, and what else it carries
pub data Msg : Type 0 where
  Ask : (who place number : ℕ) → Kind → (written : ℕ) → Msg
  Loan : (who place number : ℕ) → Kind → (bytes : List ℕ) → Msg
  Write : (who place number : ℕ) → (bytes : List ℕ) → Msg
  In : (who place number : ℕ) → Msg
  Void : (who place number : ℕ) → Msg
  Recall : (who place : ℕ) → Msg
  Back : (who place number : ℕ) → Msg

-- what a message of the code says, with the bytes v of the part that stand beside it
abbrev pub said : (v : List ℕ) → Message → Msg
said v (code.Ask a) = Ask a.head.who.id a.head.place.at a.head.number a.kind a.written
said v (code.Loan h k) = Loan h.who.id h.place.at h.number k v
said v (code.Write h) = Write h.who.id h.place.at h.number v
said v (code.In h) = In h.who.id h.place.at h.number
said v (code.Void h) = Void h.who.id h.place.at h.number
said v (code.Recall w p) = Recall w.id p.at
said v (code.Back h) = Back h.who.id h.place.at h.number

-- where a message carries a part, its last 1,024 bytes
abbrev pub carried : List ℕ → List ℕ
carried xs = drop (length xs - 1024) xs

-- its first byte
abbrev pub tag : Msg → ℕ
tag (Ask w q n k l) = 1
tag (Loan w q n k v) = 2
tag (Write w q n v) = 3
tag (In w q n) = 4
tag (Void w q n) = 5
tag (Recall w q) = 6
tag (Back w q n) = 7

-- the bytes after the first
abbrev pub body : Msg → List ℕ
body (Ask w q n k l) = headed w q n (kind_byte k ∷ four l)
body (Loan w q n k v) = headed w q n (kind_byte k ∷ v)
body (Write w q n v) = headed w q n v
body (In w q n) = headed w q n []
body (Void w q n) = headed w q n []
body (Recall w q) = w ∷ (q / 256) ∷ (q % 256) ∷ []
body (Back w q n) = headed w q n []

abbrev pub layout : Msg → List ℕ
layout m = tag m ∷ body m

-- there is such a borrower and such a part, numbers have 32 bits, and a part has 1,024 bytes
abbrev pub WellFormed : Msg → Type 0
WellFormed (Ask w q n k l) = Named w q n × (l < 4294967296)
WellFormed (Loan w q n k v) = Named w q n × (length v ≡ 1024)
WellFormed (Write w q n v) = Named w q n × (length v ≡ 1024)
WellFormed (In w q n) = Named w q n
WellFormed (Void w q n) = Named w q n
WellFormed (Recall w q) = (w < 32) × (q < 16384)
WellFormed (Back w q n) = Named w q n

-- the part that a message is about
abbrev pub place_of : Message → ℕ
place_of (code.Ask a) = a.head.place.at
place_of (code.Loan h k) = h.place.at
place_of (code.Write h) = h.place.at
place_of (code.In h) = h.place.at
place_of (code.Void h) = h.place.at
place_of (code.Recall w p) = p.at
place_of (code.Back h) = h.place.at

-- how many bytes a message has
abbrev pub size_of : Message → ℕ
size_of (code.Ask a) = 13
size_of (code.Loan h k) = 1033
size_of (code.Write h) = 1032
size_of (code.In h) = 8
size_of (code.Void h) = 8
size_of (code.Recall w p) = 4
size_of (code.Back h) = 8

-- what a reader gives: the message of which these are the bytes, or that there is none
abbrev pub Decoded : List ℕ → Result Message Malformed → Type 0
Decoded xs (Ok m) = WellFormed (said (carried xs) m) × (layout (said (carried xs) m) ≡ xs)
Decoded xs (Err e) = (m : Msg) → WellFormed m → layout m ≢ xs

-- the same of the messages with one first byte, by the bytes after it
abbrev pub DecodedBody : (first : ℕ) → List ℕ → Option Message → Type 0
DecodedBody t ys (Some m) = WellFormed (said (carried ys) m) × (tag (said (carried ys) m) ≡ t) × (body (said (carried ys) m) ≡ ys)
DecodedBody t ys None = (m : Msg) → WellFormed m → tag m ≡ t → body m ≢ ys

-- the bytes are a head with nothing behind it
abbrev pub Only : List ℕ → Head → Type 0
Only ys h = Named h.who.id h.place.at h.number × (headed h.who.id h.place.at h.number [] ≡ ys)

abbrev pub NotOnly : List ℕ → Type 0
NotOnly ys = (w q n : ℕ) → Named w q n → headed w q n [] ≢ ys

-- what a writer of this message leaves in the bytes: the message in front, or, where there is no room, what was there
abbrev pub Encoded : Msg → (was is : List ℕ) → Option ℕ → Type 0
Encoded m was is None = (length was < length (layout m)) × (is ≡ was)
Encoded m was is (Some n) = (n ≡ length (layout m)) × (is ≡ layout m ++ drop n was)
