-- The records of the keeper's and of the borrowers' journals, the bytes of each, and the records that some bytes begin with.
-- Assumes nothing.
use Rattle.std.specs.Prelude.{◌≡◌, ℕ, zero, suc, ◌+◌, ◌-◌, ◌*◌, ◌/◌, ◌%◌, ◌<◌, Bool, true, false, cond, ◌&&◌, List, [], ◌∷◌, ◌++◌, length, take, drop, Some, None, Option, ◌==◌, ◌≢◌, nat_lt, slice_index}
use Rattle.std.specs.List.{flat_map}
use Rattle.part.specs.Bytes.{four, headed, Named}
use Rattle.journal.specs.declared.record.Owner.{Owner}
use Rattle.journal.specs.declared.record.Owner.TheVariants.{Keeper, Borrower}
use Rattle.journal.specs.declared.record.Record.{Record}
use Rattle.journal.specs.declared.record.Record.TheVariants as code

-- what a record says, in numbers
pub data Rec : Type 0 where
  -- this write of this borrower was applied, and the part has these bytes
  Applied : (who place number : ℕ) → (bytes : List ℕ) → Rec
  -- writes of this borrower up to this number are void
  VoidUpTo : (who place number : ℕ) → Rec
  -- a borrower used no ask and write numbers above these
  Numbers : (place ask write : ℕ) → Rec

-- what a record of the code says, with the bytes v of the part that stand beside it
abbrev pub recorded : (v : List ℕ) → Record → Rec
recorded v (code.Applied h) = Applied h.who.id h.place.at h.number v
recorded v (code.VoidUpTo h) = VoidUpTo h.who.id h.place.at h.number
recorded v (code.Numbers p a w) = Numbers p.at a w

-- its first byte
abbrev pub tag : Rec → ℕ
tag (Applied w q n v) = 8
tag (VoidUpTo w q n) = 9
tag (Numbers q a w) = 10

-- the bytes after the first
abbrev pub body : Rec → List ℕ
body (Applied w q n v) = headed w q n v
body (VoidUpTo w q n) = headed w q n []
body (Numbers q a w) = (q / 256) ∷ (q % 256) ∷ (four a ++ four w)

abbrev pub layout : Rec → List ℕ
layout r = tag r ∷ body r

-- there is such a borrower and such a part, numbers have 32 bits, and a part has 1,024 bytes
abbrev pub WellFormed : Rec → Type 0
WellFormed (Applied w q n v) = Named w q n × (length v ≡ 1024)
WellFormed (VoidUpTo w q n) = Named w q n
WellFormed (Numbers q a w) = (q < 16384) × (a < 4294967296) × (w < 4294967296)

abbrev pub AllFormed : List Rec → Type 0
AllFormed [] = Unit {0}
AllFormed (r ∷ rs) = WellFormed r × AllFormed rs

-- it is of a kind that stands in this owner's journal
abbrev pub Kept : Owner → Rec → Type 0
Kept Keeper (Applied w q n v) = Unit {0}
Kept Keeper (VoidUpTo w q n) = Unit {0}
Kept Keeper (Numbers q a w) = ⊥
Kept Borrower (Applied w q n v) = ⊥
Kept Borrower (VoidUpTo w q n) = ⊥
Kept Borrower (Numbers q a w) = Unit {0}

-- it may stand in this owner's journal
abbrev pub Sound : Owner → Rec → Type 0
Sound o r = WellFormed r × Kept o r

abbrev pub AllSound : Owner → List Rec → Type 0
AllSound o [] = Unit {0}
AllSound o (r ∷ rs) = Sound o r × AllSound o rs

-- the bytes of records, one after another
abbrev pub bytes_of : List Rec → List ℕ
bytes_of rs = flat_map layout rs

-- how many bytes a record of the code has
abbrev pub size_of : Record → ℕ
size_of (code.Applied h) = 1032
size_of (code.VoidUpTo h) = 8
size_of (code.Numbers p a w) = 11

-- what a writer of this record leaves in the bytes: the record in front, or, where there is no room, what was there
abbrev pub Encoded : Rec → (was is : List ℕ) → Option ℕ → Type 0
Encoded m was is None = (length was < length (layout m)) × (is ≡ was)
Encoded m was is (Some n) = (n ≡ length (layout m)) × (is ≡ layout m ++ drop n was)

-- how many bytes the record has that a first byte announces in this owner's journal; 0 where it announces none
abbrev pub announced : Owner → (first : ℕ) → ℕ
announced Keeper t = cond (t == 8) 1032 (cond (t == 9) 8 0)
announced Borrower t = cond (t == 10) 11 0

-- nothing, or less than the record that the first byte announces, whatever else these bytes are
abbrev pub Torn : Owner → List ℕ → Type 0
Torn o [] = Unit {0}
Torn o (t ∷ ys) = length (t ∷ ys) < announced o t

-- no record of this owner's stands in front
abbrev pub NoRecord : Owner → List ℕ → Type 0
NoRecord o xs = (r : Rec) → Sound o r → (more : List ℕ) → layout r ++ more ≢ xs

-- what some bytes begin with
pub data Found : Type 0 where
  whole : Rec → Found
  torn : Found
  malformed : Found

-- each byte is below its limit
abbrev pub below : (limits : List ℕ) → List ℕ → Bool
below [] ys = true
below (l ∷ ls) [] = false
below (l ∷ ls) (y ∷ ys) = nat_lt y l && below ls ys

-- the number of which the four bytes stand at a place
abbrev pub number : List ℕ → (at : ℕ) → ℕ
number xs i = slice_index xs i * 16777216 + slice_index xs (i + 1) * 65536 + slice_index xs (i + 2) * 256 + slice_index xs (i + 3)

-- the part that two bytes name
abbrev pub place_at : List ℕ → (at : ℕ) → ℕ
place_at xs i = 256 * slice_index xs i + slice_index xs (i + 1)

-- the record r, of which so many bytes come after the first, where these are there and each field is within its limit
abbrev pub judged : (size : ℕ) → (limits : List ℕ) → Rec → List ℕ → Found
judged n ls r ys = cond (nat_lt (length ys) n) torn (cond (below ls ys) (whole r) malformed)

-- a borrower, a file, and bytes
abbrev pub head_limits : List ℕ
head_limits = 32 ∷ 64 ∷ 256 ∷ 256 ∷ 256 ∷ 256 ∷ 256 ∷ []

-- a file, and bytes
abbrev pub numbers_limits : List ℕ
numbers_limits = 64 ∷ 256 ∷ 256 ∷ 256 ∷ 256 ∷ 256 ∷ 256 ∷ 256 ∷ 256 ∷ 256 ∷ []

-- the record of each kind that the bytes after its first would be
abbrev pub applied_in : List ℕ → Rec
applied_in ys = Applied (slice_index ys 0) (place_at ys 1) (number ys 3) (take 1024 (drop 7 ys))

abbrev pub void_in : List ℕ → Rec
void_in ys = VoidUpTo (slice_index ys 0) (place_at ys 1) (number ys 3)

abbrev pub numbers_in : List ℕ → Rec
numbers_in ys = Numbers (place_at ys 0) (number ys 2) (number ys 6)

-- what the bytes begin with, by their first byte
unfoldable pub found : Owner → List ℕ → Found
found o [] = torn
found Keeper (t ∷ ys) =
    cond (t == 8) (judged 1031 head_limits (applied_in ys) ys) (cond (t == 9) (judged 7 head_limits (void_in ys) ys) malformed)
found Borrower (t ∷ ys) = cond (t == 10) (judged 10 numbers_limits (numbers_in ys) ys) malformed

-- a whole record and those after it
abbrev pub after : Found → List Rec → List Rec
after (whole r) rs = r ∷ rs
after torn rs = []
after malformed rs = []

-- the records from a place on, so many bytes ahead
unfoldable pub records_from : Owner → (ahead : ℕ) → List ℕ → List Rec
records_from o n [] = []
records_from o (suc n) (t ∷ ys) = records_from o n ys
records_from o zero (t ∷ ys) = after (found o (t ∷ ys)) (records_from o (announced o t - 1) ys)

-- the whole records that the bytes begin with, up to what is torn or malformed
unfoldable pub records_of : Owner → List ℕ → List Rec
records_of o bs = records_from o 0 bs

-- what follows them
abbrev pub rest_of : Owner → List ℕ → List ℕ
rest_of o bs = drop (length (bytes_of (records_of o bs))) bs
