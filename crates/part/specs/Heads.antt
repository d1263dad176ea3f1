-- What the reader of a head says of the bytes.
-- Assumes nothing.
use Rattle.std.specs.Prelude.{◌≡◌, ℕ, ◌<◌, ◌≤◌, List, [], length, drop, ◌≢◌, slice_index}
use Rattle.part.specs.declared.head.Head.{Head}
use Rattle.part.specs.Bytes.{headed, Named}

-- the bytes begin with this head
pub record Heads (xs : List ℕ) (h : Head) : Type 0 where
  pub named : Named h.who.id h.place.at h.number
  pub is : headed h.who.id h.place.at h.number (drop 7 xs) ≡ xs

-- the bytes begin with no head: they are too few, or there is no such borrower or file
pub record NoHead (xs : List ℕ) : Type 0 where
  pub none : (w q n : ℕ) (more : List ℕ) → Named w q n → headed w q n more ≢ xs
  pub why : 7 ≤ length xs → slice_index xs 0 < 32 → slice_index xs 1 < 64 → ⊥

-- the bytes are this head, with nothing behind it
pub record Alone (xs : List ℕ) (h : Head) : Type 0 where
  pub named : Named h.who.id h.place.at h.number
  pub is : headed h.who.id h.place.at h.number [] ≡ xs

-- the bytes are no head, or more than one
abbrev pub NotAlone : List ℕ → Type 0
NotAlone xs = (w q n : ℕ) → Named w q n → headed w q n [] ≢ xs
