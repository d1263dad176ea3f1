-- The messages that an outbox has.
-- Assumes nothing.
use Rattle.std.specs.Prelude.{◌≡◌, ℕ, List, [], ◌∷◌, ◌++◌, false, take, drop, vec_items}
use Rattle.machine.specs.declared.outbox.Outbox.{Outbox}

-- bytes cut into so many first ones, and so many of the rest, and so on
unfoldable pub cut_by : (sizes : List ℕ) → (bytes : List ℕ) → List (List ℕ)
cut_by [] bs = []
cut_by (n ∷ ns) bs = take n bs ∷ cut_by ns (drop n bs)

-- the bytes of each message, the first one first
abbrev pub sent : Outbox → List (List ℕ)
sent o = cut_by (vec_items o.sizes) (vec_items o.buffer.bytes)

pub record Longer (was is : Outbox) (more : List (List ℕ)) : Type 0 where
  pub before : was.buffer.failed ≡ false
  pub sent : sent is ≡ sent was ++ more

-- unless memory ran out, it has the messages that it had, and these
abbrev pub Sent : (was is : Outbox) → (more : List (List ℕ)) → Type 0
Sent was is more = is.buffer.failed ≡ false → Longer was is more
