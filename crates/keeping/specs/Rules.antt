-- The keeper's rules. Whatever comes, they say what is recorded, what is sent, the answer, and what the keeper has afterwards.
use Rattle.std.specs.Prelude.{ℕ, suc, ◌+◌, ◌^◌, Bool, true, false, ◌&&◌, ◌||◌, List, [], ◌∷◌, ◌++◌, Ok, Err, Some, Option, Result, count_by, filter, if◌then◌else◌, ◌==◌, nat_le, nat_lt}
use Rattle.std.specs.List.{list_any}
use Rattle.message.specs.declared.kind.Kind.{Kind}
use Rattle.message.specs.declared.refusal.Refusal.{Refusal}
use Rattle.message.specs.declared.refusal.Refusal.TheVariants as why
use Rattle.message.specs.Format.{Msg, Ask, Loan, Write, In, Void, Recall, Back}
use Rattle.message.specs.Reading.{read}
use Rattle.message.specs.Directions.{for_keeper}
use Rattle.part.specs.Parts.{at_1, blank}
use Rattle.journal.specs.Records.{Rec, Applied, VoidUpTo}
use Rattle.lease.specs.declared.lease.Lease.{Lease}
use Rattle.lease.specs.Leases.{running, barring, allowing, staying}
use Rattle.lease.specs.Tables.{marks_of}
use Rattle.machine.specs.Effects.{Effect, nothing, refused}
use Rattle.machine.specs.Inputs.{Input, Came, Called, Reading}

-- WHAT OUTLASTS A STOP: by part and borrower the number of the last write applied, and the number up to which writes are void; and the
-- bytes of each part
pub record Durable : Type 0 where
  pub done : ℕ → ℕ → ℕ
  pub void : ℕ → ℕ → ℕ
  pub parts : ℕ → List ℕ

-- at first nothing is written
abbrev pub fresh : Durable
fresh = record { done = λ q i. 0; void = λ q i. 0; parts = blank }

-- f with another value at one pair
abbrev pub at_2 : {X : Type 0} → ℕ → ℕ → X → (ℕ → ℕ → X) → ℕ → ℕ → X
at_2 q i v f = λ p w. (if p == q && w == i then v else f p w)

-- what a record makes of it, as it comes and as it is read back
abbrev pub redo : Durable → Rec → Durable
redo d (Applied i q n v) = record d { done = at_2 q i n d.done; parts = at_1 q v d.parts }
redo d (VoidUpTo i q n) = record d { void = at_2 q i n d.void }
redo d _ = d

-- WHAT A STOP TAKES AWAY: the leases, and when the grace period ends
pub record Volatile : Type 0 where
  pub leases : List Lease
  pub quiet : ℕ

-- COMING UP: no leases, and a grace period as long as a lease could run; not where that would pass 64 bits
abbrev pub wakes : (long clock : ℕ) → Durable → Result (Volatile × Effect) Refusal
wakes l c d = (if nat_lt (c + l) (2 ^ 64) then Ok (record { leases = []; quiet = c + l }, nothing) else Err why.Exhausted)

-- LENDING: leases that no longer run are dropped, and one is added
abbrev pub lend : (long clock who place number : ℕ) → Kind → Volatile → Volatile
lend l c i q n k v =
    record v { leases = filter (running c) v.leases ++ record { who = i; place = q; kind = k; number = n; until = c + l } ∷ [] }

-- the writes before an ask are void from then on, where there are some that are not applied
abbrev pub voids : (who place written : ℕ) → Durable → List Rec
voids i q w d = (if nat_lt (d.done q i) w && nat_lt (d.void q i) w then VoidUpTo i q w ∷ [] else [])

-- the part is lent, with the bytes that it has
abbrev pub granted : (long clock who place number : ℕ) → Kind → (written : ℕ) → Durable → Volatile → Volatile × Effect
granted l c i q n k w d v = (lend l c i q n k v, record nothing { records = voids i q w d; sends = Loan i q n k (d.parts q) ∷ [] })

-- a recall to each borrower that is marked, by rising number, from the number i on
abbrev pub recalls : (place i : ℕ) → List Bool → List Msg
recalls q i [] = []
recalls q i (true ∷ bs) = Recall i q ∷ recalls q (suc i) bs
recalls q i (false ∷ bs) = recalls q (suc i) bs

-- AN ASK of the borrower i for the part at q, whose last write is w: not in the grace period; not where a lease of another bars it, whose
-- borrower is then recalled; and not where the clock or the table is at its end
abbrev pub asked : (long clock who place number : ℕ) → Kind → (written : ℕ) → Durable → Volatile → Volatile × Effect
asked l c i q n k w d v =
    (if nat_lt c v.quiet then (v, refused why.Quiet) else
    (if list_any (barring c i q k) v.leases then
    (v, record (refused why.Barred) { sends = recalls q 0 (marks_of (barring c i q k) v.leases) }) else
    (if nat_le (2 ^ 64) (c + l) || nat_le 4096 (count_by (running c) v.leases) then (v, refused why.Exhausted) else
    granted l c i q n k w d v)))

-- A WRITE of the borrower i of the part at q: the last one that was applied is answered again; one that is void is answered so; it is
-- applied where a lease lets it
abbrev pub written : (clock who place number : ℕ) → (bytes : List ℕ) → Durable → Volatile → Effect
written c i q n bs d v =
    (if nat_lt c v.quiet then refused why.Quiet else
    (if n == d.done q i && nat_lt 0 n then record (refused why.NotApplied) { sends = In i q n ∷ [] } else
    (if nat_le n (d.done q i) then refused why.NotApplied else
    (if nat_le n (d.void q i) then record (refused why.NotApplied) { sends = Void i q n ∷ [] } else
    (if list_any (allowing c i q) v.leases then record nothing { records = Applied i q n bs ∷ []; sends = In i q n ∷ [] } else
    refused why.NotApplied)))))

-- A MESSAGE; what is none for the keeper is refused by 1
abbrev pub heard : (long clock : ℕ) → Option Msg → Durable → Volatile → Volatile × Effect
heard l c (Some (Ask i q n k w)) d v = asked l c i q n k w d v
heard l c (Some (Write i q n bs)) d v = (v, written c i q n bs d v)
-- what was lent for asks up to this number ends
heard l c (Some (Back i q n)) d v = (record v { leases = filter (staying i q n) v.leases }, nothing)
heard l c _ d v = (v, refused why.Malformed)

-- A STEP: the keeper has no calls, and does nothing by the clock alone
abbrev pub step : (long clock : ℕ) → Input → Durable → Volatile → Volatile × Effect
step l c (Came bs) d v = heard l c (for_keeper (read bs)) d v
step l c (Called x) d v = (v, refused why.Malformed)
step l c Reading d v = (v, nothing)
