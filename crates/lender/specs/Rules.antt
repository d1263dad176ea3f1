-- The keeper's rules: its book, and what comes of each message.
-- Assumes nothing.
use Rattle.std.specs.Prelude.{ℕ, suc, ◌+◌, ◌^◌, Bool, true, false, cond, ◌&&◌, List, [], ◌∷◌, ◌++◌, count_by, filter, ◌==◌, nat_le, nat_lt}
use Rattle.message.specs.declared.kind.Kind.{Kind}
use Rattle.message.specs.declared.form.Ask.{Ask}
use Rattle.message.specs.Format.{Msg, Loan, In, Void, Recall}
use Rattle.journal.specs.Records.{Rec, Applied, VoidUpTo}
use Rattle.lease.specs.declared.lease.Lease.{Lease}
use Rattle.lease.specs.Leases.{running, barring, allowing, staying}
use Rattle.std.specs.List.{list_any}
use Rattle.lease.specs.Tables.{marks_of}
use Rattle.part.specs.Parts.{at_1}
use Rattle.lender.specs.declared.answer.AskAnswer.{AskAnswer}
use Rattle.lender.specs.declared.answer.AskAnswer.TheVariants as ask
use Rattle.lender.specs.declared.answer.WriteAnswer.{WriteAnswer}
use Rattle.lender.specs.declared.answer.WriteAnswer.TheVariants as write

-- by part and borrower the last write applied and the last void one, the leases, when the grace period ends, and how long a lease runs
pub record Book : Type 0 where
  pub done : ℕ → ℕ → ℕ
  pub void : ℕ → ℕ → ℕ
  pub leases : List Lease
  pub quiet : ℕ
  pub long : ℕ

-- f with another value at one pair
abbrev pub at_2 : {X : Type 0} → ℕ → ℕ → X → (ℕ → ℕ → X) → ℕ → ℕ → X
at_2 q i v f = λ p w. cond (p == q && w == i) v (f p w)

-- AN ASK of the borrower i for the part at q, with its last write number l
abbrev pub voids : (who place written : ℕ) → Book → Bool
voids i q l m = nat_lt (m.done q i) l && nat_lt (m.void q i) l

abbrev pub ask_answer : (clock who place : ℕ) → Kind → (written : ℕ) → Book → AskAnswer
ask_answer c i q k l m =
    cond (nat_lt c m.quiet) ask.Quiet
    (cond (list_any (barring c i q k) m.leases) (ask.Barred (marks_of (barring c i q k) m.leases))
    (cond (nat_le (2 ^ 64) (c + m.long)) ask.Exhausted
    (cond (nat_le 4096 (count_by (running c) m.leases)) ask.Exhausted
    (ask.Granted (voids i q l m)))))

-- the writes up to l are void
abbrev pub with_void_at : (who place written : ℕ) → Book → Book
with_void_at i q l m = record { done = m.done; void = at_2 q i l m.void; leases = m.leases; quiet = m.quiet; long = m.long }

-- leases that no longer run are dropped, and one is added
abbrev pub with_lease : (clock who place number : ℕ) → Kind → Book → Book
with_lease c i q n k m =
    record {
      done = m.done;
      void = m.void;
      leases = filter (running c) m.leases ++ record { who = i; place = q; kind = k; number = n; until = c + m.long } ∷ [];
      quiet = m.quiet;
      long = m.long;
    }

-- the lease is added, and the writes up to l that are not applied are void from now on
abbrev pub granted : (clock who place number : ℕ) → Kind → (written : ℕ) → (voids : Bool) → Book → Book
granted c i q n k l v m = cond v (with_void_at i q l (with_lease c i q n k m)) (with_lease c i q n k m)

abbrev pub after_ask : (clock who place number : ℕ) → Kind → (written : ℕ) → AskAnswer → Book → Book
after_ask c i q n k l (ask.Granted v) m = granted c i q n k l v m
after_ask c i q n k l ask.Quiet m = m
after_ask c i q n k l (ask.Barred by) m = m
after_ask c i q n k l ask.Exhausted m = m

-- a recall to each borrower that is marked, by rising number, from the number w on
abbrev pub recalls : (place w : ℕ) → List Bool → List Msg
recalls q w [] = []
recalls q w (true ∷ bs) = Recall w q ∷ recalls q (suc w) bs
recalls q w (false ∷ bs) = recalls q (suc w) bs

-- what is sent, with the bytes v that the part has
abbrev pub ask_sends : (who place number : ℕ) → Kind → (v : List ℕ) → AskAnswer → List Msg
ask_sends i q n k v (ask.Granted b) = Loan i q n k v ∷ []
ask_sends i q n k v ask.Quiet = []
ask_sends i q n k v (ask.Barred by) = recalls q 0 by
ask_sends i q n k v ask.Exhausted = []

abbrev pub ask_records : (who place written : ℕ) → AskAnswer → List Rec
ask_records i q l (ask.Granted true) = VoidUpTo i q l ∷ []
ask_records i q l (ask.Granted false) = []
ask_records i q l ask.Quiet = []
ask_records i q l (ask.Barred by) = []
ask_records i q l ask.Exhausted = []

-- A WRITE of the borrower i of the part at q with the number n
abbrev pub write_answer : (clock who place number : ℕ) → Book → WriteAnswer
write_answer c i q n m =
    cond (nat_lt c m.quiet) write.Quiet
    (cond (n == m.done q i && nat_lt 0 n) write.Again
    (cond (nat_le n (m.done q i)) write.Passed
    (cond (nat_le n (m.void q i)) write.Void
    (cond (list_any (allowing c i q) m.leases) write.Applied write.Passed))))

abbrev pub applied : (who place number : ℕ) → Book → Book
applied i q n m = record { done = at_2 q i n m.done; void = m.void; leases = m.leases; quiet = m.quiet; long = m.long }

abbrev pub after_write : (who place number : ℕ) → WriteAnswer → Book → Book
after_write i q n write.Applied m = applied i q n m
after_write i q n write.Again m = m
after_write i q n write.Void m = m
after_write i q n write.Passed m = m
after_write i q n write.Quiet m = m

-- what the parts hold
abbrev pub parts_after : (place : ℕ) → (v : List ℕ) → WriteAnswer → (ℕ → List ℕ) → ℕ → List ℕ
parts_after q v write.Applied f = at_1 q v f
parts_after q v write.Again f = f
parts_after q v write.Void f = f
parts_after q v write.Passed f = f
parts_after q v write.Quiet f = f

abbrev pub write_sends : (who place number : ℕ) → WriteAnswer → List Msg
write_sends i q n write.Applied = In i q n ∷ []
write_sends i q n write.Again = In i q n ∷ []
write_sends i q n write.Void = Void i q n ∷ []
write_sends i q n write.Passed = []
write_sends i q n write.Quiet = []

abbrev pub write_records : (who place number : ℕ) → (v : List ℕ) → WriteAnswer → List Rec
write_records i q n v write.Applied = Applied i q n v ∷ []
write_records i q n v write.Again = []
write_records i q n v write.Void = []
write_records i q n v write.Passed = []
write_records i q n v write.Quiet = []

-- BACK: the borrower i gives back what it was lent of the part at q for asks up to n
abbrev pub given_back : (who place number : ℕ) → Book → Book
given_back i q n m = record { done = m.done; void = m.void; leases = filter (staying i q n) m.leases; quiet = m.quiet; long = m.long }

-- COMING UP: no leases, and a grace period as long as a lease could run
abbrev pub risen : (clock : ℕ) → Book → Book
risen c m = record { done = m.done; void = m.void; leases = []; quiet = c + m.long; long = m.long }

-- at first nothing is written, and there are no leases
abbrev pub fresh : (long : ℕ) → Book
fresh l = record { done = λ q i. 0; void = λ q i. 0; leases = []; quiet = 0; long = l }

-- THE SAME of an ask of the code: the answer, and what the book is after it was judged, granted, and given a lease
abbrev pub answer_to : (clock : ℕ) → Ask → Book → AskAnswer
answer_to c a m = ask_answer c a.head.who.id a.head.place.at a.kind a.written m

abbrev pub after_answer : (clock : ℕ) → Ask → AskAnswer → Book → Book
after_answer c a r m = after_ask c a.head.who.id a.head.place.at a.head.number a.kind a.written r m

abbrev pub granted_to : (clock : ℕ) → Ask → (voids : Bool) → Book → Book
granted_to c a v m = granted c a.head.who.id a.head.place.at a.head.number a.kind a.written v m

abbrev pub with_lease_of : (clock : ℕ) → Ask → Book → Book
with_lease_of c a m = with_lease c a.head.who.id a.head.place.at a.head.number a.kind m
