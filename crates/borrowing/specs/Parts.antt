-- What a borrower's calls and messages do to what it keeps of one part.
use Rattle.std.specs.Prelude.{◌≡◌, ℕ, ◌+◌, ◌*◌, ◌/◌, ◌^◌, min, Bool, true, false, ◌&&◌, ◌||◌, Some, None, Ok, Err, Option, Result, if◌then◌else◌, ◌==◌, nat_le, nat_lt}
use Rattle.message.specs.declared.kind.Kind.{Kind}
use Rattle.message.specs.declared.kind.Kind.TheVariants.{Reading, Writing}
use Rattle.message.specs.declared.refusal.Refusal.{Refusal}
use Rattle.message.specs.declared.refusal.Refusal.TheVariants.{NoCopy, ReadOnly, HoldsCopy, OtherAsk, Exhausted}
use Rattle.borrowing.specs.declared.hold.Held.{Held}
use Rattle.borrowing.specs.declared.hold.Part.{Part}
use Rattle.borrowing.specs.declared.on_file.OnFile.{OnFile}
use Rattle.borrowing.specs.declared.hold.Asked.{Asked}

-- the largest number of an ask or a write
abbrev pub last_number : ℕ
last_number = 4294967295

-- a copy of this kind, asked for at this reading of the clock
abbrev pub copy : Kind → (asked : ℕ) → Option Held
copy k a = Some (record { kind = k; asked = a })

abbrev pub holds : Option Held → Bool
holds None = false
holds (Some h) = true

-- a copy is valid until the clock is `short` beyond what it read at the ask; nothing is never stale
abbrev pub stale : (clock short : ℕ) → Option Held → Bool
stale c s None = false
stale c s (Some h) = nat_le (h.asked + s) c

-- the copy is let go, and the ask number goes up, so that no loan for an earlier ask is taken
abbrev pub released : Part → Part
released p = record p { ask = min last_number (p.ask + 1); hold = None }

-- before a call a copy that is no longer valid is released
abbrev pub settled : (clock short : ℕ) → Part → Part
settled c s p = (if stale c s p.hold then released p else p)

-- ASK, of a part that is settled: the number goes up, the clock is noted
abbrev pub asking : (clock : ℕ) → Part → Part
asking c p = record p { ask = p.ask + 1; asked = c }

abbrev pub ask_of : (clock short : ℕ) → Part → Part × Result Asked Refusal
ask_of c s p =
    (if holds p.hold then (p, Err HoldsCopy) else
    (if nat_le 4294967294 p.ask || nat_le (2 ^ 64) (c + s) then (p, Err Exhausted) else
    (asking c p, Ok (record { number = p.ask + 1; written = p.write }))))

-- the number of the ask, or why there is none
abbrev pub AsksBy : (clock short : ℕ) → Part → Result ℕ Refusal → Type 0
AsksBy c s p (Ok n) = ask_of c s p ≡ (asking c p, Ok (record { number = n; written = p.write }))
AsksBy c s p (Err e) = ask_of c s p ≡ (p, Err e)

-- SHOW, of a part that is settled
abbrev pub showing : Option Held → Result (Unit {0}) Refusal
showing None = Err NoCopy
showing (Some h) = Ok tt

-- WRITE, of a part that is settled: the copy lets it write, or why it may not
abbrev pub lets_write : Kind → Result (Unit {0}) Refusal
lets_write Reading = Err ReadOnly
lets_write Writing = Ok tt

abbrev pub writable : Option Held → Result (Unit {0}) Refusal
writable None = Err NoCopy
writable (Some h) = lets_write h.kind

-- the write number goes up, and the copy is released
abbrev pub wrote : Part → Part
wrote p = released (record p { write = p.write + 1 })

abbrev pub write_by : Part → Result (Unit {0}) Refusal → Part × Result ℕ Refusal
write_by p (Err e) = (p, Err e)
write_by p (Ok u) =
    (if nat_le last_number p.write then (p, Err Exhausted) else (wrote p, Ok (p.write + 1)))

abbrev pub write_of : Part → Part × Result ℕ Refusal
write_of p = write_by p (writable p.hold)

-- the number of the write, or why there is none
abbrev pub WritesBy : Part → Result ℕ Refusal → Type 0
WritesBy p (Ok n) = write_of p ≡ (wrote p, Ok n)
WritesBy p (Err e) = write_of p ≡ (p, Err e)

-- A LOAN comes: it is taken where it answers the last ask and no copy is held
-- its copy is valid from when that ask was made
abbrev pub lent : Kind → Part → Part
lent k p = record p { hold = copy k p.asked }

abbrev pub loan_of : (number : ℕ) → Kind → Part → Part × Result (Unit {0}) Refusal
loan_of n k p =
    (if holds p.hold then (p, Err HoldsCopy) else
    (if n == p.ask then (lent k p, Ok tt) else (p, Err OtherAsk)))

-- a number rounded up to a multiple of 64, at most the largest
abbrev pub rounded : ℕ → ℕ
rounded x = min last_number ((x + 63) / 64 * 64)

abbrev pub raise : (filed number : ℕ) → ℕ
raise f n = (if nat_le n f then f else rounded n)

-- the numbers on file after a step: raised where the part's pass them
abbrev pub raised : OnFile → Part → OnFile
raised f p = record { ask = raise f.ask p.ask; write = raise f.write p.write }

-- the part's numbers pass those on file
abbrev pub passes : OnFile → Part → Bool
passes f p = nat_lt f.ask p.ask || nat_lt f.write p.write

-- COMING UP: nothing is held
-- the write number is that on file, the ask number is above all that were used
abbrev pub come_up : OnFile → Part
come_up f =
    record {
      ask = (if f.ask == 0 then 0 else min last_number (f.ask + 1));
      write = f.write;
      asked = 0;
      hold = None;
    }

-- two parts are the same, as `==` of the code says
-- it is written out, since proofs take the numbers out of it
abbrev pub same_kind : Kind → Kind → Bool
same_kind Reading Reading = true
same_kind Writing Writing = true
same_kind _ _ = false

abbrev pub same_hold : Option Held → Option Held → Bool
same_hold None None = true
same_hold (Some g) (Some h) = same_kind g.kind h.kind && g.asked == h.asked
same_hold _ _ = false

abbrev pub same_part : Part → Part → Bool
same_part p q =
    p.ask == q.ask && (p.write == q.write && (p.asked == q.asked && same_hold p.hold q.hold))
