-- What comes of a step of the keeper or of a tablet fits the buffers of the host.
use Rattle.std.proofs.Common.{◌≡◌, ℕ, suc, ◌+◌, ◌*◌, ◌^◌, ◌≤◌, ◌&&◌, ◌||◌, Bool, true, false, List, [], ◌∷◌, length, count_by, Some, None, Option, Ok, Err, Result, refl, arith}
use Rattle.std.specs.Prelude.{nat_le, nat_lt, ◌==◌}
use Rattle.std.specs.List.{list_any}
use Rattle.std.specs.Option.{ForSome}
use Rattle.std.proofs.lemmas.List.{length-append}
use Rattle.std.proofs.lemmas.Bool.{cond_both}
use Rattle.message.specs.declared.kind.Kind.{Kind}
use Rattle.message.specs.declared.refusal.Refusal.{Refusal}
use Rattle.message.specs.Format.{Msg, Ask, Loan, Write, In, Void, Recall, Back, layout}
use Rattle.message.specs.Reading.{read}
use Rattle.message.specs.Directions.{for_keeper, for_borrower}
use Rattle.journal.specs.Records.{Rec}
use Rattle.lease.specs.Leases.{running, barring, allowing}
use Rattle.lease.specs.Tables.{marks_of}
use Rattle.machine.specs.Effects.{Effect, Note, nothing, refused}
use Rattle.machine.specs.Effects as note
use Rattle.machine.specs.Inputs.{Input, Came, Called, Reading, Call}
use Rattle.machine.specs.Inputs as call
use Rattle.keeping.specs.Rules as k
use Rattle.borrowing.specs.declared.hold.Part.{Part}
use Rattle.borrowing.specs.declared.hold.Asked.{Asked}
use Rattle.borrowing.specs.declared.on_file.OnFile.{OnFile}
use Rattle.borrowing.specs.Parts.{settled, loan_of}
use Rattle.borrowing.specs.Rules as b
use Rattle.capi.specs.Answers.{Fits, Alike, SizedFor, SizedCall, SizedInput}
use Rattle.capi.specs.Buffers.{messages_bytes}

-- nothing comes of it but an answer
quiet : (room : ℕ) (r : Result (Unit {0}) Refusal) → Fits room (record nothing { answer = r })
quiet room r = record { records = omega arith; sends = omega arith; size = 0; alike = tt; tells = omega arith }

-- one message
single : (rs : List Rec) (m : Msg) (r : Result (Unit {0}) Refusal) → length rs ≤ 1 → length (layout m) ≤ 1033
    → Fits 1033 (record { records = rs; sends = m ∷ []; tells = []; shows = []; answer = r })
single rs m r p q =
    record { records = p; sends = omega (arith, length-append (layout m) [], q); size = length (layout m); alike = (refl, tt); tells = omega arith }

-- THE KEEPER
recalls_alike : (q i : ℕ) (bs : List Bool) → Alike 4 (k.recalls q i bs)
recalls_alike q i [] = tt
recalls_alike q i (true ∷ bs) = (refl, recalls_alike q (suc i) bs)
recalls_alike q i (false ∷ bs) = recalls_alike q (suc i) bs

recalls_few : (q i : ℕ) (bs : List Bool) → length (messages_bytes (k.recalls q i bs)) ≤ length bs * 4
recalls_few q i [] = omega arith
recalls_few q i (true ∷ bs) = omega (arith, recalls_few q (suc i) bs, length-append (layout (Recall i q)) (messages_bytes (k.recalls q (suc i) bs)))
recalls_few q i (false ∷ bs) = omega (arith, recalls_few q (suc i) bs)

recalled : (q : ℕ) (bs : List Bool) (r : Result (Unit {0}) Refusal) → length bs ≡ 32 → Fits 1033 (record nothing { sends = k.recalls q 0 bs; answer = r })
recalled q bs r l =
    record { records = omega arith; sends = omega (arith, recalls_few q 0 bs, l); size = 4; alike = recalls_alike q 0 bs; tells = omega arith }

marks_long : (p : _) (ls : _) → length (marks_of p ls) ≡ 32
unfolding marks_of
marks_long p ls = refl

voids_few : (i q w : ℕ) (d : k.Durable) → length (k.voids i q w d) ≤ 1
voids_few i q w d =
    cond_both (nat_lt (d.done q i) w && nat_lt (d.void q i) w) _ _ (λ (rs : List Rec). length rs ≤ 1) (λ e. omega arith) (λ e. omega arith)

abbrev KF : k.Volatile × Effect → Type 0
KF x = Fits 1033 x.1

keeper_asked : (l c i q n : ℕ) (x : Kind) (w : ℕ) (d : k.Durable) (v : k.Volatile) → length (d.parts q) ≡ 1024 → KF (k.asked l c i q n x w d v)
keeper_asked l c i q n x w d v s =
    cond_both (nat_lt c v.quiet) _ _ KF (λ e. quiet 1033 _) (λ e.
    cond_both (list_any (barring c i q x) v.leases) _ _ KF (λ e. recalled q (marks_of (barring c i q x) v.leases) _ (marks_long _ _)) (λ e.
    cond_both (nat_le (2 ^ 64) (c + l) || nat_le 4096 (count_by (running c) v.leases)) _ _ KF (λ e. quiet 1033 _) (λ e.
    single (k.voids i q w d) (Loan i q n x (d.parts q)) (Ok tt) (voids_few i q w d) (omega (arith, s)))))

keeper_written : (c i q n : ℕ) (bs : List ℕ) (d : k.Durable) (v : k.Volatile) → Fits 1033 (k.written c i q n bs d v)
keeper_written c i q n bs d v =
    cond_both (nat_lt c v.quiet) _ _ (Fits 1033) (λ e. quiet 1033 _) (λ e.
    cond_both (n == d.done q i && nat_lt 0 n) _ _ (Fits 1033) (λ e. single [] (In i q n) _ (omega arith) (omega arith)) (λ e.
    cond_both (nat_le n (d.done q i)) _ _ (Fits 1033) (λ e. quiet 1033 _) (λ e.
    cond_both (nat_le n (d.void q i)) _ _ (Fits 1033) (λ e. single [] (Void i q n) _ (omega arith) (omega arith)) (λ e.
    cond_both (list_any (allowing c i q) v.leases) _ _ (Fits 1033) (λ e. single _ (In i q n) _ (omega arith) (omega arith)) (λ e. quiet 1033 _)))))

keeper_heard : (l c : ℕ) (m : Option Msg) (d : k.Durable) (v : k.Volatile) → SizedFor d.parts m → KF (k.heard l c m d v)
keeper_heard l c None d v s = quiet 1033 _
keeper_heard l c (Some (Ask i q n x w)) d v s = keeper_asked l c i q n x w d v s
keeper_heard l c (Some (Loan i q n x bs)) d v s = quiet 1033 _
keeper_heard l c (Some (Write i q n bs)) d v s = keeper_written c i q n bs d v
keeper_heard l c (Some (In i q n)) d v s = quiet 1033 _
keeper_heard l c (Some (Void i q n)) d v s = quiet 1033 _
keeper_heard l c (Some (Recall i q)) d v s = quiet 1033 _
keeper_heard l c (Some (Back i q n)) d v s = quiet 1033 _

pub keeper_fits : (l c : ℕ) (bs : List ℕ) (d : k.Durable) (v : k.Volatile) → SizedFor d.parts (for_keeper (read bs)) → Fits 1033 (k.step l c (Came bs) d v).1
keeper_fits l c bs d v s = keeper_heard l c (for_keeper (read bs)) d v s

-- A TABLET
due_few : (q : ℕ) (p : Part) (f : OnFile) (p' : Part) → length (b.due q p f p') ≤ 1
due_few q p f p' = cond_both (b.is_due p f p') _ _ (λ (rs : List Rec). length rs ≤ 1) (λ e. omega arith) (λ e. omega arith)

left : (room q : ℕ) (p : Part) (e : Effect) (d : b.Durable) (v : b.Volatile) → Fits room e → Fits room (b.leave q p e d v).1
left room q p e d v f =
    record { records = due_few q (v.parts q) (d q) p; sends = f.sends; size = f.size; alike = f.alike; tells = f.tells }

asks_fit : (i q : ℕ) (x : Kind) (r : Result Asked Refusal) → Fits 1033 (b.asks i q x r)
asks_fit i q x (Ok a) = single [] (Ask i q a.number x a.written) _ (omega arith) (omega arith)
asks_fit i q x (Err e) = quiet 1033 _

writes_fit : (i q : ℕ) (bs : List ℕ) (r : Result ℕ Refusal) → length bs ≡ 1024 → Fits 1033 (b.writes i q bs r)
writes_fit i q bs (Ok n) s = single [] (Write i q n bs) _ (omega arith) (omega (arith, s))
writes_fit i q bs (Err e) s = quiet 1033 _

shows_fit : (room q : ℕ) (r : Result (Unit {0}) Refusal) → Fits room (b.shows q r)
shows_fit room q (Ok u) = record { records = omega arith; sends = omega arith; size = 0; alike = tt; tells = omega arith }
shows_fit room q (Err e) = quiet room _

pub show_fits : (room : ℕ) (t : b.Terms) (c q : ℕ) (d : b.Durable) (v : b.Volatile) → Fits room (b.step t c (Called (call.Show q)) d v).1
show_fits room t c q d v = left room q (settled c t.short (v.parts q)) _ d v (shows_fit room q _)

called_fits : (t : b.Terms) (c : ℕ) (x : Call) (d : b.Durable) (v : b.Volatile) → SizedCall x → Fits 1033 (b.called t c x d v).1
called_fits t c (call.Ask q x) d v s = left 1033 q _ _ d v (asks_fit t.who q x _)
called_fits t c (call.Show q) d v s = show_fits 1033 t c q d v
called_fits t c (call.Write q bs) d v s = left 1033 q _ _ d v (writes_fit t.who q bs _ s)
called_fits t c (call.Forget q) d v s = left 1033 q _ _ d v (quiet 1033 _)

abbrev BF : b.Volatile × Effect → Type 0
BF x = Fits 1033 x.1

told_fits : (w i : ℕ) (x : Note) (v : b.Volatile) → BF (b.told w i x v)
told_fits w i x v =
    cond_both (i == w) _ _ BF (λ e. record { records = omega arith; sends = omega arith; size = 0; alike = tt; tells = omega arith }) (λ e. quiet 1033 _)

heard_fits : (w : ℕ) (m : Option Msg) (d : b.Durable) (v : b.Volatile) → BF (b.heard w m d v)
heard_fits w None d v = quiet 1033 _
heard_fits w (Some (Ask i q n x l)) d v = quiet 1033 _
heard_fits w (Some (Loan i q n x bs)) d v =
    cond_both (i == w) _ _ BF (λ e. left 1033 q _ _ d v (quiet 1033 (loan_of n x (v.parts q)).1)) (λ e. quiet 1033 _)
heard_fits w (Some (Write i q n bs)) d v = quiet 1033 _
heard_fits w (Some (In i q n)) d v = told_fits w i (note.In q n) v
heard_fits w (Some (Void i q n)) d v = told_fits w i (note.Void q n) v
heard_fits w (Some (Recall i q)) d v =
    cond_both (i == w) _ _ BF (λ e. left 1033 q _ _ d v (single [] (Back i q (v.parts q).ask) _ (omega arith) (omega arith))) (λ e. quiet 1033 _)
heard_fits w (Some (Back i q n)) d v = quiet 1033 _

pub tablet_fits : (t : b.Terms) (c : ℕ) (x : Input) (d : b.Durable) (v : b.Volatile) → SizedInput x → Fits 1033 (b.step t c x d v).1
tablet_fits t c (Came bs) d v s = heard_fits t.who (for_borrower (read bs)) d v
tablet_fits t c (Called x) d v s = called_fits t c x d v s
tablet_fits t c Reading d v s = quiet 1033 _

-- more room does too
roomier : (m n : ℕ) (e : Effect) → m ≤ n → Fits m e → Fits n e
roomier m n e l f = record { records = f.records; sends = omega (arith, f.sends, l); size = f.size; alike = f.alike; tells = f.tells }

pub keeper_room : (l c : ℕ) (bs : List ℕ) (d : k.Durable) (o : Option k.Volatile) (room : ℕ) → 1033 ≤ room → SizedFor d.parts (for_keeper (read bs))
    → ForSome o (λ v. Fits room (k.step l c (Came bs) d v).1)
keeper_room l c bs d o room le s = λ v e. (roomier 1033 room _ le (keeper_fits l c bs d v s))

pub tablet_room : (t : b.Terms) (c : ℕ) (x : Input) (d : b.Durable) (o : Option b.Volatile) (room : ℕ) → 1033 ≤ room → SizedInput x
    → ForSome o (λ v. Fits room (b.step t c x d v).1)
tablet_room t c x d o room le s = λ v e. (roomier 1033 room _ le (tablet_fits t c x d v s))

pub show_room : (t : b.Terms) (c q : ℕ) (d : b.Durable) (o : Option b.Volatile) (room : ℕ) → ForSome o (λ v. Fits room (b.step t c (Called (call.Show q)) d v).1)
show_room t c q d o room = λ v e. (show_fits room t c q d v)
