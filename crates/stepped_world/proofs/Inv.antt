-- What holds of every world that can be reached: the messages ever sent fit the numbers, the times and the tables.
use Rattle.std.proofs.Common.{◌≡◌, ℕ, suc, ◌+◌, ◌<◌, ◌≤◌, max, Bool, false, ◌⊎◌, List, [], ◌∷◌, sym, refl, ◌∙◌, subst, arith}
use mathlib.Core.List.{Memᴰ}
use Rattle.clock.specs.Moments.{Moment}
use Rattle.clock.specs.Terms.{Covers}
use Rattle.message.specs.declared.kind.Kind.{Kind}
use Rattle.message.specs.declared.kind.Kind.TheVariants.{Reading}
use Rattle.message.specs.Format.{Msg, Ask, Loan, Write, In, Void, Recall, Back}
use Rattle.lease.specs.declared.lease.Lease.{Lease}
use Rattle.borrowing.specs.declared.hold.Part.{Part}
use Rattle.borrowing.specs.declared.on_file.OnFile.{OnFile}
use Rattle.borrowing.specs.Parts.{last_number, copy}
use Rattle.stepped_world.proofs.Used.{Near}
use Rattle.stepped_world.specs.Runs.{Put}
use Rattle.stepped_world.specs.Promise.{latest, NotIn, Once}

-- how long a loan is, for a borrower and for the keeper
pub record Setting : Type 0 where
  pub short : ℕ
  pub long : ℕ

-- what of the keeper matters here
pub record Office : Type 0 where
  pub value : ℕ → List ℕ
  pub done : ℕ → ℕ → ℕ
  pub void : ℕ → ℕ → ℕ
  pub leases : List Lease
  pub quiet : ℕ
  pub up : Bool

-- a run without its journals, and with messages in the place of their bytes
pub record State : Type 0 where
  pub now : Moment
  pub past : List Moment
  pub keeper : Office
  pub part : ℕ → ℕ → Part
  pub disk : ℕ → ℕ → OnFile
  pub copy : ℕ → ℕ → List ℕ
  pub sent : List Msg
  pub applied : List Put

abbrev pub who : Msg → ℕ
who (Ask i q m k n) = i
who (Loan i q m k v) = i
who (Write i q n v) = i
who (In i q n) = i
who (Void i q n) = i
who (Recall i q) = i
who (Back i q m) = i

abbrev pub place : Msg → ℕ
place (Ask i q m k n) = q
place (Loan i q m k v) = q
place (Write i q n v) = q
place (In i q n) = q
place (Void i q n) = q
place (Recall i q) = q
place (Back i q m) = q

abbrev pub NoLoan : Msg → Type 0
NoLoan (Ask i q m k n) = Unit {0}
NoLoan (Loan i q m k v) = ⊥
NoLoan (Write i q n v) = Unit {0}
NoLoan (In i q n) = Unit {0}
NoLoan (Void i q n) = Unit {0}
NoLoan (Recall i q) = Unit {0}
NoLoan (Back i q m) = Unit {0}

-- an ask's number that was used
pub record Past (p : Part) (d : OnFile) (m : ℕ) : Type 0 where
  pub pos : 0 < m
  pub small : m < last_number
  pub asked : m ≤ p.ask
  pub filed : m ≤ d.ask

-- an ask's number that was given back
pub record Gone (p : Part) (d : OnFile) (m : ℕ) : Type 0 where
  pub asked : p.ask < last_number → m < p.ask
  pub filed : d.ask < last_number → m < d.ask

pub record Wrote (p : Part) (d : OnFile) (n : ℕ) : Type 0 where
  pub written : n ≤ p.write
  pub filed : n ≤ d.write

-- what the last ask said
pub record Asked (now : Moment) (past : List Moment) (i : ℕ) (p : Part) (n : ℕ) : Type 0 where
  pub wrote : n ≡ p.write
  pub time : Moment
  pub before : Memᴰ time (now ∷ past)
  pub is : p.asked ≡ time.hand (suc i)

-- what is known of the clocks at a moment
pub record Clocked (S : Setting) (now : Moment) (past : List Moment) : Type 0 where
  pub covers : (t : Moment) → Memᴰ t (now ∷ past) → Covers S.short S.long t now
  pub onward : (t : Moment) → Memᴰ t (now ∷ past) → t.hand 0 ≤ now.hand 0

-- a loan for the last ask that would be valid
pub record Live (S : Setting) (now : Moment) (i : ℕ) (p : Part) (m : ℕ) : Type 0 where
  pub last : m ≡ p.ask
  pub valid : now.hand (suc i) < p.asked + S.short

abbrev pub lease : (i q : ℕ) → Kind → (m u : ℕ) → Lease
lease i q k m u = record { who = i; place = q; kind = k; number = m; until = u }

-- it runs in the keeper's table, or the grace period lasts as long, or the keeper is down and has its grace period before it
abbrev pub Backed : (S : Setting) (L : Office) (i q m : ℕ) → Kind → (time : Moment) → Type 0
Backed S L i q m k t = ((u : ℕ) × Memᴰ (lease i q k m u) L.leases × (t.hand 0 + S.long ≤ u)) ⊎ ((t.hand 0 + S.long ≤ L.quiet) ⊎ (L.up ≡ false))

-- what a loan that would be valid claims: the moment of its ask, that it is backed, that all that its borrower wrote before is applied or
-- void, and that its bytes are what the keeper has
pub record Claim (S : Setting) (now : Moment) (past : List Moment) (L : Office) (i q m : ℕ) (k : Kind) (v : List ℕ) (p : Part) : Type 0 where
  pub time : Moment
  pub before : Memᴰ time (now ∷ past)
  pub is : p.asked ≡ time.hand (suc i)
  pub backed : Backed S L i q m k time
  pub wrote : p.write ≤ max (L.done q i) (L.void q i)
  pub value : v ≡ L.value q

-- what holds of a message from the time it was sent on
abbrev pub Fine : (S : Setting) (now : Moment) (past : List Moment) → Office → List Put → Part → OnFile → Msg → Type 0
Fine S now past L H p d (Ask i q m k n) = Past p d m × (m ≡ p.ask → Asked now past i p n) × Wrote p d n
Fine S now past L H p d (Loan i q m k v) = Past p d m × (Live S now i p m → Claim S now past L i q m k v p)
Fine S now past L H p d (Write i q n v) = Wrote p d n
Fine S now past L H p d (In i q n) = (v : List ℕ) × Memᴰ (record { who = i; place = q; number = n; bytes = v }) H
Fine S now past L H p d (Void i q n) = (n ≤ max (L.done q i) (L.void q i)) × NotIn H i q n
Fine S now past L H p d (Recall i q) = Unit {0}
Fine S now past L H p d (Back i q m) = Gone p d m

-- a copy that is held came in a loan for the last ask
abbrev pub Held : (sent : List Msg) (i q : ℕ) → Part → (bytes : List ℕ) → Type 0
Held sent i q p v = (k : Kind) (a : ℕ) → p.hold ≡ copy k a → Memᴰ (Loan i q p.ask k v) sent × (a ≡ p.asked)

pub record Inv (S : Setting) (w : State) : Type 0 where
  pub mail : (m : Msg) → Memᴰ m w.sent → Fine S w.now w.past w.keeper w.applied (w.part (who m) (place m)) (w.disk (who m) (place m)) m
  pub held : (i q : ℕ) → Held w.sent i q (w.part i q) (w.copy i q)
  -- of two loans of a part to different borrowers that would be valid, none is for writing
  pub apart : (i j q m n : ℕ) (k l : Kind) (u v : List ℕ) → (i ≡ j → ⊥) → Memᴰ (Loan i q m k u) w.sent → Memᴰ (Loan j q n l v) w.sent →
      Live S w.now i (w.part i q) m → Live S w.now j (w.part j q) n → k ≡ Reading
  -- and of two leases that run
  pub excl : (a b : Lease) → Memᴰ a w.keeper.leases → Memᴰ b w.keeper.leases → a.place ≡ b.place → (a.who ≡ b.who → ⊥) →
      w.now.hand 0 < a.until → w.now.hand 0 < b.until → a.kind ≡ Reading
  pub newest : (q : ℕ) → w.keeper.value q ≡ latest q w.applied
  pub done_in : (q i : ℕ) → (w.keeper.done q i ≡ 0) ⊎ ((v : List ℕ) × Memᴰ (record { who = i; place = q; number = w.keeper.done q i; bytes = v }) w.applied)
  pub puts : (p : Put) → Memᴰ p w.applied → (p.number ≤ w.keeper.done p.place p.who) × Memᴰ (Write p.who p.place p.number p.bytes) w.sent
  pub once : Once w.applied
  pub known : (i q : ℕ) → Wrote (w.part i q) (w.disk i q) (w.keeper.done q i) × Wrote (w.part i q) (w.disk i q) (w.keeper.void q i)
  pub near : (i q : ℕ) → Near (w.disk i q) (w.part i q)
  pub one_bytes : (i q n : ℕ) (u v : List ℕ) → Memᴰ (Write i q n u) w.sent → Memᴰ (Write i q n v) w.sent → u ≡ v

-- a part's numbers go on, so that all that was sent still fits
pub record Moved (p : Part) (d : OnFile) (p' : Part) (d' : OnFile) : Type 0 where
  pub asks : (m : ℕ) → Past p d m → Past p' d' m
  pub same : (m : ℕ) → Past p d m → m ≡ p'.ask → (m ≡ p.ask) × (p'.write ≡ p.write) × (p'.asked ≡ p.asked)
  pub backs : (m : ℕ) → Gone p d m → Gone p' d' m
  pub writes : (n : ℕ) → Wrote p d n → Wrote p' d' n
  pub files : p.write ≤ d.write → (p.write ≤ p'.write) × (p'.write ≤ d'.write)

pub moved_refl : (p : Part) (d : OnFile) → Moved p d p d
moved_refl p d = record { asks = λ m h. h; same = λ m h e. (e, refl, refl); backs = λ m h. h; writes = λ n h. h; files = λ h. (omega arith, h) }

pub moved_trans : {p p' p'' : Part} {d d' d'' : OnFile} → Moved p d p' d' → Moved p' d' p'' d'' → Moved p d p'' d''
moved_trans {p} {p'} {p''} {d} {d'} {d''} a b =
    record {
      asks = λ m h. b.asks m (a.asks m h);
      same = λ m h e. let y = b.same m (a.asks m h) e in let x = a.same m h y.0 in (x.0, y.1 ∙ x.1, y.2 ∙ x.2);
      backs = λ m h. b.backs m (a.backs m h);
      writes = λ n h. b.writes n (a.writes n h);
      files = λ h. let x = a.files h in let y = b.files x.1 in (omega arith, y.1);
    }

pub live_moved : {S : Setting} {now : Moment} {i : ℕ} {p p' : Part} {d d' : OnFile} {m : ℕ} → Moved p d p' d' → Past p d m → Live S now i p' m → Live S now i p m
live_moved {S} {now} {i} {p} {p'} {d} {d'} {m} mv past live =
    let s = mv.same m past live.last in
    record { last = s.0; valid = subst (λ (x : ℕ). now.hand (suc i) < x + S.short) s.2 live.valid }

pub fine_moved : (S : Setting) (now : Moment) (past : List Moment) (L : Office) (H : List Put) (p p' : Part) (d d' : OnFile) → Moved p d p' d' → (m : Msg) →
    Fine S now past L H p d m → Fine S now past L H p' d' m
fine_moved S now past L H p p' d d' mv (Ask i q m k n) (used, f, wr) =
    (mv.asks m used, λ e. let s = mv.same m used e in let a = f s.0 in record { wrote = a.wrote ∙ sym s.1; time = a.time; before = a.before; is = s.2 ∙ a.is }, mv.writes n wr)
fine_moved S now past L H p p' d d' mv (Loan i q m k v) (used, f) = (
  mv.asks m used,
  λ live.
      let s = mv.same m used live.last in
      let c = f (live_moved mv used live) in
      record { time = c.time; before = c.before; is = s.2 ∙ c.is; backed = c.backed; wrote = subst (λ (x : ℕ). x ≤ max (L.done q i) (L.void q i)) (sym s.1) c.wrote; value = c.value },
)
fine_moved S now past L H p p' d d' mv (Write i q n v) h = mv.writes n h
fine_moved S now past L H p p' d d' mv (In i q n) h = h
fine_moved S now past L H p p' d d' mv (Void i q n) h = h
fine_moved S now past L H p p' d d' mv (Recall i q) h = h
fine_moved S now past L H p p' d d' mv (Back i q m) h = mv.backs m h

-- a write's number is above the last before it
abbrev pub Newer : Part → Msg → Type 0
Newer p (Ask i q m k n) = Unit {0}
Newer p (Loan i q m k v) = Unit {0}
Newer p (Write i q n v) = p.write < n
Newer p (In i q n) = Unit {0}
Newer p (Void i q n) = Unit {0}
Newer p (Recall i q) = Unit {0}
Newer p (Back i q m) = Unit {0}

-- all of a list
abbrev pub Each : (Msg → Type 0) → List Msg → Type 0
Each P [] = Unit {0}
Each P (m ∷ ms) = P m × Each P ms

pub each_at : (P : Msg → Type 0) (ms : List Msg) → Each P ms → (m : Msg) → Memᴰ m ms → P m
each_at P [] h m x = elim x [ ]
each_at P (y ∷ ms) h m (Memᴰ.head e) = subst P (sym e) h.0
each_at P (y ∷ ms) h m (Memᴰ.tail x) = each_at P ms h.1 m x
