-- A keeper that lets many messages share one sync keeps the whole promise.
use Rattle.std.proofs.Common.{◌≡◌, ℕ, ◌+◌, ◌-◌, ◌<◌, ◌≤◌, Bool, true, false, cond, ltb, ◌⊎◌, List, [], ◌∷◌, ◌++◌, map, length, take, Some, None, sym, refl, ap, ◌∙◌, subst, inl, inr, append_assoc, append-nil, arith}
use mathlib.Core.List.Memᴰ
use mathlib.Core.List.{Memᴰ}
use Rattle.std.proofs.lemmas.Bool.{cond_both, cases_lt}
use Rattle.std.proofs.lemmas.List.{take_all, take-append-le}
use Rattle.std.proofs.Math.Seq.{take-append-add}
use Rattle.clock.specs.Moments.{Moment, Within, Between, Pairs, Later}
use Rattle.clock.specs.Terms.{Fits}
use Rattle.message.specs.declared.kind.Kind.{Kind}
use Rattle.message.specs.Format.{Msg, layout}
use Rattle.journal.specs.declared.record.Owner.TheVariants as owner
use Rattle.journal.specs.Records.{Rec, bytes_of, records_of}
use Rattle.journal.specs.Laws.{whole_in}
use Rattle.machine.specs.Inputs.{Came, Called}
use Rattle.machine.specs.Inputs as calls
use Rattle.machine.specs.Machines as machines
use Rattle.message.specs.declared.kind.Kind.TheVariants.{Writing}
use Rattle.stepped_world.specs.World.{World, Lender, Node, Event, tick, call, deliver, keeper, borrower, with_keeper, with_sent, keeper_down, torn_file, effect, keeper_after, cut, can_call, acted, is_up, stopped, came_up, borrower_wakes, borrower_woken, keeper_step, keeper_wakes, step}
use Rattle.stepped_world.specs.World as world
use Rattle.stepped_world.specs.Runs.{Put, puts, Run, moments, next, past_by, run, start}
use Rattle.stepped_world.specs.Batches.{Batching, Step, other, take_in, sync, stop, up, of_keeper, done_beside, taken, synced, file_left, world_left, all_on_disk, batch_step, BatchRun, batch_past, batch_next, batch_run, batch_start, seen, MadeBefore, LeavesFirst, batch_to_write, BatchPromise, BatchTheorem}
use Rattle.stepped_world.specs.Promise.{MayShow, to_write}
use Rattle.stepped_world.proofs.Inv.{Setting, Clocked, each_at}
use Rattle.stepped_world.proofs.Wire.{Carries}
use Rattle.stepped_world.proofs.Files.{whole_first, grown_records, torn_records}
use Rattle.stepped_world.proofs.Good.{setting, Good}
use Rattle.stepped_world.proofs.Events.{message, After, served, event_good}
use Rattle.stepped_world.proofs.Serves as keepers
use Rattle.stepped_world.proofs.Time.{Timeless, same_moments, Timely, timely, same_terms, came_up_still, in_order, held_before, clocked}
use Rattle.stepped_world.proofs.Tick.{start_good}
use Rattle.stepped_world.proofs.Whole.{promised, gets_to_write, lasts}

-- as `seen` does, of a world
abbrev at : World → List Moment → Run
at w past = record { world = w; past = past; applied = puts (records_of owner.Keeper w.keeper.file) [] }

-- the writes applied are those that the journal says
as_filed : (S : Setting) (r : Run) (ms : List Msg) → Good S r ms → Good S (at r.world r.past) ms
as_filed S r ms G = subst (λ (h : List Put). Good S (record { world = r.world; past = r.past; applied = h }) ms) G.keeper.on_disk G

-- fewer messages have left
unsent : (S : Setting) (new : List Msg) (w : World) (past : List Moment) (H : List Put) (ms : List Msg) → Good S (record { world = with_sent new w; past = past; applied = H }) ms → Good S (record { world = w; past = past; applied = H }) ms
unsent S new w past H ms G = record { inv = G.inv; wire = λ b h. G.wire b (Memᴰ.append_left (map layout new) h); formed = G.formed; keeper = G.keeper; borrowers = G.borrowers }

-- messages that were made leave
mapped : (ms : List Msg) (m : Msg) → Memᴰ m ms → Memᴰ (layout m) (map layout ms)
mapped [] m h = elim h [ ]
mapped (x ∷ ms) m (Memᴰ.head e) = Memᴰ.head (ap layout e)
mapped (x ∷ ms) m (Memᴰ.tail h) = Memᴰ.tail (mapped ms m h)

carried : (hs ms : List Msg) → ((m : Msg) → Memᴰ m hs → Memᴰ m ms) → Carries (map layout hs) ms
carried [] ms f b h = elim h [ ]
carried (x ∷ hs) ms f b (Memᴰ.head e) = subst (λ (y : List ℕ). Memᴰ y (map layout ms)) (sym e) (mapped ms x (f x (Memᴰ.head refl)))
carried (x ∷ hs) ms f b (Memᴰ.tail h) = carried hs ms (λ m g. f m (Memᴰ.tail g)) b h

leave : (S : Setting) (hs : List Msg) (w : World) (past : List Moment) (H : List Put) (ms : List Msg) → ((m : Msg) → Memᴰ m hs → Memᴰ m ms) → Good S (record { world = w; past = past; applied = H }) ms → Good S (record { world = with_sent hs w; past = past; applied = H }) ms
leave S hs w past H ms f G = record { inv = G.inv; wire = wire; formed = G.formed; keeper = G.keeper; borrowers = G.borrowers }
  where
    wire : Carries (w.sent ++ map layout hs) ms
    wire b h = go (Memᴰ.append_cases w.sent h)
      where
        go : Memᴰ b w.sent ⊎ Memᴰ b (map layout hs) → Memᴰ b (map layout ms)
        go (inl x) = G.wire b x
        go (inr x) = carried hs ms f b x

-- WHAT THE OTHERS DO does not touch the keeper, and is the same beside any keeper

by_either : (k : Lender) (b : Bool) (x y w : World) → x ≡ with_keeper k y → cond b x (with_keeper k w) ≡ with_keeper k (cond b y w)
by_either k true x y w e = e
by_either k false x y w e = refl

beside : (w : World) (k : Lender) (e : Event) → of_keeper e ≡ false → step (with_keeper k w) e ≡ with_keeper k (step w e)
beside w k (tick p) f = refl
beside w k (call i c None) f = by_either k (can_call i c w) _ _ w refl
beside w k (call i c (Some n)) f = by_either k (can_call i c w) _ _ w refl
beside w k (deliver m n keeper t) f = absurd (cc)
beside w k (deliver m n (borrower i) None) f = by_either k (w.borrower i).up _ _ w refl
beside w k (deliver m n (borrower i) (Some l)) f = by_either k (w.borrower i).up _ _ w refl
beside w k (world.stop keeper) f = absurd (cc)
beside w k (world.stop (borrower i)) f = by_either k (w.borrower i).up _ _ w refl
beside w k (world.up keeper) f = absurd (cc)
beside w k (world.up (borrower i)) f = go (w.borrower i).up
  where
    go : (b : Bool) → cond b (with_keeper k w) (came_up (borrower i) (with_keeper k w)) ≡ with_keeper k (cond b w (came_up (borrower i) w))
    go true = refl
    go false = by_either k (ltb i 32) (borrower_woken i (borrower_wakes i w) (with_keeper k w)) (borrower_woken i (borrower_wakes i w) w) w refl

same_keeper : (w : World) (b : Bool) (x : World) → x.keeper ≡ w.keeper → (cond b x w).keeper ≡ w.keeper
same_keeper w true x e = e
same_keeper w false x e = refl

untouched : (w : World) (e : Event) → of_keeper e ≡ false → (step w e).keeper ≡ w.keeper
untouched w (tick p) f = refl
untouched w (call i c None) f = same_keeper w (can_call i c w) _ refl
untouched w (call i c (Some n)) f = same_keeper w (can_call i c w) _ refl
untouched w (deliver m n keeper t) f = absurd (cc)
untouched w (deliver m n (borrower i) None) f = same_keeper w (w.borrower i).up _ refl
untouched w (deliver m n (borrower i) (Some l)) f = same_keeper w (w.borrower i).up _ refl
untouched w (world.stop keeper) f = absurd (cc)
untouched w (world.stop (borrower i)) f = same_keeper w (w.borrower i).up _ refl
untouched w (world.up keeper) f = absurd (cc)
untouched w (world.up (borrower i)) f = go (w.borrower i).up
  where
    go : (b : Bool) → (cond b w (came_up (borrower i) w)).keeper ≡ w.keeper
    go true = refl
    go false = same_keeper w (ltb i 32) (borrower_woken i (borrower_wakes i w) w) refl

-- TIME

batch_timely : (r : BatchRun) (s : Step) → Timely r.now.world.now r.past (moments (seen (batch_next r s)))
batch_timely r (other (tick p)) = timely (seen r) (tick p)
batch_timely r (other (call i c t)) = timely (seen r) (call i c t)
batch_timely r (other (deliver m n keeper t)) = inl refl
batch_timely r (other (deliver m n (borrower i) t)) = timely (seen r) (deliver m n (borrower i) t)
batch_timely r (other (world.stop keeper)) = inl refl
batch_timely r (other (world.stop (borrower i))) = timely (seen r) (world.stop (borrower i))
batch_timely r (other (world.up keeper)) = inl refl
batch_timely r (other (world.up (borrower i))) = timely (seen r) (world.up (borrower i))
batch_timely r (take_in m n) = inl (ap (λ (t : Moment). t ∷ r.past) (cond_both r.now.world.keeper.up (taken (cut m n r.now.world) r.now) r.now (λ (b : Batching). b.world.now ≡ r.now.world.now) (λ e. refl) (λ e. refl)))
batch_timely r sync = inl refl
batch_timely r (stop n) = inl refl
batch_timely r up = go r.now.world.keeper.up
  where
    go : (b : Bool) → Timely r.now.world.now r.past ((cond b r.now (all_on_disk (came_up keeper r.now.world))).world.now ∷ r.past)
    go true = inl refl
    go false = inl (ap (λ (t : Moment). t ∷ r.past) (came_up_still r.now.world keeper).now)

batch_order : (short long : ℕ) (m : Moment) (steps : List Step) → Pairs Later (moments (seen (batch_run (batch_start short long m) steps)))
unfolding Pairs batch_run
batch_order s l m [] = ((λ o z. elim z [ ]), tt)
batch_order s l m (x ∷ xs) = let r = batch_run (batch_start s l m) xs in in_order r.now.world.now r.past (moments (seen (batch_next r x))) (batch_timely r x) (batch_order s l m xs)

-- the terms stay as they are
beside_terms : (w : World) (e : Event) → setting (done_beside w e) ≡ setting w
beside_terms w e = cond_both (of_keeper e) w (step w e) (λ (x : World). setting x ≡ setting w) (λ z. refl) (λ z. same_terms w e)

batch_terms : (r : BatchRun) (s : Step) → setting (batch_next r s).now.world ≡ setting r.now.world
batch_terms r (other e) = beside_terms r.now.world e
batch_terms r (take_in m n) = cond_both r.now.world.keeper.up (taken (cut m n r.now.world) r.now) r.now (λ (b : Batching). setting b.world ≡ setting r.now.world) (λ e. refl) (λ e. refl)
batch_terms r sync = refl
batch_terms r (stop n) = refl
batch_terms r up = cond_both r.now.world.keeper.up r.now (all_on_disk (came_up keeper r.now.world)) (λ (b : Batching). setting b.world ≡ setting r.now.world) (λ e. refl) (λ e. (came_up_still r.now.world keeper).terms)

terms_are : (short long : ℕ) (m : Moment) (steps : List Step) → setting (batch_run (batch_start short long m) steps).now.world ≡ record { short = short; long = long }
unfolding batch_run
terms_are s l m [] = refl
terms_are s l m (x ∷ xs) = batch_terms (batch_run (batch_start s l m) xs) x ∙ terms_are s l m xs

-- THE INVARIANT

-- what is known of a run: the whole invariant, of all messages that were made, and where each write among them was made
record Known (S : Setting) (first : BatchRun) (steps : List Step) (r : Run) : Type 0 where
  pub made : List Msg
  pub good : Good S r made
  pub writes : (p : Put) → Memᴰ (message p) made → MadeBefore first steps p

-- of what is now, and of what any stop would leave
record Kept (S : Setting) (first : BatchRun) (steps : List Step) (b : Batching) (past : List Moment) : Type 0 where
  pub now : Known S first steps (at b.world past)
  pub held : (m : Msg) → Memᴰ m b.held → Memᴰ m now.made
  pub left : (n : ℕ) → Known S first steps (at (world_left n b) past)
  pub front : (n : ℕ) → LeavesFirst n b

-- a write was made one step earlier
made_later : (first : BatchRun) (steps : List Step) (s : Step) (p : Put) → MadeBefore first steps p → MadeBefore first (s ∷ steps) p
made_later first steps s p m = record { before = m.before; after = s ∷ m.after; is = ap (λ (x : List Step). s ∷ x) m.is; allowed = m.allowed; number = m.number }

-- one step later
later : (S : Setting) (first : BatchRun) (steps : List Step) (s : Step) (r : Run) → Known S first steps r → Known S first (s ∷ steps) r
later S first steps s r k =
    record { made = k.made; good = k.good; writes = λ p h. made_later first steps s p (k.writes p h) }

all_later : (S : Setting) (first : BatchRun) (steps : List Step) (s : Step) (b : Batching) (past : List Moment) → Kept S first steps b past → Kept S first (s ∷ steps) b past
unfolding later
all_later S first steps s b past k =
    record { now = later S first steps s (at b.world past) k.now; held = k.held; left = λ n. later S first steps s (at (world_left n b) past) (k.left n); front = k.front }

-- an event of a run whose terms are these
event_kept : (S : Setting) (r : Run) (ms : List Msg) → setting r.world ≡ S → Good S r ms → Clocked S r.world.now r.past → (e : Event) → After S r ms e (next r e)
event_kept S r ms t G C e =
    subst (λ (s : Setting). After s r ms e (next r e)) t
    (event_good r ms (subst (λ (s : Setting). Good s r ms) (sym t) G) (subst (λ (s : Setting). Clocked s r.world.now r.past) (sym t) C) e)

stop_kept : (S : Setting) (w : World) (past : List Moment) (ms : List Msg) → setting w ≡ S → Good S (at w past) ms → Good S (at (with_keeper (keeper_down w.keeper.file) w) past) ms
stop_kept S w past ms t G = subst (λ (s : Setting). Good s (at (with_keeper (keeper_down w.keeper.file) w) past) ms) t (keepers.stop_good (at w past) ms (subst (λ (s : Setting). Good s (at w past) ms) (sym t) G))

-- all of the journal is on the disk: a stop leaves all of it
all_safe : (S : Setting) (first : BatchRun) (steps : List Step) (b : Batching) (past : List Moment) → setting b.world ≡ S → b.safe ≡ length b.world.keeper.file → (k : Known S first steps (at b.world past)) → ((m : Msg) → Memᴰ m b.held → Memᴰ m k.made) → Kept S first steps b past
all_safe S first steps b past t e k h =
    record {
      now = k;
      held = h;
      left = λ n. subst (λ (f : List ℕ). Known S first steps (at (with_keeper (keeper_down f) b.world) past)) (sym (all n)) (record { made = k.made; good = stop_kept S b.world past k.made t k.good; writes = k.writes });
      front = λ n. ([], sym (append-nil _ ∙ ap (records_of owner.Keeper) (all n)));
    }
  where
    all : (n : ℕ) → file_left n b ≡ b.world.keeper.file
    all n = take_all (b.safe + n) b.world.keeper.file (omega (arith, e))

-- whoever may show a part beside another keeper may show it
shows_beside : (w : World) (k : Lender) (i q : ℕ) (l : Kind) → MayShow (with_keeper k w) i q l → MayShow w i q l
shows_beside w k i q l m = record { up = m.up; asked = m.asked; holds = m.holds; valid = m.valid }

past_beside : (w : World) (k : Lender) (e : Event) (ms : List Moment) → past_by (with_keeper k w) e ms ≡ past_by w e ms
past_beside w k (tick p) ms = refl
past_beside w k (call i c t) ms = refl
past_beside w k (deliver m n x t) ms = refl
past_beside w k (world.stop x) ms = refl
past_beside w k (world.up x) ms = refl

-- STEP BY STEP
module _ (S : Setting) (first : BatchRun) (steps : List Step) where
  abbrev b : Batching
  b = (batch_run first steps).now

  abbrev w : World
  w = b.world

  abbrev past : List Moment
  past = (batch_run first steps).past

  module _ (t : setting w ≡ S) (C : Clocked S w.now past) (k : Kept S first steps b past) where
    -- an event of another
    module _ (e : Event) (f : of_keeper e ≡ false) where
      abbrev after_other : Batching
      after_other = record { world = step w e; held = b.held; safe = b.safe }

      -- in a world that differs by its keeper alone
      one_other : (x : Lender) → setting (with_keeper x w) ≡ S → (K : Known S first steps (at (with_keeper x w) past)) → Known S first (other e ∷ steps) (at (step (with_keeper x w) e) (past_by (with_keeper x w) e past))
      one_other x tx K = record { made = K.made ++ a.new; good = as_filed S (next (at (with_keeper x w) past) e) (K.made ++ a.new) a.good; writes = λ p h. go p (Memᴰ.append_cases K.made h) }
        where
          a : After S (at (with_keeper x w) past) K.made e (next (at (with_keeper x w) past) e)
          a = event_kept S (at (with_keeper x w) past) K.made tx K.good C e

          go : (p : Put) → Memᴰ (message p) K.made ⊎ Memᴰ (message p) a.new → MadeBefore first (other e ∷ steps) p
          go p (inl h) = made_later first steps (other e) p (K.writes p h)
          go p (inr h) = let s = a.writes p h in record { before = steps; after = []; is = ap (λ (y : Event). other y ∷ steps) s.is; allowed = shows_beside w x _ _ _ s.allowed; number = s.number }

      left_is : (n : ℕ) → step (world_left n b) e ≡ world_left n after_other
      left_is n = beside w (keeper_down (file_left n b)) e f ∙ ap (λ (x : Lender). with_keeper (keeper_down (take (b.safe + n) x.file)) (step w e)) (sym (untouched w e f))

      other_kept : Kept S first (other e ∷ steps) after_other (past_by w e past)
      unfolding one_other
      other_kept =
          record {
            now = one_other w.keeper t k.now;
            held = λ m h. Memᴰ.append_left _ (k.held m h);
            left = λ n. subst (λ (y : World). Known S first (other e ∷ steps) (at y (past_by w e past))) (left_is n)
                (subst (λ (ms : List Moment). Known S first (other e ∷ steps) (at (step (world_left n b) e) ms)) (past_beside w (keeper_down (file_left n b)) e past) (one_other (keeper_down (file_left n b)) t (k.left n)));
            front = λ n. subst (λ (x : Lender). (more : List Rec) × (records_of owner.Keeper x.file ≡ records_of owner.Keeper (take (b.safe + n) x.file) ++ more)) (sym (untouched w e f)) (k.front n);
          }

    -- a message that the keeper takes
    module _ (m n : ℕ) (awake : w.keeper.up ≡ true) where
      abbrev bs : List ℕ
      bs = cut m n w

      abbrev file : List ℕ
      file = w.keeper.file

      abbrev rs : List Rec
      rs = (effect keeper (Came bs) w).records

      abbrev new : List Msg
      new = (effect keeper (Came bs) w).sends

      abbrev after_taken : Batching
      after_taken = taken bs b

      G : Good (setting w) (at w past) k.now.made
      G = subst (λ (s : Setting). Good s (at w past) k.now.made) (sym t) k.now.good

      C' : Clocked (setting w) w.now past
      C' = subst (λ (s : Setting). Clocked s w.now past) (sym t) C

      serves : keepers.Served (at w past) k.now.made G C' awake (keeper_step (Came bs) w)
      serves = served (at w past) k.now.made G C' m n awake

      whole_file : bytes_of (records_of owner.Keeper file) ≡ file
      whole_file = G.keeper.journal awake

      grown : records_of owner.Keeper (file ++ bytes_of rs) ≡ records_of owner.Keeper file ++ rs
      grown = grown_records owner.Keeper file whole_file rs serves.sound

      -- the runs in which the message is done by itself, and in which a stop tears its records
      abbrev alone : Run
      alone = record { world = with_sent new (with_keeper (keeper_after (Came bs) w) w); past = past; applied = puts rs (at w past).applied }

      abbrev torn_alone : ℕ → Run
      torn_alone j = record { world = with_keeper (keeper_down (torn_file file rs j)) w; past = past; applied = puts (whole_in j rs) (at w past).applied }

      now_taken : Known S first (take_in m n ∷ steps) (at (with_keeper (keeper_after (Came bs) w) w) past)
      now_taken =
          record {
            made = k.now.made ++ new;
            good = as_filed S (record { world = with_keeper (keeper_after (Came bs) w) w; past = past; applied = alone.applied }) _ (unsent S new (with_keeper (keeper_after (Came bs) w) w) past alone.applied _
                (subst (λ (s : Setting). Good s alone (k.now.made ++ new)) t (keepers.served_good (at w past) k.now.made G C' awake (keeper_step (Came bs) w) serves)));
            writes = λ p h. go p (Memᴰ.append_cases k.now.made h);
          }
        where
          go : (p : Put) → Memᴰ (message p) k.now.made ⊎ Memᴰ (message p) new → MadeBefore first (take_in m n ∷ steps) p
          go p (inl h) = made_later first steps (take_in m n) p (k.now.writes p h)
          go p (inr h) = absurd (each_at keepers.NoWrite _ serves.silent _ h tt)

      -- a stop leaves the file as before, or with some first bytes of the record
      abbrev Left : List ℕ → Type 0
      Left f = Known S first (take_in m n ∷ steps) (at (with_keeper (keeper_down f) w) past) × ((more : List Rec) × (records_of owner.Keeper (file ++ bytes_of rs) ≡ records_of owner.Keeper f ++ more))

      left_before : (x : ℕ) → Left (file_left x b)
      left_before x =
          let h = k.front x in
          (later S first steps (take_in m n) _ (k.left x), (h.0 ++ rs, grown ∙ ap (λ (q : List Rec). q ++ rs) h.1 ∙ append_assoc (records_of owner.Keeper (file_left x b)) h.0 rs))

      left_within : (j : ℕ) → Left (torn_file file rs j)
      left_within j =
          let torn = torn_records owner.Keeper file whole_file rs serves.sound j in
          let s = whole_first rs j in (
            record {
              made = k.now.made;
              good = as_filed S (torn_alone j) _ (subst (λ (s : Setting). Good s (torn_alone j) k.now.made) t (keepers.served_torn (at w past) k.now.made G C' awake (keeper_step (Came bs) w) serves j));
              writes = λ p h. made_later first steps (take_in m n) p (k.now.writes p h);
            },
            (s.0, grown ∙ ap (λ (q : List Rec). records_of owner.Keeper file ++ q) s.1 ∙ sym (append_assoc (records_of owner.Keeper file) (whole_in j rs) s.0) ∙ ap (λ (q : List Rec). q ++ s.0) (sym torn)),
          )

      left_taken : (x : ℕ) → Left (file_left x after_taken)
      left_taken x = go (cases_lt (length file) (b.safe + x))
        where
          go : (length file < b.safe + x) ⊎ (b.safe + x ≤ length file) → Left (take (b.safe + x) (file ++ bytes_of rs))
          go (inr h) = subst Left (sym (take-append-le (b.safe + x) file (bytes_of rs) h)) (left_before x)
          go (inl h) =
              let e : b.safe + x ≡ length file + (b.safe + x - length file) = omega (arith, h) in
              subst Left (sym (ap (λ (y : ℕ). take y (file ++ bytes_of rs)) e ∙ take-append-add file (bytes_of rs) (b.safe + x - length file))) (left_within (b.safe + x - length file))

      taken_kept : Kept S first (take_in m n ∷ steps) after_taken past
      unfolding now_taken
      taken_kept =
          record {
            now = now_taken;
            held = λ x h. go x (Memᴰ.append_cases b.held h);
            left = λ x. (left_taken x).0;
            front = λ x. (left_taken x).1;
          }
        where
          go : (x : Msg) → Memᴰ x b.held ⊎ Memᴰ x new → Memᴰ x (k.now.made ++ new)
          go x (inl h) = Memᴰ.append_left new (k.held x h)
          go x (inr h) = Memᴰ.append_right k.now.made h

    -- what was held back leaves, and all is on the disk
    sync_kept : Kept S first (sync ∷ steps) (synced b) past
    sync_kept =
        all_safe S first (sync ∷ steps) (synced b) past t refl
        (record { made = k.now.made; good = leave S b.held w past _ k.now.made k.held k.now.good; writes = λ p h. made_later first steps sync p (k.now.writes p h) }) (λ m h. elim h [ ])

    stop_left : (n : ℕ) → Kept S first (stop n ∷ steps) (batch_step b (stop n)) past
    stop_left n = all_safe S first (stop n ∷ steps) (batch_step b (stop n)) past t refl (later S first steps (stop n) _ (k.left n)) (λ m h. elim h [ ])

    abbrev came_up_run : Run
    came_up_run = record { world = came_up keeper w; past = past; applied = puts (machines.woken_records (keeper_wakes w)) (at w past).applied }

    came_up_good : Good S (at (came_up keeper w) past) k.now.made
    came_up_good =
        as_filed S came_up_run k.now.made
        (subst (λ (s : Setting). Good s (came_up_run) k.now.made) t
        (keepers.up_good (at w past) k.now.made (subst (λ (s : Setting). Good s (at w past) k.now.made) (sym t) k.now.good) (subst (λ (s : Setting). Clocked s w.now past) (sym t) C)))

    up_kept : Kept S first (up ∷ steps) (all_on_disk (came_up keeper w)) past
    up_kept =
        all_safe S first (up ∷ steps) (all_on_disk (came_up keeper w)) past ((came_up_still w keeper).terms ∙ t) refl
        (record { made = k.now.made; good = came_up_good; writes = λ p h. made_later first steps up p (k.now.writes p h) }) (λ m h. elim h [ ])

    -- the keeper's own events are none of the others'
    same_kept : (s : Step) → Kept S first (s ∷ steps) b past
    same_kept s = all_later S first steps s b past k

    step_kept : (s : Step) → Kept S first (s ∷ steps) (batch_step b s) (batch_past w s past)
    step_kept (other (tick p)) = other_kept (tick p) refl
    step_kept (other (call i c x)) = other_kept (call i c x) refl
    step_kept (other (deliver m n keeper x)) = same_kept (other (deliver m n keeper x))
    step_kept (other (deliver m n (borrower i) x)) = other_kept (deliver m n (borrower i) x) refl
    step_kept (other (world.stop keeper)) = same_kept (other (world.stop keeper))
    step_kept (other (world.stop (borrower i))) = other_kept (world.stop (borrower i)) refl
    step_kept (other (world.up keeper)) = same_kept (other (world.up keeper))
    step_kept (other (world.up (borrower i))) = other_kept (world.up (borrower i)) refl
    step_kept (take_in m n) = go w.keeper.up refl
      where
        go : (c : Bool) → w.keeper.up ≡ c → Kept S first (take_in m n ∷ steps) (cond c (taken (cut m n w) b) b) past
        go true e = taken_kept m n e
        go false e = same_kept (take_in m n)
    step_kept sync = sync_kept
    step_kept (stop n) = stop_left n
    step_kept up = go w.keeper.up
      where
        go : (c : Bool) → Kept S first (up ∷ steps) (cond c b (all_on_disk (came_up keeper w))) past
        go true = same_kept up
        go false = up_kept

-- A MESSAGE THAT IS TAKEN AND SYNCED by itself, while nothing is held back, is one that is delivered
alone_is : (b : Batching) (m n : ℕ) → b.held ≡ [] → (batch_step (batch_step b (take_in m n)) sync).world ≡ step b.world (deliver m n keeper None)
alone_is b m n e = go b.world.keeper.up
  where
    go : (u : Bool) → (synced (cond u (taken (cut m n b.world) b) b)).world ≡ cond u (acted keeper (Came (cut m n b.world)) None b.world) b.world
    go true = ap (λ (hs : List Msg). with_sent (hs ++ (effect keeper (Came (cut m n b.world)) b.world).sends) (with_keeper (keeper_after (Came (cut m n b.world)) b.world) b.world)) e
    go false =
        ap (λ (hs : List Msg). with_sent hs b.world) e
        ∙ ap (λ (bs : List (List ℕ)). record b.world { sent = bs }) (append-nil b.world.sent)

same_way : (r : BatchRun) (i q : ℕ) (v : List ℕ) → r.now.held ≡ [] → (batch_run r (batch_to_write i q v r.now.world)).now.world ≡ (run (seen r) (to_write i q v r.now.world)).world
unfolding batch_run run
same_way r i q v e =
    let w = r.now.world in
    let asked = batch_step (batch_step r.now (other (call i (calls.Forget q) None))) (other (call i (calls.Ask q Writing) None)) in
    let lent = batch_step (batch_step asked (take_in (length w.sent) 2000)) sync in
    let wrote = batch_step (batch_step lent (other (deliver (length w.sent + 1) 2000 (borrower i) None))) (other (call i (calls.Write q v) None)) in
    alone_is wrote (length w.sent + 2) 2000 refl
    ∙ ap (λ (x : World). step (step (step x (deliver (length w.sent + 1) 2000 (borrower i) None)) (call i (calls.Write q v) None)) (deliver (length w.sent + 2) 2000 keeper None)) (alone_is asked (length w.sent) 2000 e)

-- EVERY RUN
module _ (rate short long grain : ℕ) (m : Moment) (fits : Fits rate short long) (pos : 0 < grain) where
  abbrev S' : Setting
  S' = record { short = short; long = long }

  abbrev from : BatchRun
  from = batch_start short long m

  abbrev reach : List Step → BatchRun
  reach steps = batch_run from steps

  kept_by : (steps : List Step) → Within rate grain (moments (seen (reach steps))) → Kept S' from steps (reach steps).now (reach steps).past
  unfolding batch_run
  kept_by [] h =
      all_safe S' from [] (reach []).now [] refl refl (record { made = []; good = as_filed S' (start short long m) [] (start_good short long m); writes = λ p x. elim x [ ] }) (λ x z. elim z [ ])
  kept_by (s ∷ ss) h =
      let before = held_before (Between rate grain) (reach ss).now.world.now (reach ss).past (moments (seen (batch_next (reach ss) s))) (batch_timely (reach ss) s) h in
      step_kept S' from ss (terms_are short long m ss) (clocked rate short long grain fits pos (reach ss).now.world.now (reach ss).past before (batch_order short long m ss)) (kept_by ss before) s

  -- a run of the world in which no time passes stays good
  record Going (r : Run) : Type 0 where
    pub made : List Msg
    pub good : Good S' r made
    pub terms : setting r.world ≡ S'
    pub within : Within rate grain (moments r)
    pub order : Pairs Later (moments r)

  goes_on : (r : Run) (e : Event) → Timeless e → Going r → Going (next r e)
  goes_on r e z g =
      let a = event_kept S' r g.made g.terms g.good (clocked rate short long grain fits pos r.world.now r.past g.within g.order) e in
      let s = same_moments r e z in
      record { made = g.made ++ a.new; good = a.good; terms = same_terms r.world e ∙ g.terms; within = subst (Within rate grain) (sym s) g.within; order = subst (Pairs Later) (sym s) g.order }

  AllTimeless : List Event → Type 0
  AllTimeless [] = Unit {0}
  AllTimeless (e ∷ es) = Timeless e × AllTimeless es

  going : (r : Run) (es : List Event) → AllTimeless es → Going r → Going (run r es)
  unfolding run AllTimeless
  going r [] z g = g
  going r (e ∷ es) z g = goes_on (run r es) e z.0 (going r es z.1 g)

  filed_so : (r : Run) (i q : ℕ) (v : List ℕ) (x : World) → Going r → (run r (to_write i q v x)).applied ≡ puts (records_of owner.Keeper (run r (to_write i q v x)).world.keeper.file) []
  unfolding AllTimeless
  filed_so r i q v x g = (going r (to_write i q v x) (tt, (tt, (tt, (tt, (tt, (tt, tt)))))) g).good.keeper.on_disk

  promise : (steps : List Step) → Within rate grain (moments (seen (reach steps))) → BatchPromise from steps (reach steps)
  promise steps h =
      let k = kept_by steps h in
      let t = terms_are short long m steps in
      let l = lasts rate short long fits in
      record {
        holds = promised S' (seen (reach steps)) k.now.made k.now.good t l.0 l.1;
        only_writes = λ p x. k.now.writes p (k.now.good.inv.puts p x).1;
        can_write = λ i q v u e.
            let G : Going (seen (reach steps)) = record { made = k.now.made; good = k.now.good; terms = t; within = h; order = batch_order short long m steps } in
            let wrote = gets_to_write S' (seen (reach steps)) k.now.made k.now.good t l.0 l.1 i q v u in
            (_, ap (λ (x : World). puts (records_of owner.Keeper x.keeper.file) []) (same_way (reach steps) i q v e) ∙ sym (filed_so (seen (reach steps)) i q v (reach steps).now.world G) ∙ wrote.0);
        left = λ n. (k.front n, promised S' (at (world_left n (reach steps).now) (reach steps).past) (k.left n).made (k.left n).good t l.0 l.1);
      }

pub batches : BatchTheorem
batches rate short long grain m steps fits pos h = promise rate short long grain m fits pos steps h
