-- The keeper's messages, whole or torn, its stops and its coming up keep the whole invariant.
use Rattle.std.proofs.Common.{◌≡◌, ℕ, ◌+◌, ◌^◌, ◌<◌, ◌≤◌, max, Bool, true, false, cond, ◌&&◌, ◌||◌, eqb, ltb, leb, ◌⊎◌, List, [], ◌∷◌, ◌++◌, length, Some, None, Ok, Err, count_by, filter, fold, Option, Result, sym, refl, ap, ◌∙◌, subst, inl, inr, append-nil, arith}
use mathlib.Core.List.Memᴰ
use mathlib.Core.List.{Memᴰ}
use Rattle.std.proofs.lemmas.Bool.{cond_both, eqb-true, leb-true, leb-false, ltb-true, ltb-false, and_parts}
use Rattle.std.proofs.lemmas.List.Sums.{fold-append}
use Rattle.std.specs.List.{list_any}
use Rattle.message.specs.declared.kind.Kind.{Kind}
use Rattle.message.specs.declared.refusal.Refusal.{Refusal}
use Rattle.message.specs.declared.refusal.Refusal.TheVariants as why
use Rattle.message.specs.Format.{Msg, Ask, Loan, Write, In, Void, Recall, Back, WellFormed}
use Rattle.message.specs.Directions.{for_keeper}
use Rattle.journal.specs.declared.record.Owner.TheVariants as owner
use Rattle.journal.specs.Records.{Rec, VoidUpTo, AllSound, bytes_of, records_of}
use Rattle.journal.specs.Laws.{whole_in}
use Rattle.lease.specs.Leases.{running, barring, allowing, staying}
use Rattle.lease.specs.Tables.{marks_of}
use Rattle.machine.specs.Effects.{Note, Effect, nothing, refused}
use Rattle.machine.specs.Machines as machines
use Rattle.keeping.specs.Rules.{Durable, Volatile, fresh, redo, at_2, lend, recalls, asked, granted, written, heard}
use Rattle.stepped_world.specs.World.{World, Lender, with_keeper, with_sent, recovered, keeper_down, keeper_wakes, keeper_woken, torn_file, stepped}
use Rattle.stepped_world.specs.Runs.{Put, puts, Run}
use Rattle.stepped_world.specs.Promise.{NotIn}
use Rattle.stepped_world.proofs.Inv.{Setting, State, Inv, Clocked, Wrote, Each, each_at}
use Rattle.stepped_world.proofs.Borrow.{WriteOf}
use Rattle.stepped_world.proofs.Leases.{may, at_two, at_here}
use Rattle.stepped_world.proofs.Keep.{keeping, quietly, only_recalls, lend_inv, put_inv, ends_inv, unsent_inv, stop_inv, rise_inv}
use Rattle.stepped_world.proofs.View.{view, office}
use Rattle.stepped_world.proofs.Files.{Few, whole_few, down_journal, puts_append, grown_records, grown_whole, torn_records, recovered_long, woken_records}
use Rattle.stepped_world.proofs.Wire.{more_formed, more_wire, recalls_formed, marks_long}
use Rattle.stepped_world.proofs.Good.{setting, Good, on, sent_none}

abbrev pub NoWrite : Msg → Type 0
NoWrite m = WriteOf m → ⊥

recalls_none : (q j : ℕ) (bs : List Bool) → Each NoWrite (recalls q j bs)
recalls_none q j [] = tt
recalls_none q j (true ∷ bs) = ((λ x. x), recalls_none q _ bs)
recalls_none q j (false ∷ bs) = recalls_none q _ bs

module _ (r : Run) (ms : List Msg) (G : Good (setting r.world) r ms) where
  abbrev w : World
  w = r.world

  abbrev S : Setting
  S = setting w

  abbrev K : Lender
  K = w.keeper

  abbrev V : State
  V = view w r.past ms r.applied

  -- the same past, of another world in which these writes are applied
  abbrev of : World → List Put → Run
  of x H = record { world = x; past = r.past; applied = H }

  -- a keeper that is down has what its journal makes
  abbrev DownInv : Durable → List Put → Type 0
  DownInv d H = Inv S (keeping V (record { value = d.parts; done = d.done; void = d.void; leases = []; quiet = 0; up = false }) ms H)

  down_good : (f : List ℕ) (H : List Put) → H ≡ puts (records_of owner.Keeper f) [] → DownInv (recovered f) H → Good S (of (with_keeper (keeper_down f) w) H) ms
  down_good f H d i = record { inv = i; wire = G.wire; formed = G.formed; keeper = record { journal = down_journal owner.Keeper f; kept = refl; on_disk = d }; borrowers = G.borrowers }

  pub stop_good : Good S (on r (with_keeper (keeper_down K.file) w)) ms
  stop_good = down_good K.file r.applied G.keeper.on_disk (subst (λ (d : Durable). DownInv d r.applied) G.keeper.kept (stop_inv S V G.inv))

  pub up_good : Clocked S w.now r.past → Good S (of (keeper_woken (keeper_wakes w) w) (puts (machines.woken_records (keeper_wakes w)) r.applied)) ms
  up_good C =
      cond_both (ltb (w.now.hand 0 + w.long) (2 ^ 64)) (Ok (record { leases = []; quiet = w.now.hand 0 + w.long }, nothing)) (Err why.Exhausted)
      (λ (x : Result (Volatile × Effect) Refusal). Good S (of (keeper_woken x w) (puts (machines.woken_records x) r.applied)) ms)
      (λ e. up) (λ e. G)
    where
      file : List ℕ
      file = bytes_of (records_of owner.Keeper K.file) ++ bytes_of []

      same : records_of owner.Keeper file ≡ records_of owner.Keeper K.file
      same = woken_records owner.Keeper K.file

      woken : Lender
      woken = record { durable = K.durable; volatile = record { leases = []; quiet = w.now.hand 0 + w.long }; up = true; file = bytes_of (records_of owner.Keeper K.file) ++ bytes_of [] }

      up : Good S (on r (with_sent [] (with_keeper woken w))) ms
      up =
          sent_none S r (with_keeper woken w) ms
          (record {
            inv = rise_inv S V G.inv C;
            wire = G.wire;
            formed = G.formed;
            keeper = record {
              journal = λ u. ap bytes_of same ∙ sym (append-nil (bytes_of (records_of owner.Keeper K.file)));
              kept = G.keeper.kept ∙ ap (fold redo fresh) (sym same);
              on_disk = G.keeper.on_disk ∙ ap (λ (rs : List Rec). puts rs []) (sym same);
            };
            borrowers = G.borrowers;
          })

  -- WHILE IT IS UP
  module _ (C : Clocked S w.now r.past) (awake : K.up ≡ true) where
    abbrev c : ℕ
    c = w.now.hand 0

    -- what comes of a step keeps the invariant; it is one record at most, and no write is sent
    pub record Served (x : Volatile × Effect) : Type 0 where
      pub inv : Inv S (keeping V (office (stepped redo x K)) (ms ++ x.1.sends) (puts x.1.records r.applied))
      pub few : Few x.1.records
      pub sound : AllSound owner.Keeper x.1.records
      pub silent : Each NoWrite x.1.sends
      pub formed : Each WellFormed x.1.sends

    -- nothing comes of it but an answer
    plain : (ns : List Note) (qs : List ℕ) (a : Result (Unit {0}) Refusal) → Served (K.volatile, record { records = []; sends = []; tells = ns; shows = qs; answer = a })
    plain ns qs a = record { inv = quietly S V G.inv [] tt; few = tt; sound = tt; silent = tt; formed = tt }

    long : (q : ℕ) → q < 16384 → length (K.durable.parts q) ≡ 1024
    long q l = subst (λ (d : Durable). length (d.parts q) ≡ 1024) (sym G.keeper.kept) (recovered_long K.file q l)

    -- an ask
    module _ (i q n : ℕ) (k : Kind) (l : ℕ) (mem : Memᴰ (Ask i q n k l) ms) where
      abbrev voids : Bool
      voids = ltb (K.durable.done q i) l && ltb (K.durable.void q i) l

      abbrev Lent : Bool → Type 0
      Lent b = Served (lend w.long c i q n k K.volatile, record nothing { records = cond b (VoidUpTo i q l ∷ []) []; sends = Loan i q n k (K.durable.parts q) ∷ [] })

      lent : K.volatile.quiet ≤ c → list_any (barring c i q k) K.volatile.leases ≡ false → (b : Bool) → voids ≡ b → Lent b
      lent loud open' true e =
          let z = and_parts (ltb (K.durable.done q i) l) (ltb (K.durable.void q i) l) e in
          let f = G.formed _ mem in
          record {
            inv = lend_inv S V G.inv C awake loud i q n k l mem open' (at_2 q i l K.durable.void)
                (at_two q i l K.durable.void (λ x j y. K.durable.void x j ≤ y) (omega (arith, ltb-true _ _ z.1)) (λ x j. omega arith))
                (rw (at_here q i l K.durable.void) (omega arith))
                (λ j x. at_two q i l K.durable.void (λ x j y. Wrote ((w.borrower j).volatile.parts x) ((w.borrower j).durable x) y) (G.inv.mail (Ask i q n k l) mem).2 (λ x j. (G.inv.known j x).1) x j);
            few = tt;
            sound = (((f.0.0, f.0.1, f.1), tt), tt);
            silent = ((λ x. x), tt);
            formed = ((f.0, long q f.0.1), tt);
          }
      lent loud open' false e =
          let f = G.formed _ mem in
          record {
            inv = lend_inv S V G.inv C awake loud i q n k l mem open' K.durable.void (λ x j. omega arith) (not_void (cases e)) (λ j x. (G.inv.known j x).1);
            few = tt;
            sound = tt;
            silent = ((λ x. x), tt);
            formed = ((f.0, long q f.0.1), tt);
          }
        where
          cases : (ltb (K.durable.done q i) l && ltb (K.durable.void q i) l) ≡ false → (ltb (K.durable.done q i) l ≡ false) ⊎ (ltb (K.durable.void q i) l ≡ false)
          cases = go (ltb (K.durable.done q i) l)
            where
              go : (b : Bool) → (b && ltb (K.durable.void q i) l) ≡ false → (b ≡ false) ⊎ (ltb (K.durable.void q i) l ≡ false)
              go true z = inr z
              go false z = inl refl

          not_void : (ltb (K.durable.done q i) l ≡ false) ⊎ (ltb (K.durable.void q i) l ≡ false) → l ≤ max (K.durable.done q i) (K.durable.void q i)
          not_void (inl z) = omega (arith, ltb-false _ _ z)
          not_void (inr z) = omega (arith, ltb-false _ _ z)

      barred : Served (K.volatile, record (refused why.Barred) { sends = recalls q 0 (marks_of (barring c i q k) K.volatile.leases) })
      barred =
          record {
            inv = quietly S V G.inv _ (only_recalls S V G.inv q 0 (marks_of (barring c i q k) K.volatile.leases));
            few = tt;
            sound = tt;
            silent = recalls_none q 0 (marks_of (barring c i q k) K.volatile.leases);
            formed = recalls_formed q 0 (marks_of (barring c i q k) K.volatile.leases) (G.formed _ mem).0.1 (omega (arith, marks_long (barring c i q k) K.volatile.leases));
          }

      ask_served : Served (asked w.long c i q n k l K.durable K.volatile)
      ask_served =
          cond_both (ltb c K.volatile.quiet) (K.volatile, refused why.Quiet) _ Served (λ e. plain _ _ _) λ loud.
          cond_both (list_any (barring c i q k) K.volatile.leases) (K.volatile, record (refused why.Barred) { sends = recalls q 0 (marks_of (barring c i q k) K.volatile.leases) }) _ Served (λ e. barred) λ open'.
          cond_both (leb (2 ^ 64) (c + w.long) || leb 4096 (count_by (running c) K.volatile.leases)) (K.volatile, refused why.Exhausted) (granted w.long c i q n k l K.durable K.volatile) Served (λ e. plain _ _ _) λ room.
          lent (ltb-false _ _ loud) open' voids refl

    -- a write
    module _ (i q n : ℕ) (v : List ℕ) (mem : Memᴰ (Write i q n v) ms) where
      abbrev Gives : Effect → Type 0
      Gives e = Served (K.volatile, e)

      not_in : K.durable.done q i < n → NotIn r.applied i q n
      not_in h p z a b e = let same : K.durable.done p.place p.who ≡ K.durable.done q i = cc in omega (arith, (G.inv.puts p z).0)

      again : (eqb n (K.durable.done q i) && ltb 0 n) ≡ true → (u : List ℕ) × Memᴰ (record { who = i; place = q; number = n; bytes = u }) r.applied
      again e = go (G.inv.done_in q i)
        where
          is : n ≡ K.durable.done q i
          is = eqb-true _ _ (and_parts (eqb n (K.durable.done q i)) (ltb 0 n) e).0

          pos : 0 < n
          pos = ltb-true _ _ (and_parts (eqb n (K.durable.done q i)) (ltb 0 n) e).1

          go : (K.durable.done q i ≡ 0) ⊎ ((u : List ℕ) × Memᴰ (record { who = i; place = q; number = K.durable.done q i; bytes = u }) r.applied) → (u : List ℕ) × Memᴰ (record { who = i; place = q; number = n; bytes = u }) r.applied
          go (inl z) = absurd (omega (arith, is, pos))
          go (inr h) = rw is h

      write_served : Gives (written c i q n v K.durable K.volatile)
      write_served =
          let f = G.formed _ mem in
          cond_both (ltb c K.volatile.quiet) (refused why.Quiet) _ Gives (λ e. plain _ _ _) λ loud.
          cond_both (eqb n (K.durable.done q i) && ltb 0 n) (record (refused why.NotApplied) { sends = In i q n ∷ [] }) _ Gives
          (λ e. record { inv = quietly S V G.inv (In i q n ∷ []) ((tt, again e, tt, λ x. x), tt); few = tt; sound = tt; silent = ((λ x. x), tt); formed = (f.0, tt) }) λ other.
          cond_both (leb n (K.durable.done q i)) (refused why.NotApplied) _ Gives (λ e. plain _ _ _) λ new.
          cond_both (leb n (K.durable.void q i)) (record (refused why.NotApplied) { sends = Void i q n ∷ [] }) _ Gives
          (λ e. record { inv = quietly S V G.inv (Void i q n ∷ []) ((tt, (omega (arith, leb-true _ _ e), not_in (leb-false _ _ new)), tt, λ x. x), tt); few = tt; sound = tt; silent = ((λ x. x), tt); formed = (f.0, tt) }) λ good.
          cond_both (list_any (allowing c i q) K.volatile.leases) (record nothing { records = _; sends = In i q n ∷ [] }) (refused why.NotApplied) Gives
          (λ e. record {
            inv = put_inv S V G.inv C awake (ltb-false _ _ loud) i q n v mem (leb-false _ _ new) (leb-false _ _ good) (may c i q K.volatile.leases e);
            few = tt;
            sound = ((f, tt), tt);
            silent = ((λ x. x), tt);
            formed = (f.0, tt);
          })
          (λ e. plain _ _ _)

    -- what was lent is given back
    ended : (i q n : ℕ) → Memᴰ (Back i q n) ms → Served (record K.volatile { leases = filter (staying i q n) K.volatile.leases }, nothing)
    ended i q n mem =
        record {
          inv = subst (λ (l : List Msg). Inv S (keeping V (record { value = K.durable.parts; done = K.durable.done; void = K.durable.void; leases = filter (staying i q n) K.volatile.leases; quiet = K.volatile.quiet; up = K.up }) l r.applied)) (sym (append-nil ms))
              (ends_inv S V G.inv i q n mem);
          few = tt;
          sound = tt;
          silent = tt;
          formed = tt;
        }

    pub heard_served : (o : Option Msg) → ((x : Msg) → o ≡ Some x → Memᴰ x ms) → Served (heard w.long c (for_keeper o) K.durable K.volatile)
    heard_served None mem = plain _ _ _
    heard_served (Some (Ask i q n k l)) mem = ask_served i q n k l (mem _ refl)
    heard_served (Some (Loan i q n k v)) mem = plain _ _ _
    heard_served (Some (Write i q n v)) mem = write_served i q n v (mem _ refl)
    heard_served (Some (In i q n)) mem = plain _ _ _
    heard_served (Some (Void i q n)) mem = plain _ _ _
    heard_served (Some (Recall i q)) mem = plain _ _ _
    heard_served (Some (Back i q n)) mem = ended i q n (mem _ refl)

    module _ (x : Volatile × Effect) (s : Served x) where
      abbrev rs : List Rec
      rs = x.1.records

      is : bytes_of (records_of owner.Keeper K.file) ≡ K.file
      is = G.keeper.journal awake

      -- what a journal makes and says that has these records more
      makes : (f : List ℕ) (more : List Rec) → records_of owner.Keeper f ≡ records_of owner.Keeper K.file ++ more → recovered f ≡ fold redo K.durable more
      makes f more e =
          ap (fold redo fresh) e ∙ fold-append redo fresh (records_of owner.Keeper K.file) more ∙ ap (λ (d : Durable). fold redo d more) (sym G.keeper.kept)

      lists : (f : List ℕ) (more : List Rec) → records_of owner.Keeper f ≡ records_of owner.Keeper K.file ++ more → puts more r.applied ≡ puts (records_of owner.Keeper f) []
      lists f more e =
          ap (puts more) G.keeper.on_disk ∙ sym (puts_append (records_of owner.Keeper K.file) more []) ∙ ap (λ (y : List Rec). puts y []) (sym e)

      pub served_good : Good S (of (with_sent x.1.sends (with_keeper (stepped redo x K) w)) (puts rs r.applied)) (ms ++ x.1.sends)
      served_good =
          let g = grown_records owner.Keeper K.file is rs s.sound in
          record {
            inv = s.inv;
            wire = more_wire w.sent ms x.1.sends G.wire;
            formed = more_formed ms x.1.sends G.formed s.formed;
            keeper = record { journal = λ u. grown_whole owner.Keeper K.file is rs s.sound; kept = sym (makes (K.file ++ bytes_of rs) rs g); on_disk = lists (K.file ++ bytes_of rs) rs g };
            borrowers = G.borrowers;
          }

      -- what is applied was sent before
      old : (p : Put) → Memᴰ p (puts rs r.applied) → Memᴰ (Write p.who p.place p.number p.bytes) ms
      old p h = go (Memᴰ.append_cases ms (s.inv.puts p h).1)
        where
          go : Memᴰ (Write p.who p.place p.number p.bytes) ms ⊎ Memᴰ (Write p.who p.place p.number p.bytes) x.1.sends → Memᴰ (Write p.who p.place p.number p.bytes) ms
          go (inl y) = y
          go (inr y) = absurd (each_at NoWrite x.1.sends s.silent _ y tt)

      -- a stop in its midst
      torn_inv : DownInv (fold redo K.durable rs) (puts rs r.applied)
      torn_inv = stop_inv S (keeping V (office (stepped redo x K)) ms (puts rs r.applied)) (unsent_inv S V G.inv (office (stepped redo x K)) x.1.sends (puts rs r.applied) s.inv old)

      pub served_torn : (n : ℕ) → Good S (of (with_keeper (keeper_down (torn_file K.file rs n)) w) (puts (whole_in n rs) r.applied)) ms
      served_torn n =
          let t = torn_records owner.Keeper K.file is rs s.sound n in
          down_good (torn_file K.file rs n) (puts (whole_in n rs) r.applied) (lists (torn_file K.file rs n) (whole_in n rs) t)
          (subst (λ (d : Durable). DownInv d (puts (whole_in n rs) r.applied)) (sym (makes (torn_file K.file rs n) (whole_in n rs) t))
          (whole_few rs s.few n (λ (q : List Rec). DownInv (fold redo K.durable q) (puts q r.applied)) (stop_inv S V G.inv) torn_inv))
