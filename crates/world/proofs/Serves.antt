-- The keeper's messages, whole or torn, its stops and its coming up keep the whole invariant.
-- Assumes nothing.
use Rattle.std.proofs.Common.{◌≡◌, ℕ, ◌+◌, ◌^◌, ◌<◌, ◌≤◌, max, Bool, true, false, cond, ◌&&◌, eqb, ltb, leb, ◌⊎◌, List, [], ◌∷◌, ◌++◌, length, Some, None, count_by, filter, Option, sym, refl, ap, ◌∙◌, subst, inl, inr, append-nil, arith}
use mathlib.Core.List.Memᴰ
use mathlib.Core.List.{Memᴰ}
use Rattle.std.proofs.lemmas.Bool.{cond_both, eqb-true, leb-true, leb-false, ltb-true, ltb-false, and_parts}
use Rattle.message.specs.declared.kind.Kind.{Kind}
use Rattle.message.specs.Format.{Msg, Ask, Loan, Write, In, Void, Recall, Back, WellFormed}
use Rattle.message.specs.Reading.{read}
use Rattle.journal.specs.declared.record.Owner.TheVariants as owner
use Rattle.journal.specs.Records.{Rec, AllSound, bytes_of, records_of}
use Rattle.lease.specs.Leases.{running, barring, allowing, staying}
use Rattle.std.specs.List.{list_any}
use Rattle.lease.specs.Tables.{marks_of}
use Rattle.lender.specs.declared.answer.AskAnswer.{AskAnswer}
use Rattle.lender.specs.declared.answer.AskAnswer.TheVariants as ask
use Rattle.lender.specs.declared.answer.WriteAnswer.{WriteAnswer}
use Rattle.lender.specs.declared.answer.WriteAnswer.TheVariants as write
use Rattle.lender.specs.Rules.{Book, at_2, voids, recalls, ask_answer, after_ask, ask_sends, ask_records, write_answer, after_write, parts_after, write_sends, write_records}
use Rattle.lender.specs.Replies.{Effect, heard_effect, heard_book, heard_parts}
use Rattle.lender.specs.Replay.{Memory, memory, replay, nothing}
use Rattle.lender.proofs.Kept.{kept}
use Rattle.lender.proofs.OnDisk.{all_sound, replay_append}
use Rattle.world.specs.World.{World, Lender, with_keeper, with_sent, recovered, keeper_down, keeper_up, torn_file}
use Rattle.world.specs.Runs.{Put, puts, Run, whole}
use Rattle.world.specs.Promise.{NotIn}
use Rattle.world.proofs.Inv.{Setting, State, Inv, Clocked, Wrote, Each, each_at}
use Rattle.world.proofs.Borrow.{WriteOf}
use Rattle.world.proofs.Leases.{may, at_two, at_here}
use Rattle.world.proofs.Keep.{keeping, quietly, only_recalls, lend_inv, put_inv, ends_inv, unsent_inv, stop_inv, rise_inv}
use Rattle.world.proofs.View.{view, office}
use Rattle.world.proofs.Files.{Journal, Few, puts_append, grown_records, grown_journal, torn_records, recovered_long, cut_journal}
use Rattle.world.proofs.Wire.{more_formed, more_wire, keeper_formed}
use Rattle.world.proofs.Good.{setting, Good, on}

-- at most one record comes of a message, and no write is sent
ask_few : (i q l : ℕ) (a : AskAnswer) → Few (ask_records i q l a)
ask_few i q l (ask.Granted true) = tt
ask_few i q l (ask.Granted false) = tt
ask_few i q l ask.Quiet = tt
ask_few i q l (ask.Barred by) = tt
ask_few i q l ask.Exhausted = tt

write_few : (i q n : ℕ) (v : List ℕ) (a : WriteAnswer) → Few (write_records i q n v a)
write_few i q n v write.Applied = tt
write_few i q n v write.Again = tt
write_few i q n v write.Void = tt
write_few i q n v write.Passed = tt
write_few i q n v write.Quiet = tt

pub few : (c : ℕ) (o : Option Msg) (b : Book) (f : ℕ → List ℕ) → Few (heard_effect c o b f).records
few c None b f = tt
few c (Some (Ask i q n k l)) b f = ask_few i q l (ask_answer c i q k l b)
few c (Some (Loan i q n k v)) b f = tt
few c (Some (Write i q n v)) b f = write_few i q n v (write_answer c i q n b)
few c (Some (In i q n)) b f = tt
few c (Some (Void i q n)) b f = tt
few c (Some (Recall i q)) b f = tt
few c (Some (Back i q n)) b f = tt

abbrev pub NoWrite : Msg → Type 0
NoWrite m = WriteOf m → ⊥

recalls_none : (q j : ℕ) (bs : List Bool) → Each NoWrite (recalls q j bs)
recalls_none q j [] = tt
recalls_none q j (true ∷ bs) = ((λ x. x), recalls_none q _ bs)
recalls_none q j (false ∷ bs) = recalls_none q _ bs

ask_none : (i q n : ℕ) (k : Kind) (v : List ℕ) (a : AskAnswer) → Each NoWrite (ask_sends i q n k v a)
ask_none i q n k v (ask.Granted b) = ((λ x. x), tt)
ask_none i q n k v ask.Quiet = tt
ask_none i q n k v (ask.Barred by) = recalls_none q 0 by
ask_none i q n k v ask.Exhausted = tt

write_none : (i q n : ℕ) (a : WriteAnswer) → Each NoWrite (write_sends i q n a)
write_none i q n write.Applied = ((λ x. x), tt)
write_none i q n write.Again = ((λ x. x), tt)
write_none i q n write.Void = ((λ x. x), tt)
write_none i q n write.Passed = tt
write_none i q n write.Quiet = tt

pub none : (c : ℕ) (o : Option Msg) (b : Book) (f : ℕ → List ℕ) → Each NoWrite (heard_effect c o b f).sends
none c None b f = tt
none c (Some (Ask i q n k l)) b f = ask_none i q n k (f q) (ask_answer c i q k l b)
none c (Some (Loan i q n k v)) b f = tt
none c (Some (Write i q n v)) b f = write_none i q n (write_answer c i q n b)
none c (Some (In i q n)) b f = tt
none c (Some (Void i q n)) b f = tt
none c (Some (Recall i q)) b f = tt
none c (Some (Back i q n)) b f = tt

module _ (r : Run) (ms : List Msg) (G : Good (setting r.world) r ms) where
  abbrev w : World
  w = r.world

  abbrev S : Setting
  S = setting w

  abbrev K : Lender
  K = w.keeper

  abbrev V : State
  V = view w r.past ms r.applied

  -- a keeper that is down or has just come up has what its journal says
  abbrev DownInv : Memory → List Put → Type 0
  DownInv s H = Inv S (keeping V (record { value = s.parts; done = s.done; void = s.void; leases = []; quiet = 0; up = false }) ms H)

  down_good : (f : List ℕ) (H : List Put) → Journal owner.Keeper false f → H ≡ puts (records_of owner.Keeper f) [] → DownInv (recovered f) H →
      Good S (record { world = with_keeper (keeper_down K.book.long f) w; past = r.past; applied = H }) ms
  down_good f H j d i = record { inv = i; wire = G.wire; formed = G.formed; keeper = record { journal = j; kept = refl; on_disk = d }; borrowers = G.borrowers }

  pub stop_good : Good S (on r (with_keeper (keeper_down K.book.long K.file) w)) ms
  stop_good =
      down_good K.file r.applied (record { torn = G.keeper.journal.torn; whole = λ u. let z : ◌≡◌ {A = ℕ} 0 1 = cc in absurd (omega arith) }) G.keeper.on_disk
      (subst (λ (s : Memory). DownInv s r.applied) G.keeper.kept (stop_inv S V G.inv))

  pub up_good : Clocked S w.now r.past → Good S (on r (with_keeper (keeper_up (w.now.hand 0) K.book.long K.file) w)) ms
  up_good C =
      let c = cut_journal owner.Keeper true K.file in
      record {
        inv = subst (λ (s : Memory). Inv S (keeping V (record { value = s.parts; done = s.done; void = s.void; leases = []; quiet = w.now.hand 0 + K.book.long; up = true }) ms r.applied)) G.keeper.kept (rise_inv S V G.inv C);
        wire = G.wire;
        formed = G.formed;
        keeper = record { journal = c.1; kept = ap (λ (rs : List Rec). replay rs nothing) (sym c.0); on_disk = G.keeper.on_disk ∙ ap (λ (rs : List Rec). puts rs []) (sym c.0) };
        borrowers = G.borrowers;
      }

  -- WHILE IT IS UP
  module _ (C : Clocked S w.now r.past) (awake : K.up ≡ true) where
    abbrev c : ℕ
    c = w.now.hand 0

    -- the keeper's book and parts, what was sent and what was applied after a message
    abbrev Served : Bool → Book → (ℕ → List ℕ) → List Msg → List Put → Type 0
    Served u b f new H = Inv S (keeping V (office (record { book = b; parts = f; up = u; file = [] })) (ms ++ new) H)

    nothing_new : Served K.up K.book K.parts [] r.applied
    nothing_new = quietly S V G.inv [] tt

    -- an ask
    module _ (i q n : ℕ) (k : Kind) (l : ℕ) (asked : Memᴰ (Ask i q n k l) ms) where
      abbrev Asked : AskAnswer → Type 0
      Asked a = Served K.up (after_ask c i q n k l a K.book) K.parts (ask_sends i q n k (K.parts q) a) (puts (ask_records i q l a) r.applied)

      granted : K.book.quiet ≤ c → list_any (barring c i q k) K.book.leases ≡ false → (b : Bool) → voids i q l K.book ≡ b → Asked (ask.Granted b)
      granted loud open' true e =
          let z = and_parts (ltb (K.book.done q i) l) (ltb (K.book.void q i) l) e in
          lend_inv S V G.inv C awake loud i q n k l asked open' (at_2 q i l K.book.void)
          (at_two q i l K.book.void (λ x j y. K.book.void x j ≤ y) (omega (arith, ltb-true _ _ z.1)) (λ x j. omega arith))
          (rw (at_here q i l K.book.void) (omega arith))
          (λ j x. at_two q i l K.book.void (λ x j y. Wrote ((w.borrower j).parts x) ((w.borrower j).filed x) y) (G.inv.mail (Ask i q n k l) asked).2 (λ x j. (G.inv.known j x).1) x j)
      granted loud open' false e =
          lend_inv S V G.inv C awake loud i q n k l asked open' K.book.void (λ x j. omega arith) (not_void (cases e)) (λ j x. (G.inv.known j x).1)
        where
          cases : (ltb (K.book.done q i) l && ltb (K.book.void q i) l) ≡ false → (ltb (K.book.done q i) l ≡ false) ⊎ (ltb (K.book.void q i) l ≡ false)
          cases = go (ltb (K.book.done q i) l)
            where
              go : (b : Bool) → (b && ltb (K.book.void q i) l) ≡ false → (b ≡ false) ⊎ (ltb (K.book.void q i) l ≡ false)
              go true z = inr z
              go false z = inl refl

          not_void : (ltb (K.book.done q i) l ≡ false) ⊎ (ltb (K.book.void q i) l ≡ false) → l ≤ max (K.book.done q i) (K.book.void q i)
          not_void (inl z) = omega (arith, ltb-false _ _ z)
          not_void (inr z) = omega (arith, ltb-false _ _ z)

      ask_served : Asked (ask_answer c i q k l K.book)
      ask_served =
          cond_both (ltb c K.book.quiet) ask.Quiet _ Asked (λ e. nothing_new) λ loud.
          cond_both (list_any (barring c i q k) K.book.leases) (ask.Barred (marks_of (barring c i q k) K.book.leases)) _ Asked (λ e. quietly S V G.inv _ (only_recalls S V G.inv q 0 (marks_of (barring c i q k) K.book.leases))) λ open'.
          cond_both (leb (2 ^ 64) (c + K.book.long)) ask.Exhausted _ Asked (λ e. nothing_new) λ room.
          cond_both (leb 4096 (count_by (running c) K.book.leases)) ask.Exhausted (ask.Granted (voids i q l K.book)) Asked (λ e. nothing_new) λ few.
          granted (ltb-false _ _ loud) open' (voids i q l K.book) refl

    -- a write
    module _ (i q n : ℕ) (v : List ℕ) (sent : Memᴰ (Write i q n v) ms) where
      abbrev WroteSo : WriteAnswer → Type 0
      WroteSo a = Served K.up (after_write i q n a K.book) (parts_after q v a K.parts) (write_sends i q n a) (puts (write_records i q n v a) r.applied)

      not_in : K.book.done q i < n → NotIn r.applied i q n
      not_in h p z a b e = let same : K.book.done p.place p.who ≡ K.book.done q i = cc in omega (arith, (G.inv.puts p z).0)

      again : (eqb n (K.book.done q i) && ltb 0 n) ≡ true → (u : List ℕ) × Memᴰ (record { who = i; place = q; number = n; bytes = u }) r.applied
      again e = go (G.inv.done_in q i)
        where
          is : n ≡ K.book.done q i
          is = eqb-true _ _ (and_parts (eqb n (K.book.done q i)) (ltb 0 n) e).0

          pos : 0 < n
          pos = ltb-true _ _ (and_parts (eqb n (K.book.done q i)) (ltb 0 n) e).1

          go : (K.book.done q i ≡ 0) ⊎ ((u : List ℕ) × Memᴰ (record { who = i; place = q; number = K.book.done q i; bytes = u }) r.applied) → (u : List ℕ) × Memᴰ (record { who = i; place = q; number = n; bytes = u }) r.applied
          go (inl z) = absurd (omega (arith, is, pos))
          go (inr h) = rw is h

      write_served : WroteSo (write_answer c i q n K.book)
      write_served =
          cond_both (ltb c K.book.quiet) write.Quiet _ WroteSo (λ e. nothing_new) λ loud.
          cond_both (eqb n (K.book.done q i) && ltb 0 n) write.Again _ WroteSo (λ e. quietly S V G.inv (In i q n ∷ []) ((tt, again e, tt, λ x. x), tt)) λ other.
          cond_both (leb n (K.book.done q i)) write.Passed _ WroteSo (λ e. nothing_new) λ new.
          cond_both (leb n (K.book.void q i)) write.Void _ WroteSo (λ e. quietly S V G.inv (Void i q n ∷ []) ((tt, (omega (arith, leb-true _ _ e), not_in (leb-false _ _ new)), tt, λ x. x), tt)) λ good.
          cond_both (list_any (allowing c i q) K.book.leases) write.Applied write.Passed WroteSo
          (λ e. put_inv S V G.inv C awake (ltb-false _ _ loud) i q n v sent (leb-false _ _ new) (leb-false _ _ good) (may c i q K.book.leases e))
          (λ e. nothing_new)

    abbrev E : Option Msg → Effect
    E o = heard_effect c o K.book K.parts

    by_message : (o : Option Msg) → ((x : Msg) → o ≡ Some x → Memᴰ x ms) → Served K.up (heard_book c o K.book) (heard_parts c o K.book K.parts) (E o).sends (puts (E o).records r.applied)
    by_message None mem = nothing_new
    by_message (Some (Ask i q n k l)) mem = ask_served i q n k l (mem _ refl)
    by_message (Some (Loan i q n k v)) mem = nothing_new
    by_message (Some (Write i q n v)) mem = write_served i q n v (mem _ refl)
    by_message (Some (In i q n)) mem = nothing_new
    by_message (Some (Void i q n)) mem = nothing_new
    by_message (Some (Recall i q)) mem = nothing_new
    by_message (Some (Back i q n)) mem =
        subst (λ (l : List Msg). Inv S (keeping V (record { value = K.parts; done = K.book.done; void = K.book.void; leases = filter (staying i q n) K.book.leases; quiet = K.book.quiet; up = K.up }) l r.applied)) (sym (append-nil ms))
        (ends_inv S V G.inv i q n (mem _ refl))

    module _ (bs : List ℕ) (mem : (x : Msg) → read bs ≡ Some x → Memᴰ x ms) where
      abbrev rs : List Rec
      rs = (E (read bs)).records

      is : bytes_of (records_of owner.Keeper K.file) ≡ K.file
      is = G.keeper.journal.whole awake

      snd : AllSound owner.Keeper rs
      snd = all_sound c bs K.book K.parts

      -- what a journal says that has these records more
      makes : (f : List ℕ) (more : List Rec) → records_of owner.Keeper f ≡ records_of owner.Keeper K.file ++ more → recovered f ≡ replay more (memory K.book K.parts)
      makes f more e =
          ap (λ (x : List Rec). replay x nothing) e ∙ replay_append (records_of owner.Keeper K.file) more nothing ∙ ap (replay more) (sym G.keeper.kept)

      lists : (f : List ℕ) (more : List Rec) → records_of owner.Keeper f ≡ records_of owner.Keeper K.file ++ more → puts more r.applied ≡ puts (records_of owner.Keeper f) []
      lists f more e =
          ap (puts more) G.keeper.on_disk ∙ sym (puts_append (records_of owner.Keeper K.file) more []) ∙ ap (λ (x : List Rec). puts x []) (sym e)

      formed : (o : Option Msg) → ((x : Msg) → o ≡ Some x → Memᴰ x ms) → Each WellFormed (E o).sends
      formed None f = tt
      formed (Some m) f = keeper_formed c m (G.formed m (f m refl)) K.book K.parts (λ q l. subst (λ (s : Memory). length (s.parts q) ≡ 1024) (sym G.keeper.kept) (recovered_long K.file q l))

      inv' : Served K.up (heard_book c (read bs) K.book) (heard_parts c (read bs) K.book K.parts) (E (read bs)).sends (puts rs r.applied)
      inv' = by_message (read bs) mem

      pub served_good : Good S (record { world = with_sent (E (read bs)).sends (with_keeper (record { book = heard_book c (read bs) K.book; parts = heard_parts c (read bs) K.book K.parts; up = true; file = K.file ++ bytes_of rs }) w); past = r.past; applied = puts rs r.applied }) (ms ++ (E (read bs)).sends)
      served_good =
          let g = grown_records owner.Keeper K.file is rs snd in
          record {
            inv = subst (λ (u : Bool). Served u (heard_book c (read bs) K.book) (heard_parts c (read bs) K.book K.parts) (E (read bs)).sends (puts rs r.applied)) awake inv';
            wire = more_wire w.sent ms (E (read bs)).sends G.wire;
            formed = more_formed ms (E (read bs)).sends G.formed (formed (read bs) mem);
            keeper = record { journal = grown_journal owner.Keeper K.file is rs snd; kept = kept c (read bs) K.book K.parts ∙ sym (makes (K.file ++ bytes_of rs) rs g); on_disk = lists (K.file ++ bytes_of rs) rs g };
            borrowers = G.borrowers;
          }

      -- what is applied was sent before
      old : (p : Put) → Memᴰ p (puts rs r.applied) → Memᴰ (Write p.who p.place p.number p.bytes) ms
      old p h = go (Memᴰ.append_cases ms (inv'.puts p h).1)
        where
          go : Memᴰ (Write p.who p.place p.number p.bytes) ms ⊎ Memᴰ (Write p.who p.place p.number p.bytes) (E (read bs)).sends → Memᴰ (Write p.who p.place p.number p.bytes) ms
          go (inl x) = x
          go (inr x) = absurd (each_at NoWrite (E (read bs)).sends (none c (read bs) K.book K.parts) _ x tt)

      -- a stop in its midst
      torn_inv : (b : Bool) → DownInv (replay (cond b rs []) (memory K.book K.parts)) (puts (cond b rs []) r.applied)
      torn_inv true =
          let L = office (record { book = heard_book c (read bs) K.book; parts = heard_parts c (read bs) K.book K.parts; up = K.up; file = [] }) in
          subst (λ (s : Memory). DownInv s (puts rs r.applied)) (kept c (read bs) K.book K.parts)
          (stop_inv S (keeping V L ms (puts rs r.applied)) (unsent_inv S V G.inv L (E (read bs)).sends (puts rs r.applied) inv' old))
      torn_inv false = stop_inv S V G.inv

      pub served_torn : (n : ℕ) → Good S (record { world = with_keeper (keeper_down K.book.long (torn_file K.file rs n)) w; past = r.past; applied = puts (whole rs (Some n)) r.applied }) ms
      served_torn n =
          let t = torn_records owner.Keeper K.file is rs snd (few c (read bs) K.book K.parts) n in
          down_good (torn_file K.file rs n) (puts (whole rs (Some n)) r.applied) t.1 (lists (torn_file K.file rs n) (whole rs (Some n)) t.0)
          (subst (λ (s : Memory). DownInv s (puts (whole rs (Some n)) r.applied)) (sym (makes (torn_file K.file rs n) (whole rs (Some n)) t.0)) (torn_inv (leb (length (bytes_of rs)) n)))
