-- The whole invariant of a run, and what a borrower's events do to it.
-- Assumes nothing.
use Rattle.std.proofs.Common.{◌≡◌, ℕ, ◌+◌, ◌<◌, ◌≤◌, Bool, true, false, cond, eqb, leb, List, [], ◌∷◌, ◌++◌, length, Some, sym, refl, ap, ◌∙◌, subst, arith}
use mathlib.Core.List.{Memᴰ}
use Rattle.std.proofs.lemmas.Bool.{cond_both}
use Rattle.part.specs.Parts.{at_1}
use Rattle.message.specs.Format.{Msg, WellFormed}
use Rattle.journal.specs.declared.record.Owner.TheVariants as owner
use Rattle.journal.specs.Records.{Rec, Numbers, AllSound, bytes_of, records_of}
use Rattle.lender.specs.Replay.{memory}
use Rattle.borrower.specs.declared.hold.Part.{Part}
use Rattle.borrower.specs.declared.hold.OnFile.{OnFile}
use Rattle.borrower.specs.Steps.{last_number, rounded, kept_of, risen}
use Rattle.borrower.specs.OnDisk.{said, numbers_in}
use Rattle.borrower.specs.Tablets.{no_numbers}
use Rattle.borrower.specs.Outcomes.{due}
use Rattle.borrower.specs.Outcomes.{records_of as numbers_due}
use Rattle.borrower.specs.Used.{Near, on_file}
use Rattle.borrower.proofs.Used.{filed_up, Small}
use Rattle.world.specs.World.{World, Lender, Borrower, with_borrower, with_sent, borrower_down, borrower_up, torn_file, recovered}
use Rattle.world.specs.Runs.{Put, puts, Run, whole}
use Rattle.world.proofs.Inv.{Setting, Inv, Moved, moved_refl, Each, Held}
use Rattle.world.proofs.Move.{rise_moves, none_held}
use Rattle.world.proofs.Borrow.{at_both, held_more}
use Rattle.world.proofs.View.{view, stepped, one_moves, filed_is}
use Rattle.world.proofs.Calls.{nobody}
use Rattle.borrower.proofs.OnDisk.{said_append, said_due}
use Rattle.world.proofs.Files.{Journal, Few, grown_records, grown_journal, torn_records, cut_journal}
use Rattle.world.proofs.Wire.{Carries, more_formed, more_wire, less_wire, near_small}

abbrev pub setting : World → Setting
setting w = record { short = w.short; long = w.keeper.book.long }

-- the keeper's journal says what its memory has, and the writes that were applied
pub record KeeperFile (k : Lender) (H : List Put) : Type 0 where
  pub journal : Journal owner.Keeper k.up k.file
  pub kept : memory k.book k.parts ≡ recovered k.file
  pub on_disk : H ≡ puts (records_of owner.Keeper k.file) []

-- a borrower's journal says its numbers on file
pub record BorrowerFile (b : Borrower) : Type 0 where
  pub journal : Journal owner.Borrower b.up b.file
  pub numbers : b.filed ≡ numbers_in b.file

-- ms: all messages that were made, of which at least those whose bytes were sent
pub record Good (S : Setting) (r : Run) (ms : List Msg) : Type 0 where
  pub inv : Inv S (view r.world r.past ms r.applied)
  pub wire : Carries r.world.sent ms
  pub formed : (m : Msg) → Memᴰ m ms → WellFormed m
  pub keeper : KeeperFile r.world.keeper r.applied
  pub borrowers : (i : ℕ) → BorrowerFile (r.world.borrower i)

-- the same past and the same writes, of another world
abbrev pub on : Run → World → Run
on r w = record { world = w; past = r.past; applied = r.applied }

-- numbers on file go up, and stay rounded
pub record Grows (d d' : OnFile) : Type 0 where
  pub ask : d.ask ≤ d'.ask
  pub write : d.write ≤ d'.write
  pub ask_rounded : rounded d'.ask ≡ d'.ask
  pub write_rounded : rounded d'.write ≡ d'.write

grows_same : (d : OnFile) (p : Part) → Near d p → Grows d d
grows_same d p n = record { ask = omega arith; write = omega arith; ask_rounded = n.ask_rounded; write_rounded = n.write_rounded }

risen_near : (d d' : OnFile) → Grows d d' → Near d' (risen d')
risen_near d d' g = record { ask_rounded = g.ask_rounded; write_rounded = g.write_rounded; ask = low; ask_last = high; write = omega arith }
  where
    low : (risen d').ask ≤ d'.ask + 1
    low = cond_both (eqb d'.ask 0) 0 _ (λ x. x ≤ d'.ask + 1) (λ e. omega arith) (λ e. omega arith)

    high : (risen d').ask ≤ last_number
    high = cond_both (eqb d'.ask 0) 0 _ (λ x. x ≤ last_number) (λ e. omega arith) (λ e. omega arith)

-- the record of numbers that is due may stand in the journal, and it is one at most
due_sound : (q : ℕ) (p p' : Part) (f : OnFile) → q < 16384 → Near (on_file p f p') p' → AllSound owner.Borrower (numbers_due q p f p') × Few (numbers_due q p f p')
due_sound q p p' f h n = go (due p f p') n
  where
    go : (b : Bool) → Near (cond b (kept_of f p') f) p' →
        AllSound owner.Borrower (cond b (Numbers q (kept_of f p').ask (kept_of f p').write ∷ []) []) × Few (cond b (Numbers q (kept_of f p').ask (kept_of f p').write ∷ []) [])
    go true x = let z = near_small _ _ x in ((((h, omega (arith, z.0), omega (arith, z.1)), tt), tt), tt)
    go false x = (tt, tt)

module _ (S : Setting) (r : Run) (ms : List Msg) (G : Good S r ms) (i : ℕ) where
  abbrev w : World
  w = r.world

  abbrev B : Borrower
  B = w.borrower i

  others : (b : Borrower) → BorrowerFile b → (j : ℕ) → BorrowerFile (at_1 i b w.borrower j)
  others b f = at_both i b w.borrower (λ j x. BorrowerFile x) f (λ j ne. G.borrowers j)

  -- nothing was said
  silence : Carries w.sent (ms ++ [])
  silence = less_wire w.sent ms [] G.wire

  -- THE BORROWER LOSES ITS MEMORY: what it has is what a journal says
  down_good : (b : Borrower) → BorrowerFile b → ((q : ℕ) → Grows (B.filed q) (b.filed q)) → b.parts ≡ (λ q. risen (b.filed q)) → Good S (on r (with_borrower i b w)) (ms ++ [])
  down_good b f g e =
      record {
        inv = one_moves S w r.past ms r.applied G.inv i b []
            (λ q. subst (λ (ps : ℕ → Part). Moved (B.parts q) (B.filed q) (ps q) (b.filed q)) (sym e) (rise_moves (B.parts q) (B.filed q) (b.filed q) (g q).ask (g q).write (G.inv.near i q).write))
            (λ q. subst (λ (ps : ℕ → Part). Near (b.filed q) (ps q)) (sym e) (risen_near (B.filed q) (b.filed q) (g q)))
            tt nobody
            (λ q. subst (λ (ps : ℕ → Part). Held (ms ++ []) i q (ps q) (b.copies q)) (sym e) (none_held (ms ++ []) i q (risen (b.filed q)) (b.copies q) refl));
        wire = silence;
        formed = more_formed ms [] G.formed tt;
        keeper = G.keeper;
        borrowers = others b f;
      }

  pub stop_good : Good S (on r (with_borrower i (borrower_down B.file) w)) (ms ++ [])
  stop_good =
      down_good (borrower_down B.file) (record { journal = record { torn = (G.borrowers i).journal.torn; whole = λ u. let z : ◌≡◌ {A = ℕ} 0 1 = cc in absurd (omega arith) }; numbers = refl })
      (λ q. subst (λ (f : ℕ → OnFile). Grows (B.filed q) (f q)) (G.borrowers i).numbers (grows_same (B.filed q) (B.parts q) (G.inv.near i q))) refl

  pub up_good : Good S (on r (with_borrower i (borrower_up B.file) w)) (ms ++ [])
  up_good =
      let c = cut_journal owner.Borrower true B.file in
      down_good (borrower_up B.file) (record { journal = c.1; numbers = ap (λ (rs : List Rec). said rs (λ q. no_numbers)) (sym c.0) })
      (λ q. subst (λ (f : ℕ → OnFile). Grows (B.filed q) (f q)) (G.borrowers i).numbers (grows_same (B.filed q) (B.parts q) (G.inv.near i q))) refl

  -- WHILE IT IS UP
  module _ (awake : B.up ≡ true) where
    is : bytes_of (records_of owner.Borrower B.file) ≡ B.file
    is = (G.borrowers i).journal.whole awake

    -- what the journal says after some records, whole or torn
    says : (file : List ℕ) (rs : List Rec) → records_of owner.Borrower file ≡ records_of owner.Borrower B.file ++ rs → numbers_in file ≡ said rs B.filed
    says file rs e =
        ap (λ (x : List Rec). said x (λ q. no_numbers)) e ∙ said_append (records_of owner.Borrower B.file) rs (λ q. no_numbers) ∙ ap (said rs) (sym (G.borrowers i).numbers)

    -- nothing comes of it
    pub idle_good : Good S (on r (with_sent [] (with_borrower i (record { parts = B.parts; filed = B.filed; copies = B.copies; up = true; file = B.file ++ bytes_of [] }) w))) (ms ++ [])
    idle_good =
        record {
          inv = one_moves S w r.past ms r.applied G.inv i (record { parts = B.parts; filed = B.filed; copies = B.copies; up = true; file = B.file ++ bytes_of [] }) []
              (λ q. moved_refl _ _) (λ q. G.inv.near i q) tt nobody (λ q. held_more ms [] i q (B.parts q) (B.copies q) (G.inv.held i q));
          wire = more_wire w.sent ms [] G.wire;
          formed = more_formed ms [] G.formed tt;
          keeper = G.keeper;
          borrowers = others _ (record { journal = grown_journal owner.Borrower B.file is [] tt; numbers = sym (says (B.file ++ bytes_of []) [] (grown_records owner.Borrower B.file is [] tt)) });
        }

    -- it stops in the midst of appending some records
    torn_by : (rs : List Rec) → AllSound owner.Borrower rs → Few rs → (n : ℕ) → ((q : ℕ) → Grows (B.filed q) (said rs B.filed q)) → Good S (on r (with_borrower i (borrower_down (torn_file B.file rs n)) w)) (ms ++ [])
    torn_by rs s f n g =
        let t = torn_records owner.Borrower B.file is rs s f n in
        down_good (borrower_down (torn_file B.file rs n)) (record { journal = t.1; numbers = refl })
        (λ q. subst (λ (x : ℕ → OnFile). Grows (B.filed q) (x q)) (sym (says (torn_file B.file rs n) (whole rs (Some n)) t.0))
        (cond_both (leb (length (bytes_of rs)) n) rs [] (λ (x : List Rec). Grows (B.filed q) (said x B.filed q)) (λ e. g q) (λ e. same q))) refl
      where
        same : (q : ℕ) → Grows (B.filed q) (B.filed q)
        same q = grows_same (B.filed q) (B.parts q) (G.inv.near i q)

    pub idle_torn : (n : ℕ) → Good S (on r (with_borrower i (borrower_down (torn_file B.file [] n)) w)) (ms ++ [])
    idle_torn n = torn_by [] tt tt n (λ q. grows_same (B.filed q) (B.parts q) (G.inv.near i q))

    -- a step at one part
    module _ (q : ℕ) (p' : Part) (small : Small p') (near : Near (on_file (B.parts q) (B.filed q) p') p') (here : q < 16384) where
      abbrev rs : List Rec
      rs = numbers_due q (B.parts q) (B.filed q) p'

      snd : AllSound owner.Borrower rs × Few rs
      snd = due_sound q (B.parts q) p' (B.filed q) here near

      pub step_good : (cs : ℕ → List ℕ) (new : List Msg) → Each WellFormed new →
          Inv S (view (with_borrower i (stepped S w r.past ms r.applied G.inv i q p' cs (B.file ++ bytes_of rs)) w) r.past (ms ++ new) r.applied) →
          Good S (on r (with_sent new (with_borrower i (stepped S w r.past ms r.applied G.inv i q p' cs (B.file ++ bytes_of rs)) w))) (ms ++ new)
      step_good cs new f x =
          record {
            inv = x;
            wire = more_wire w.sent ms new G.wire;
            formed = more_formed ms new G.formed f;
            keeper = G.keeper;
            borrowers = others _ (record { journal = grown_journal owner.Borrower B.file is rs snd.0; numbers = sym (says (B.file ++ bytes_of rs) rs (grown_records owner.Borrower B.file is rs snd.0) ∙ said_due q (B.parts q) p' B.filed) });
          }

      pub step_torn : (n : ℕ) → Good S (on r (with_borrower i (borrower_down (torn_file B.file rs n)) w)) (ms ++ [])
      step_torn n = torn_by rs snd.0 snd.1 n (λ x. subst (λ (f : ℕ → OnFile). Grows (B.filed x) (f x)) (sym (said_due q (B.parts q) p' B.filed)) (subst (λ (d : OnFile). Grows (B.filed x) d) (sym (filed_is q (B.parts q) p' B.filed x)) (at x)))
        where
          at : (x : ℕ) → Grows (B.filed x) (at_1 q (on_file (B.parts q) (B.filed q) p') B.filed x)
          at = at_both q (on_file (B.parts q) (B.filed q) p') B.filed (λ x d. Grows (B.filed x) d)
              (let u = filed_up (B.parts q) p' (B.filed q) small in record { ask = u.0; write = u.1; ask_rounded = near.ask_rounded; write_rounded = near.write_rounded })
              (λ x ne. grows_same (B.filed x) (B.parts x) (G.inv.near i x))
