-- The whole invariant of a run, and what a borrower's steps do to it.
use Rattle.std.proofs.Common.{◌≡◌, ℕ, ◌+◌, ◌<◌, ◌≤◌, Bool, true, false, cond, eqb, List, [], ◌∷◌, ◌++◌, Result, fold, sym, refl, ap, ◌∙◌, subst, append-nil, arith}
use mathlib.Core.List.{Memᴰ}
use Rattle.std.proofs.lemmas.Bool.{cond_both}
use Rattle.std.proofs.lemmas.List.Sums.{fold-append}
use Rattle.part.specs.Parts.{at_1}
use Rattle.message.specs.declared.refusal.Refusal.{Refusal}
use Rattle.message.specs.Format.{Msg, WellFormed}
use Rattle.journal.specs.declared.record.Owner.TheVariants as owner
use Rattle.journal.specs.Records.{Rec, Numbers, AllSound, bytes_of, records_of}
use Rattle.journal.specs.Laws.{whole_in}
use Rattle.machine.specs.Effects.{Note, Effect}
use Rattle.borrowing.specs.declared.hold.Part.{Part}
use Rattle.borrowing.specs.declared.on_file.OnFile.{OnFile}
use Rattle.borrowing.specs.Parts.{last_number, rounded, raised, come_up}
use Rattle.borrowing.specs.Rules.{Durable, Volatile, is_due, due, redo, fresh}
use Rattle.stepped_world.specs.World.{World, Lender, Borrower, with_borrower, with_sent, borrower_down, borrower_wakes, borrower_woken, no_copies, torn_file, recovered, numbers_in, stepped}
use Rattle.stepped_world.specs.Runs.{Put, puts, Run}
use Rattle.stepped_world.proofs.Used.{Near, on_file, after, filed_up}
use Rattle.stepped_world.proofs.Inv.{Setting, Inv, moved_refl, Each}
use Rattle.stepped_world.proofs.Move.{rise_moves, none_held}
use Rattle.stepped_world.proofs.Borrow.{at_both, held_more}
use Rattle.stepped_world.proofs.View.{view, one_moves, filed_is}
use Rattle.stepped_world.proofs.Calls.{nobody, Leaves}
use Rattle.stepped_world.proofs.Files.{Journal, Few, whole_few, down_journal, woken_records, grown_records, grown_whole, torn_records}
use Rattle.stepped_world.proofs.Wire.{Carries, more_formed, more_wire, less_wire, near_small}

abbrev pub setting : World → Setting
setting w = record { short = w.short; long = w.long }

-- the keeper's journal makes what it has that outlasts a stop, and says the writes that were applied
pub record KeeperFile (k : Lender) (H : List Put) : Type 0 where
  pub journal : Journal owner.Keeper k.up k.file
  pub kept : k.durable ≡ recovered k.file
  pub on_disk : H ≡ puts (records_of owner.Keeper k.file) []

-- a borrower's journal makes its numbers on file
pub record BorrowerFile (b : Borrower) : Type 0 where
  pub journal : Journal owner.Borrower b.up b.file
  pub numbers : b.durable ≡ numbers_in b.file

-- ms: all messages that were made, of which at least those whose bytes were sent
pub record Good (S : Setting) (r : Run) (ms : List Msg) : Type 0 where
  pub inv : Inv S (view r.world r.past ms r.applied)
  pub wire : Carries r.world.sent ms
  pub formed : (m : Msg) → Memᴰ m ms → WellFormed m
  pub keeper : KeeperFile r.world.keeper r.applied
  pub borrowers : (i : ℕ) → BorrowerFile (r.world.borrower i)

-- the same past and the same writes, of another world
abbrev pub on : Run → World → Run
on r w = record { world = w; past = r.past; applied = r.applied }

-- numbers on file go up, and stay rounded
pub record Grows (d d' : OnFile) : Type 0 where
  pub ask : d.ask ≤ d'.ask
  pub write : d.write ≤ d'.write
  pub ask_rounded : rounded d'.ask ≡ d'.ask
  pub write_rounded : rounded d'.write ≡ d'.write

grows_same : (d : OnFile) (p : Part) → Near d p → Grows d d
grows_same d p n = record { ask = omega arith; write = omega arith; ask_rounded = n.ask_rounded; write_rounded = n.write_rounded }

woken_near : (d d' : OnFile) → Grows d d' → Near d' (come_up d')
woken_near d d' g = record { ask_rounded = g.ask_rounded; write_rounded = g.write_rounded; ask = low; ask_last = high; write = omega arith }
  where
    low : (come_up d').ask ≤ d'.ask + 1
    low = cond_both (eqb d'.ask 0) 0 _ (λ x. x ≤ d'.ask + 1) (λ e. omega arith) (λ e. omega arith)

    high : (come_up d').ask ≤ last_number
    high = cond_both (eqb d'.ask 0) 0 _ (λ x. x ≤ last_number) (λ e. omega arith) (λ e. omega arith)

-- the record of numbers that is due may stand in the journal, and it is one at most
due_sound : (q : ℕ) (p p' : Part) (f : OnFile) → q < 16384 → Near (on_file p f p') p' → AllSound owner.Borrower (due q p f p') × Few (due q p f p')
due_sound q p p' f h n = go (is_due p f p') n
  where
    go : (b : Bool) → Near (cond b (raised f p') f) p' →
        AllSound owner.Borrower (cond b (Numbers q (raised f p').ask (raised f p').write ∷ []) []) × Few (cond b (Numbers q (raised f p').ask (raised f p').write ∷ []) [])
    go true x = let z = near_small _ _ x in ((((h, omega (arith, z.0), omega (arith, z.1)), tt), tt), tt)
    go false x = (tt, tt)

-- it is nothing that leaves
pub sent_none : (S : Setting) (r : Run) (x : World) (ms : List Msg) → Good S (on r x) ms → Good S (on r (with_sent [] x)) ms
sent_none S r x ms G = record { inv = G.inv; wire = subst (λ (bs : List (List ℕ)). Carries bs ms) (sym (append-nil x.sent)) G.wire; formed = G.formed; keeper = G.keeper; borrowers = G.borrowers }

module _ (S : Setting) (r : Run) (ms : List Msg) (G : Good S r ms) (i : ℕ) where
  abbrev w : World
  w = r.world

  abbrev B : Borrower
  B = w.borrower i

  others : (b : Borrower) → BorrowerFile b → (j : ℕ) → BorrowerFile (at_1 i b w.borrower j)
  others b f = at_both i b w.borrower (λ j x. BorrowerFile x) f (λ j ne. G.borrowers j)

  same_grows : (q : ℕ) → Grows (B.durable q) (B.durable q)
  same_grows q = grows_same (B.durable q) (B.volatile.parts q) (G.inv.near i q)

  -- THE BORROWER LOSES ITS MEMORY: what it has is what a journal makes
  abbrev bare : Durable → Bool → List ℕ → Borrower
  bare d u f = record { durable = d; volatile = no_copies d; up = u; file = f }

  bare_good : (d : Durable) (u : Bool) (f : List ℕ) → BorrowerFile (bare d u f) → ((q : ℕ) → Grows (B.durable q) (d q)) → Good S (on r (with_borrower i (bare d u f) w)) (ms ++ [])
  bare_good d u f b g =
      record {
        inv = one_moves S w r.past ms r.applied G.inv i (bare d u f) []
            (λ q. rise_moves (B.volatile.parts q) (B.durable q) (d q) (g q).ask (g q).write (G.inv.near i q).write)
            (λ q. woken_near (B.durable q) (d q) (g q))
            tt nobody
            (λ q. none_held (ms ++ []) i q (come_up (d q)) _ refl);
        wire = less_wire w.sent ms [] G.wire;
        formed = more_formed ms [] G.formed tt;
        keeper = G.keeper;
        borrowers = others (bare d u f) b;
      }

  down_good : (f : List ℕ) → ((q : ℕ) → Grows (B.durable q) (numbers_in f q)) → Good S (on r (with_borrower i (borrower_down f) w)) (ms ++ [])
  down_good f g = bare_good (numbers_in f) false f (record { journal = down_journal owner.Borrower f; numbers = refl }) g

  pub stop_good : Good S (on r (with_borrower i (borrower_down B.file) w)) (ms ++ [])
  stop_good = down_good B.file (λ q. subst (λ (f : Durable). Grows (B.durable q) (f q)) (G.borrowers i).numbers (same_grows q))

  pub up_good : Good S (on r (borrower_woken i (borrower_wakes i w) w)) (ms ++ [])
  up_good =
      let e = woken_records owner.Borrower B.file in
      sent_none S r (with_borrower i (bare B.durable true (bytes_of (records_of owner.Borrower B.file) ++ bytes_of [])) w) (ms ++ [])
      (bare_good B.durable true (bytes_of (records_of owner.Borrower B.file) ++ bytes_of [])
      (record { journal = λ u. ap bytes_of e ∙ sym (append-nil (bytes_of (records_of owner.Borrower B.file))); numbers = (G.borrowers i).numbers ∙ ap (fold redo fresh) (sym e) }) same_grows)

  -- WHILE IT IS UP
  module _ (awake : B.up ≡ true) where
    is : bytes_of (records_of owner.Borrower B.file) ≡ B.file
    is = (G.borrowers i).journal awake

    -- what the journal makes after some records, whole or torn
    says : (file : List ℕ) (rs : List Rec) → records_of owner.Borrower file ≡ records_of owner.Borrower B.file ++ rs → numbers_in file ≡ fold redo B.durable rs
    says file rs e =
        ap (fold redo fresh) e ∙ fold-append redo fresh (records_of owner.Borrower B.file) rs ∙ ap (λ (d : Durable). fold redo d rs) (sym (G.borrowers i).numbers)

    -- what comes of a step keeps the invariant, whole or torn
    pub record Steps (x : Volatile × Effect) : Type 0 where
      pub good : Good S (on r (with_sent x.1.sends (with_borrower i (stepped redo x B) w))) (ms ++ x.1.sends)
      pub torn : (n : ℕ) → Good S (on r (with_borrower i (borrower_down (torn_file B.file x.1.records n)) w)) (ms ++ [])

    steps_by : (x : Volatile × Effect) → AllSound owner.Borrower x.1.records → Few x.1.records → ((q : ℕ) → Grows (B.durable q) (fold redo B.durable x.1.records q)) → Each WellFormed x.1.sends →
        Inv S (view (with_borrower i (stepped redo x B) w) r.past (ms ++ x.1.sends) r.applied) → Steps x
    steps_by x s f g formed inv =
        record {
          good = record {
            inv = inv;
            wire = more_wire w.sent ms x.1.sends G.wire;
            formed = more_formed ms x.1.sends G.formed formed;
            keeper = G.keeper;
            borrowers = others _ (record { journal = λ u. grown_whole owner.Borrower B.file is x.1.records s; numbers = sym (says (B.file ++ bytes_of x.1.records) x.1.records (grown_records owner.Borrower B.file is x.1.records s)) });
          };
          torn = λ n. down_good (torn_file B.file x.1.records n)
              (λ q. subst (λ (d : Durable). Grows (B.durable q) (d q)) (sym (says (torn_file B.file x.1.records n) (whole_in n x.1.records) (torn_records owner.Borrower B.file is x.1.records s n)))
              (whole_few x.1.records f n (λ (rs : List Rec). Grows (B.durable q) (fold redo B.durable rs q)) (same_grows q) (g q)));
        }

    -- nothing changes, whatever is told or answered
    pub idle : (ns : List Note) (qs : List ℕ) (a : Result (Unit {0}) Refusal) → Steps (B.volatile, record { records = []; sends = []; tells = ns; shows = qs; answer = a })
    idle ns qs a =
        steps_by (B.volatile, record { records = []; sends = []; tells = ns; shows = qs; answer = a }) tt tt same_grows tt
        (one_moves S w r.past ms r.applied G.inv i _ [] (λ q. moved_refl _ _) (λ q. G.inv.near i q) tt nobody (λ q. held_more ms [] i q (B.volatile.parts q) (B.volatile.copies q) (G.inv.held i q)))

    -- one part changes
    module _ (q : ℕ) (few : i < 32) (here : q < 16384) (p' : Part) (cs : ℕ → List ℕ) (e : Effect) where
      abbrev pub rs : List Rec
      rs = due q (B.volatile.parts q) (B.durable q) p'

      pub one_part : Leaves S w r.past ms r.applied G.inv i q (B.file ++ bytes_of rs) few here p' cs e.sends →
          Steps (record { parts = at_1 q p' B.volatile.parts; copies = cs }, record e { records = rs })
      one_part l =
          let near = (after (B.volatile.parts q) p' (B.durable q) (G.inv.near i q) l.small).0 in
          let s = due_sound q (B.volatile.parts q) p' (B.durable q) here near in
          steps_by (record { parts = at_1 q p' B.volatile.parts; copies = cs }, record e { records = rs }) s.0 s.1
          (λ x. subst (λ (d : OnFile). Grows (B.durable x) d) (sym (filed_is q (B.volatile.parts q) p' B.durable x)) (at_both q (on_file (B.volatile.parts q) (B.durable q) p') B.durable (λ x d. Grows (B.durable x) d)
          (let u = filed_up (B.volatile.parts q) p' (B.durable q) l.small in record { ask = u.0; write = u.1; ask_rounded = near.ask_rounded; write_rounded = near.write_rounded })
          (λ x ne. same_grows x) x))
          l.formed l.fits
