-- Time passes, and at first nothing has happened: both keep the whole invariant.
use Rattle.std.proofs.Common.{ℕ, false, List, [], ◌∷◌, fold, sym, refl, ap, subst, inl, arith}
use mathlib.Core.List.{Memᴰ}
use Rattle.part.specs.Parts.{blank}
use Rattle.clock.specs.Moments.{Moment, Passing, after}
use Rattle.message.specs.Format.{Msg, Ask, Loan, Write, In, Void, Recall, Back}
use Rattle.journal.specs.declared.record.Owner.TheVariants as owner
use Rattle.journal.specs.Records.{Rec, records_of}
use Rattle.keeping.specs.Rules as keeping
use Rattle.borrowing.specs.declared.hold.Part.{Part}
use Rattle.borrowing.specs.declared.on_file.OnFile.{OnFile}
use Rattle.borrowing.specs.Parts.{come_up}
use Rattle.borrowing.specs.Rules as borrowing
use Rattle.stepped_world.specs.World.{tick, step}
use Rattle.stepped_world.specs.Runs.{Put, puts, Run, start}
use Rattle.stepped_world.specs.Promise.{latest, Once}
use Rattle.stepped_world.proofs.Inv.{Setting, Office, State, Live, Fine, Inv}
use Rattle.stepped_world.proofs.Move.{none_held}
use Rattle.stepped_world.proofs.Files.{down_journal, empty_records}
use Rattle.stepped_world.proofs.Good.{Good}

module _ (S : Setting) (now : Moment) (past : List Moment) (x : Passing) where
  -- what would be valid later would be valid now
  sooner : {i : ℕ} {p : Part} {m : ℕ} → Live S (after now x) i p m → Live S now i p m
  sooner l = record { last = l.last; valid = omega (arith, l.valid) }

  fine_later : (L : Office) (H : List Put) (p : Part) (d : OnFile) (m : Msg) → Fine S now past L H p d m → Fine S (after now x) (now ∷ past) L H p d m
  fine_later L H p d (Ask i q m k n) (used, f, wr) = (used, λ e. let a = f e in record { wrote = a.wrote; time = a.time; before = Memᴰ.tail a.before; is = a.is }, wr)
  fine_later L H p d (Loan i q m k v) (used, f) = (used, λ l. let c = f (sooner l) in record { time = c.time; before = Memᴰ.tail c.before; is = c.is; backed = c.backed; wrote = c.wrote; value = c.value })
  fine_later L H p d (Write i q n v) h = h
  fine_later L H p d (In i q n) h = h
  fine_later L H p d (Void i q n) h = h
  fine_later L H p d (Recall i q) h = h
  fine_later L H p d (Back i q m) h = h

pub tick_good : (S : Setting) (r : Run) (ms : List Msg) → Good S r ms → (x : Passing) → Good S (record { world = step r.world (tick x); past = r.world.now ∷ r.past; applied = r.applied }) ms
tick_good S r ms G x =
    record {
      inv = record {
        mail = λ m h. fine_later S r.world.now r.past x _ _ _ _ m (G.inv.mail m h);
        held = G.inv.held;
        apart = λ i j q m n k l u v ne s t a b. G.inv.apart i j q m n k l u v ne s t (sooner S r.world.now r.past x a) (sooner S r.world.now r.past x b);
        excl = λ a b s t e ne f g. G.inv.excl a b s t e ne (omega (arith, f)) (omega (arith, g));
        newest = G.inv.newest;
        done_in = G.inv.done_in;
        puts = G.inv.puts;
        once = G.inv.once;
        known = G.inv.known;
        near = G.inv.near;
        one_bytes = G.inv.one_bytes;
      };
      wire = G.wire;
      formed = G.formed;
      keeper = G.keeper;
      borrowers = G.borrowers;
    }

-- AT FIRST, all are down, with what these records of the keeper and of each borrower make
abbrev first : Moment → (ks bs : List Rec) → State
first m ks bs =
    record {
      now = m;
      past = [];
      keeper = record { value = (fold keeping.redo keeping.fresh ks).parts; done = (fold keeping.redo keeping.fresh ks).done; void = (fold keeping.redo keeping.fresh ks).void; leases = []; quiet = 0; up = false };
      part = λ i q. come_up (fold borrowing.redo borrowing.fresh bs q);
      disk = λ i q. fold borrowing.redo borrowing.fresh bs q;
      copy = λ i q. blank q;
      sent = [];
      applied = [];
    }

first_inv : (S : Setting) (m : Moment) → Inv S (first m [] [])
unfolding latest Once
first_inv S m =
    record {
      mail = λ m h. elim h [ ];
      held = λ i q. none_held [] i q (come_up borrowing.no_numbers) (blank q) refl;
      apart = λ i j q m n k l u v ne s. elim s [ ];
      excl = λ a b s. elim s [ ];
      newest = λ q. refl;
      done_in = λ q i. inl refl;
      puts = λ p h. elim h [ ];
      once = tt;
      known = λ i q. (record { written = omega arith; filed = omega arith }, record { written = omega arith; filed = omega arith });
      near = λ i q. record { ask_rounded = refl; write_rounded = refl; ask = omega arith; ask_last = omega arith; write = omega arith };
      one_bytes = λ i q n u v s. elim s [ ];
    }

pub start_good : (short long : ℕ) (m : Moment) → Good (record { short = short; long = long }) (start short long m) []
start_good s l m =
    let k = empty_records owner.Keeper in
    let b = empty_records owner.Borrower in
    record {
      inv = subst (λ (ks : List Rec). Inv (record { short = s; long = l }) (first m ks (records_of owner.Borrower []))) (sym k)
          (subst (λ (bs : List Rec). Inv (record { short = s; long = l }) (first m [] bs)) (sym b) (first_inv (record { short = s; long = l }) m));
      wire = λ b h. elim h [ ];
      formed = λ m h. elim h [ ];
      keeper = record { journal = down_journal owner.Keeper []; kept = refl; on_disk = ap (λ (rs : List Rec). puts rs []) (sym k) };
      borrowers = λ i. record { journal = down_journal owner.Borrower []; numbers = refl };
    }
