-- A world as the invariant looks at it, and what one borrower's step does to it.
use Rattle.std.proofs.Common.{◌≡◌, ℕ, Bool, true, false, cond, eqb, List, [], ◌∷◌, ◌++◌, fold, sym, refl, ap, subst}
use mathlib.Core.List.{Memᴰ}
use Rattle.std.proofs.lemmas.Bool.{cond_both, eqb-true, eqb-false}
use Rattle.part.specs.Parts.{at_1}
use Rattle.clock.specs.Moments.{Moment}
use Rattle.message.specs.Format.{Msg}
use Rattle.borrowing.specs.declared.hold.Part.{Part}
use Rattle.borrowing.specs.declared.on_file.OnFile.{OnFile}
use Rattle.journal.specs.Records.{Numbers}
use Rattle.borrowing.specs.Parts.{raised}
use Rattle.borrowing.specs.Rules.{is_due, due, redo}
use Rattle.stepped_world.proofs.Used.{Near, on_file}
use Rattle.stepped_world.specs.World.{World, Lender, Borrower, with_borrower}
use Rattle.stepped_world.specs.Runs.{Put}
use Rattle.stepped_world.proofs.Inv.{Setting, Office, State, who, place, NoLoan, Fine, Held, Inv, Moved, moved_refl, Newer, Each, each_at}
use Rattle.stepped_world.proofs.Borrow.{moves, held_more, WriteOf, at_both}

abbrev pub office : Lender → Office
office k =
    record { value = k.durable.parts; done = k.durable.done; void = k.durable.void; leases = k.volatile.leases; quiet = k.volatile.quiet; up = k.up }

abbrev pub view : World → List Moment → List Msg → List Put → State
view w past ms H =
    record { now = w.now; past = past; keeper = office w.keeper; part = λ i q. (w.borrower i).volatile.parts q; disk = λ i q. (w.borrower i).durable q; copy = λ i q. (w.borrower i).volatile.copies q; sent = ms; applied = H }

-- the numbers on file after a step, part by part
pub filed_is : (q : ℕ) (p p' : Part) (fs : ℕ → OnFile) (r : ℕ) → fold redo fs (due q p (fs q) p') r ≡ at_1 q (on_file p (fs q) p') fs r
filed_is q p p' fs r = go (is_due p (fs q) p')
  where
    go : (b : Bool) → fold redo fs (cond b (Numbers q (raised (fs q) p').ask (raised (fs q) p').write ∷ []) []) r ≡ at_1 q (cond b (raised (fs q) p') (fs q)) fs r
    go true = refl
    go false = cond_both (eqb r q) (fs q) (fs r) (λ x. fs r ≡ x) (λ e. ap fs (eqb-true r q e)) (λ e. refl)

-- of the part that changed and of all others
spot : (q : ℕ) (p' : Part) (g : OnFile) (f : ℕ → Part) (h : ℕ → OnFile) (Q : ℕ → Part → OnFile → Type 0) → Q q p' g → ((r : ℕ) → (r ≡ q → ⊥) → Q r (f r) (h r)) → (r : ℕ) → Q r (at_1 q p' f r) (at_1 q g h r)
spot q p' g f h Q here there r = go (eqb r q) refl
  where
    go : (a : Bool) → eqb r q ≡ a → Q r (cond a p' (f r)) (cond a g (h r))
    go true e = subst (λ (x : ℕ). Q x p' g) (sym (eqb-true r q e)) here
    go false e = there r (eqb-false r q e)

module _ (S : Setting) (w : World) (past : List Moment) (ms : List Msg) (H : List Put) (inv : Inv S (view w past ms H)) (i : ℕ) where
  -- what is known of a new message of the borrower
  abbrev pub Said : (b : Borrower) → Msg → Type 0
  Said b m = (who m ≡ i) × NoLoan m × Fine S w.now past (office w.keeper) H (b.volatile.parts (place m)) (b.durable (place m)) m × Newer ((w.borrower i).volatile.parts (place m)) m

  -- a borrower changes
  pub one_moves : (b : Borrower) (new : List Msg) →
      ((r : ℕ) → Moved ((w.borrower i).volatile.parts r) ((w.borrower i).durable r) (b.volatile.parts r) (b.durable r)) →
      ((r : ℕ) → Near (b.durable r) (b.volatile.parts r)) →
      Each (Said b) new →
      ((x y : Msg) → Memᴰ x new → Memᴰ y new → WriteOf x → x ≡ y) →
      ((r : ℕ) → Held (ms ++ new) i r (b.volatile.parts r) (b.volatile.copies r)) →
      Inv S (view (with_borrower i b w) past (ms ++ new) H)
  one_moves b new mv near news single held =
      moves S (view w past ms H) inv (λ j r. (at_1 i b w.borrower j).volatile.parts r) (λ j r. (at_1 i b w.borrower j).durable r) (λ j r. (at_1 i b w.borrower j).volatile.copies r) new
      (λ j r. at_both i b w.borrower (λ j x. Moved ((w.borrower j).volatile.parts r) ((w.borrower j).durable r) (x.volatile.parts r) (x.durable r)) (mv r) (λ j ne. moved_refl _ _) j)
      (λ j r. at_both i b w.borrower (λ j x. Near (x.durable r) (x.volatile.parts r)) (near r) (λ j ne. inv.near j r) j)
      (λ m h. let e = each_at (Said b) new news m h in
      (e.1, at_both i b w.borrower (λ j x. j ≡ i → Fine S w.now past (office w.keeper) H (x.volatile.parts (place m)) (x.durable (place m)) m) (λ z. e.2) (λ j ne z. absurd (ne z)) (who m) e.0))
      (λ m h. let e = each_at (Said b) new news m h in subst (λ (y : ℕ). Newer ((w.borrower y).volatile.parts (place m)) m) (sym e.0) e.3)
      single
      (λ j r. at_both i b w.borrower (λ j x. Held (ms ++ new) j r (x.volatile.parts r) (x.volatile.copies r)) (held r) (λ j ne. held_more ms new j r ((w.borrower j).volatile.parts r) ((w.borrower j).volatile.copies r) (inv.held j r)) j)

  module _ (q : ℕ) (p' : Part) (cs : ℕ → List ℕ) where
    abbrev pub g : OnFile
    g = on_file ((w.borrower i).volatile.parts q) ((w.borrower i).durable q) p'

    -- what a step leaves of the borrower that left this of the part at q
    abbrev pub stepped : List ℕ → Borrower
    stepped f =
        record {
          durable = fold redo (w.borrower i).durable (due q ((w.borrower i).volatile.parts q) ((w.borrower i).durable q) p');
          volatile = record { parts = at_1 q p' (w.borrower i).volatile.parts; copies = cs };
          up = (w.borrower i).up;
          file = f;
        }

    spots : (f : List ℕ) (Q : ℕ → Part → OnFile → Type 0) → Q q p' g → ((r : ℕ) → (r ≡ q → ⊥) → Q r ((w.borrower i).volatile.parts r) ((w.borrower i).durable r)) → (r : ℕ) → Q r ((stepped f).volatile.parts r) ((stepped f).durable r)
    spots f Q here there r =
        subst (λ (x : OnFile). Q r ((stepped f).volatile.parts r) x) (sym (filed_is q ((w.borrower i).volatile.parts q) p' (w.borrower i).durable r)) (spot q p' g (w.borrower i).volatile.parts (w.borrower i).durable Q here there r)

    -- what is known of a new message about the part
    abbrev pub About : Msg → Type 0
    About m = (who m ≡ i) × (place m ≡ q) × NoLoan m × Fine S w.now past (office w.keeper) H p' g m × Newer ((w.borrower i).volatile.parts q) m

    pub part_moves : (f : List ℕ) (new : List Msg) →
        Moved ((w.borrower i).volatile.parts q) ((w.borrower i).durable q) p' g → Near g p' →
        Each About new → ((x y : Msg) → Memᴰ x new → Memᴰ y new → WriteOf x → x ≡ y) →
        ((r : ℕ) → (r ≡ q → ⊥) → cs r ≡ (w.borrower i).volatile.copies r) → Held (ms ++ new) i q p' (cs q) →
        Inv S (view (with_borrower i (stepped f) w) past (ms ++ new) H)
    part_moves f new mv near news single others held =
        one_moves (stepped f) new
        (spots f (λ r x y. Moved ((w.borrower i).volatile.parts r) ((w.borrower i).durable r) x y) mv (λ r ne. moved_refl _ _))
        (spots f (λ r x y. Near y x) near (λ r ne. inv.near i r))
        (all new news)
        single
        (spots f (λ r x y. Held (ms ++ new) i r x (cs r)) held (λ r ne. subst (λ (v : List ℕ). Held (ms ++ new) i r ((w.borrower i).volatile.parts r) v) (sym (others r ne)) (held_more ms new i r ((w.borrower i).volatile.parts r) ((w.borrower i).volatile.copies r) (inv.held i r))))
      where
        one : (m : Msg) → About m → Said (stepped f) m
        one m a = (
          a.0,
          a.2,
          spots f (λ r x y. r ≡ q → Fine S w.now past (office w.keeper) H x y m) (λ e. a.3) (λ r ne e. absurd (ne e)) (place m) a.1,
          subst (λ (r : ℕ). Newer ((w.borrower i).volatile.parts r) m) (sym a.1) a.4,
        )

        all : (ns : List Msg) → Each About ns → Each (Said (stepped f)) ns
        all [] h = tt
        all (m ∷ ns) h = (one m h.0, all ns h.1)
