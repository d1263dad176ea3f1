-- A world as the invariant looks at it, and what one borrower's step does to it.
-- Assumes nothing.
use Rattle.std.proofs.Common.{◌≡◌, ℕ, Bool, true, false, cond, eqb, List, [], ◌∷◌, ◌++◌, sym, refl, ap, subst}
use mathlib.Core.List.{Memᴰ}
use Rattle.std.proofs.lemmas.Bool.{cond_both, eqb-true, eqb-false}
use Rattle.part.specs.Parts.{at_1}
use Rattle.clock.specs.Moments.{Moment}
use Rattle.message.specs.Format.{Msg}
use Rattle.borrower.specs.declared.hold.Part.{Part}
use Rattle.borrower.specs.declared.hold.OnFile.{OnFile}
use Rattle.borrower.specs.Steps.{kept_of}
use Rattle.borrower.specs.Outcomes.{due, filed_after}
use Rattle.borrower.specs.Used.{Near, on_file}
use Rattle.world.specs.World.{World, Lender, Borrower, with_borrower}
use Rattle.world.specs.Runs.{Put}
use Rattle.world.proofs.Inv.{Setting, Office, State, who, place, NoLoan, Fine, Held, Inv, Moved, moved_refl, Newer, Each, each_at}
use Rattle.world.proofs.Borrow.{moves, held_more, WriteOf, at_both}

abbrev pub office : Lender → Office
office k = record { value = k.parts; done = k.book.done; void = k.book.void; leases = k.book.leases; quiet = k.book.quiet; up = k.up }

abbrev pub view : World → List Moment → List Msg → List Put → State
view w past ms H =
    record { now = w.now; past = past; keeper = office w.keeper; part = λ i q. (w.borrower i).parts q; disk = λ i q. (w.borrower i).filed q; copy = λ i q. (w.borrower i).copies q; sent = ms; applied = H }

-- the numbers on file after a step, part by part
pub filed_is : (q : ℕ) (p p' : Part) (fs : ℕ → OnFile) (r : ℕ) → filed_after q p p' fs r ≡ at_1 q (on_file p (fs q) p') fs r
filed_is q p p' fs r = go (due p (fs q) p')
  where
    go : (b : Bool) → cond b (at_1 q (kept_of (fs q) p') fs) fs r ≡ at_1 q (cond b (kept_of (fs q) p') (fs q)) fs r
    go true = refl
    go false = cond_both (eqb r q) (fs q) (fs r) (λ x. fs r ≡ x) (λ e. ap fs (eqb-true r q e)) (λ e. refl)

-- of the part that changed and of all others
spot : (q : ℕ) (p' : Part) (g : OnFile) (f : ℕ → Part) (h : ℕ → OnFile) (Q : ℕ → Part → OnFile → Type 0) → Q q p' g → ((r : ℕ) → (r ≡ q → ⊥) → Q r (f r) (h r)) → (r : ℕ) → Q r (at_1 q p' f r) (at_1 q g h r)
spot q p' g f h Q here there r = go (eqb r q) refl
  where
    go : (a : Bool) → eqb r q ≡ a → Q r (cond a p' (f r)) (cond a g (h r))
    go true e = subst (λ (x : ℕ). Q x p' g) (sym (eqb-true r q e)) here
    go false e = there r (eqb-false r q e)

module _ (S : Setting) (w : World) (past : List Moment) (ms : List Msg) (H : List Put) (inv : Inv S (view w past ms H)) (i : ℕ) where
  -- what is known of a new message of the borrower
  abbrev pub Said : (b : Borrower) → Msg → Type 0
  Said b m = (who m ≡ i) × NoLoan m × Fine S w.now past (office w.keeper) H (b.parts (place m)) (b.filed (place m)) m × Newer ((w.borrower i).parts (place m)) m

  -- a borrower changes
  pub one_moves : (b : Borrower) (new : List Msg) →
      ((r : ℕ) → Moved ((w.borrower i).parts r) ((w.borrower i).filed r) (b.parts r) (b.filed r)) →
      ((r : ℕ) → Near (b.filed r) (b.parts r)) →
      Each (Said b) new →
      ((x y : Msg) → Memᴰ x new → Memᴰ y new → WriteOf x → x ≡ y) →
      ((r : ℕ) → Held (ms ++ new) i r (b.parts r) (b.copies r)) →
      Inv S (view (with_borrower i b w) past (ms ++ new) H)
  one_moves b new mv near news single held =
      moves S (view w past ms H) inv (λ j r. (at_1 i b w.borrower j).parts r) (λ j r. (at_1 i b w.borrower j).filed r) (λ j r. (at_1 i b w.borrower j).copies r) new
      (λ j r. at_both i b w.borrower (λ j x. Moved ((w.borrower j).parts r) ((w.borrower j).filed r) (x.parts r) (x.filed r)) (mv r) (λ j ne. moved_refl _ _) j)
      (λ j r. at_both i b w.borrower (λ j x. Near (x.filed r) (x.parts r)) (near r) (λ j ne. inv.near j r) j)
      (λ m h. let e = each_at (Said b) new news m h in
      (e.1, at_both i b w.borrower (λ j x. j ≡ i → Fine S w.now past (office w.keeper) H (x.parts (place m)) (x.filed (place m)) m) (λ z. e.2) (λ j ne z. absurd (ne z)) (who m) e.0))
      (λ m h. let e = each_at (Said b) new news m h in subst (λ (y : ℕ). Newer ((w.borrower y).parts (place m)) m) (sym e.0) e.3)
      single
      (λ j r. at_both i b w.borrower (λ j x. Held (ms ++ new) j r (x.parts r) (x.copies r)) (held r) (λ j ne. held_more ms new j r ((w.borrower j).parts r) ((w.borrower j).copies r) (inv.held j r)) j)

  module _ (q : ℕ) (p' : Part) (cs : ℕ → List ℕ) where
    abbrev pub g : OnFile
    g = on_file ((w.borrower i).parts q) ((w.borrower i).filed q) p'

    -- what a step leaves of the borrower that left this of the part at q
    abbrev pub stepped : List ℕ → Borrower
    stepped f = record { parts = at_1 q p' (w.borrower i).parts; filed = filed_after q ((w.borrower i).parts q) p' (w.borrower i).filed; copies = cs; up = true; file = f }

    spots : (f : List ℕ) (Q : ℕ → Part → OnFile → Type 0) → Q q p' g → ((r : ℕ) → (r ≡ q → ⊥) → Q r ((w.borrower i).parts r) ((w.borrower i).filed r)) → (r : ℕ) → Q r ((stepped f).parts r) ((stepped f).filed r)
    spots f Q here there r =
        subst (λ (x : OnFile). Q r ((stepped f).parts r) x) (sym (filed_is q ((w.borrower i).parts q) p' (w.borrower i).filed r)) (spot q p' g (w.borrower i).parts (w.borrower i).filed Q here there r)

    -- what is known of a new message about the part
    abbrev pub About : Msg → Type 0
    About m = (who m ≡ i) × (place m ≡ q) × NoLoan m × Fine S w.now past (office w.keeper) H p' g m × Newer ((w.borrower i).parts q) m

    pub part_moves : (f : List ℕ) (new : List Msg) →
        Moved ((w.borrower i).parts q) ((w.borrower i).filed q) p' g → Near g p' →
        Each About new → ((x y : Msg) → Memᴰ x new → Memᴰ y new → WriteOf x → x ≡ y) →
        ((r : ℕ) → (r ≡ q → ⊥) → cs r ≡ (w.borrower i).copies r) → Held (ms ++ new) i q p' (cs q) →
        Inv S (view (with_borrower i (stepped f) w) past (ms ++ new) H)
    part_moves f new mv near news single others held =
        one_moves (stepped f) new
        (spots f (λ r x y. Moved ((w.borrower i).parts r) ((w.borrower i).filed r) x y) mv (λ r ne. moved_refl _ _))
        (spots f (λ r x y. Near y x) near (λ r ne. inv.near i r))
        (all new news)
        single
        (spots f (λ r x y. Held (ms ++ new) i r x (cs r)) held (λ r ne. subst (λ (v : List ℕ). Held (ms ++ new) i r ((w.borrower i).parts r) v) (sym (others r ne)) (held_more ms new i r ((w.borrower i).parts r) ((w.borrower i).copies r) (inv.held i r))))
      where
        one : (m : Msg) → About m → Said (stepped f) m
        one m a = (
          a.0,
          a.2,
          spots f (λ r x y. r ≡ q → Fine S w.now past (office w.keeper) H x y m) (λ e. a.3) (λ r ne e. absurd (ne e)) (place m) a.1,
          subst (λ (r : ℕ). Newer ((w.borrower i).parts r) m) (sym a.1) a.4,
        )

        all : (ns : List Msg) → Each About ns → Each (Said (stepped f)) ns
        all [] h = tt
        all (m ∷ ns) h = (one m h.0, all ns h.1)
