-- The table of borrowers: which one stands at an index, and what the table is after a step of it.
-- Assumes nothing.
use Rattle.std.proofs.Common.{◌≡◌, ℕ, zero, suc, ◌<◌, Bool, true, false, eqb, List, [], ◌∷◌, get_or, set, map, length, Some, None, Option, refl, sym, ap, ◌∙◌, arith}
use mathlib.Core.Path.{fun_ext}
use Rattle.std.proofs.lemmas.Bool.{eqb-true, eqb-false, eq-eqb}
use Rattle.std.proofs.lemmas.List.{map-set, length-map, get_or-map, get_or-set_same, get_or-set_other}
use Rattle.part.specs.Parts.{at_1}
use Rattle.borrower.specs.declared.outcome.Call.{Call}
use Rattle.borrower.specs.declared.outcome.Outcome.{Outcome}
use Rattle.world.specs.World.{Borrower, borrower_down, calls_effect, calls_leave, hear_effect, hear_leaves, torn_file}
use Rattle.site.specs.declared.borrower_node.BorrowerNode.{BorrowerNode}
use Rattle.site.specs.declared.borrowers.Borrowers.{Borrowers}
use Rattle.site.specs.OneBorrower.{borrower_of}
use Rattle.site.specs.OneBorrower as one
use Rattle.site.specs.Seats.{seats, times}
use Rattle.site.specs.FourBorrowers.{borrowers_in, borrowers_of, Left, Same, Called, CalledTorn, Heard, HeardTorn}

-- the node at an index, whatever n is
module _ (ns : List BorrowerNode) (k : ℕ) (n : BorrowerNode) (h : k < length ns) where
  pub seat : seats ns ≡ 0 ∷ 1 ∷ 2 ∷ 3 ∷ [] → k < 4 → (get_or ns k n).who.id ≡ k
  seat e s = sym (get_or-map (λ (x : BorrowerNode). x.who.id) ns k n 0 h) ∙ ap (λ (xs : List ℕ). get_or xs k 0) e ∙ nth k s
    where
      nth : (j : ℕ) → j < 4 → get_or (0 ∷ 1 ∷ 2 ∷ 3 ∷ []) j 0 ≡ j
      nth zero l = refl
      nth (suc zero) l = refl
      nth (suc (suc zero)) l = refl
      nth (suc (suc (suc zero))) l = refl
      nth (suc (suc (suc (suc j)))) l = absurd (omega (arith, l))

  pub time : (s : ℕ) → times ns ≡ s ∷ s ∷ s ∷ s ∷ [] → k < 4 → (get_or ns k n).short ≡ s
  time s e l = sym (get_or-map (λ (x : BorrowerNode). x.short) ns k n 0 h) ∙ ap (λ (xs : List ℕ). get_or xs k 0) e ∙ nth k l
    where
      nth : (j : ℕ) → j < 4 → get_or (s ∷ s ∷ s ∷ s ∷ []) j 0 ≡ s
      nth zero l = refl
      nth (suc zero) l = refl
      nth (suc (suc zero)) l = refl
      nth (suc (suc (suc zero))) l = refl
      nth (suc (suc (suc (suc j)))) l = absurd (omega (arith, l))

  pub there : (i : ℕ) → k ≡ i → borrower_of (get_or ns k n) ≡ borrowers_in ns i
  there i e = sym (ap (borrowers_in ns) (sym e) ∙ get_or-map borrower_of ns k n (borrower_down []) h)

pub put : (ns : List BorrowerNode) (k i : ℕ) (n : BorrowerNode) (b : Borrower) → k ≡ i → k < length ns → borrower_of n ≡ b → borrowers_in (set ns k n) ≡ at_1 i b (borrowers_in ns)
put ns k i n b s h e = rw s (fun_ext (λ j. at j (eqb j i) refl))
  where
    down : Borrower
    down = borrower_down []

    bs : List Borrower
    bs = map borrower_of ns

    within : i < length bs
    within = rw (length-map ns borrower_of) (omega (arith, s, h))

    at : (j : ℕ) (t : Bool) → eqb j i ≡ t → borrowers_in (set ns i n) j ≡ at_1 i b (borrowers_in ns) j
    at j true w = rw (eqb-true j i w) (rw (eq-eqb i i refl) (ap (λ (xs : List Borrower). get_or xs i down) (map-set borrower_of ns i n) ∙ get_or-set_same bs i (borrower_of n) down within ∙ e))
    at j false w = rw w (ap (λ (xs : List Borrower). get_or xs j down) (map-set borrower_of ns i n) ∙ get_or-set_other bs i j (borrower_of n) down (eqb-false j i w))

-- a table with the same borrower put back
put_back : (i : ℕ) (f : ℕ → Borrower) → at_1 i (f i) f ≡ f
put_back i f = fun_ext (λ j. at j (eqb j i) refl)
  where
    at : (j : ℕ) (t : Bool) → eqb j i ≡ t → at_1 i (f i) f j ≡ f j
    at j true w = rw w (ap f (sym (eqb-true j i w)))
    at j false w = rw w refl

three : {A B C D : Type 0} (f : A → B → C → D) {a a' : A} {b b' : B} {c c' : C} → a ≡ a' → b ≡ b' → c ≡ c' → f a b c ≡ f a' b' c'
three f p q r = rw p (rw q (rw r refl))

-- from a step of one node to a step of the table: the node n' is put where borrower i stood
module _ (was : Borrowers) (k i : ℕ) (n n' : BorrowerNode) (here : k ≡ i) (few : k < 4) (all : length was.nodes ≡ 4) where
  abbrev old : BorrowerNode
  old = get_or was.nodes k n

  abbrev is : ℕ → Borrower
  is = borrowers_in (set was.nodes k n')

  within : k < length was.nodes
  within = omega (arith, few, all)

  who : old.who.id ≡ i
  who = seat was.nodes k n within was.whose few ∙ here

  times_same : old.short ≡ was.short
  times_same = time was.nodes k n within was.short was.same few

  mine : borrower_of old ≡ borrowers_of was i
  mine = there was.nodes k n within i here

  pub left : (b : Borrower) → borrower_of n' ≡ b → Left (borrowers_of was) is i b
  left b e = put was.nodes k i n' b here within e

  same : ((borrower_of old).up ≡ false) × (borrower_of n' ≡ borrower_of old) → Same (borrowers_of was) is i
  same (d, e) = (
    ap (λ (b : Borrower). b.up) (sym mine) ∙ d,
    put was.nodes k i n' (borrowers_of was i) here within (e ∙ mine) ∙ put_back i (borrowers_of was),
  )

  module _ (u : (borrower_of old).up ≡ true) where
    up : (borrowers_of was i).up ≡ true
    up = ap (λ (b : Borrower). b.up) (sym mine) ∙ u

  pub called : (c q : ℕ) (x : Call) (o : Option Outcome) → one.Called old n' c q x o → Called was.short (borrowers_of was) is i c q x o
  called c q x None h = same h
  called c q x (Some o) (u, e, l) = (
    up u,
    (λ v. e v ∙ three (λ w s b. calls_effect w q c s x v b) who times_same mine),
    (λ v. left _ (l v ∙ three (λ w s b. calls_leave w q c s x v b) who times_same mine)),
  )

  pub called_torn : (c q : ℕ) (x : Call) (m : ℕ) (b : Bool) → one.CalledTorn old n' c q x m b → CalledTorn was.short (borrowers_of was) is i c q x m b
  called_torn c q x m false h = same h
  called_torn c q x m true (u, l) =
      (up u, (λ v. left _ (l v ∙ three (λ w s (b : Borrower). borrower_down (torn_file b.file (calls_effect w q c s x v b).records m)) who times_same mine)))

  pub heard : (bs : List ℕ) (o : Option Outcome) → one.Heard old n' bs o → Heard (borrowers_of was) is i bs o
  heard bs None h = same h
  heard bs (Some o) (u, e, l) =
      (up u, e ∙ three (λ w (s : ℕ) b. hear_effect w bs b) who times_same mine, left _ (l ∙ three (λ w (s : ℕ) b. hear_leaves w bs b) who times_same mine))

  pub heard_torn : (bs : List ℕ) (m : ℕ) (b : Bool) → one.HeardTorn old n' bs m b → HeardTorn (borrowers_of was) is i bs m b
  heard_torn bs m false h = same h
  heard_torn bs m true (u, l) =
      (up u, left _ (l ∙ three (λ w (s : ℕ) (b : Borrower). borrower_down (torn_file b.file (hear_effect w bs b).records m)) who times_same mine))
