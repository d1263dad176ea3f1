-- A loop that marks, for each element, the place that the element marks if any.
-- Assumes nothing.
use Rattle.std.proofs.Common.{◌≡◌, ℕ, ◌+◌, ◌<◌, ◌≤◌, Bool, true, false, ◌||◌, eqb, ◌≢◌, List, length, replicate, get_or, drop, set, refl, sym, ap, ◌∙◌, inl, inr, arith}
use Rattle.std.proofs.lemmas.List.{at_drop_more, at_drop_all, length-set, get_or-replicate, get_or-set_same, get_or-set_other}
use Rattle.std.proofs.lemmas.List.FromFn.{fill_by_all}
use Rattle.std.proofs.lemmas.Bool.{and_from, and_left, and_right, cases_eq, eq-eqb, ne_eqb}
use Rattle.std.proofs.Math.Bool.{or-false, or-true}
use Rattle.std.specs.List.{list_any}
use Rattle.lease.specs.declared.lease.Lease.{Lease}
use Rattle.lease.specs.Leases.{of_borrower, no_lease}
use Rattle.lease.specs.Tables.{marks_of}

-- f w x: the element x marks the place w. The first i of xs have been looked at, and ms has the marks of n places
pub record Marked {X : Type 0} (n : ℕ) (f : ℕ → X → Bool) (xs : List X) (ms : List Bool) (i : ℕ) : Type 0 where
  pub long : length ms ≡ n
  pub found : (w : ℕ) → w < n → (get_or ms w false || list_any (f w) (drop i xs)) ≡ list_any (f w) xs

step : {X : Type 0} (p : X → Bool) (xs : List X) (i : ℕ) (d : X) → i < length xs → list_any p (drop i xs) ≡ (p (get_or xs i d) || list_any p (drop (i + 1) xs))
step p xs i d h = at_drop_more (list_any p) xs i d h

module _ {X : Type 0} {n : ℕ} {f : ℕ → X → Bool} {xs : List X} {ms : List Bool} {i : ℕ} where
  pub marked_more_no : (d : X) → i < length xs → ((w : ℕ) → w < n → f w (get_or xs i d) ≡ false) → Marked n f xs ms i → Marked n f xs ms (i + 1)
  marked_more_no d h no' m =
      record { long = m.long; found = λ w l. ap (λ b. get_or ms w false || b) (sym (step (f w) xs i d h ∙ rw (no' w l))) ∙ m.found w l }

  pub marked_more_yes : (d : X) (k : ℕ) → i < length xs → k < n → f k (get_or xs i d) ≡ true → ((w : ℕ) → w ≢ k → f w (get_or xs i d) ≡ false)
      → Marked n f xs ms i → Marked n f xs (set ms k true) (i + 1)
  marked_more_yes d k h kn yes' no' m =
      record {
        long = length-set ms k true ∙ m.long;
        found = λ w l. elim (cases_eq w k) [
          | inl e ↦ ap (λ b. b || list_any (f w) (drop (i + 1) xs)) (ap (λ j. get_or (set ms k true) j false) e ∙ get_or-set_same ms k true false (rw m.long kn))
              ∙ sym (sym (m.found w l) ∙ ap (λ b. get_or ms w false || b) (step (f w) xs i d h ∙ rw (ap (λ j. f j (get_or xs i d)) e ∙ yes')) ∙ or-true (get_or ms w false))
          | inr ne ↦ ap (λ b. b || list_any (f w) (drop (i + 1) xs)) (get_or-set_other ms k w true false ne)
              ∙ ap (λ b. get_or ms w false || b) (sym (step (f w) xs i d h ∙ rw (no' w ne))) ∙ m.found w l
        ];
      }

  pub marked_all : length xs ≤ i → Marked n f xs ms i → (w : ℕ) → w < n → get_or ms w false ≡ list_any (f w) xs
  marked_all h m w l = sym (or-false (get_or ms w false)) ∙ ap (λ b. get_or ms w false || b) (sym (at_drop_all (list_any (f w)) xs i h)) ∙ m.found w l

pub marked_none : {X : Type 0} (n : ℕ) (f : ℕ → X → Bool) (xs : List X) (ms : List Bool) → length ms ≡ n
    → ((w : ℕ) → w < n → get_or ms w false ≡ false) → Marked n f xs ms 0
marked_none n f xs ms h none = record { long = h; found = λ w l. rw (none w l) }

past : (a b n : ℕ) → n ≤ a → b < n → eqb a b ≡ false
past a b n h l = ne_eqb a b (λ e. omega arith)

-- THE LEASES: of the first i it is known whether one passes p, and which borrowers those are of that do
pub record Seen (p : Lease → Bool) (ls : List Lease) (found : Bool) (ms : List Bool) (i : ℕ) : Type 0 where
  pub some : (found || list_any p (drop i ls)) ≡ list_any p ls
  pub marked : Marked 32 (of_borrower p) ls ms i

pub seen_none : (p : Lease → Bool) (ls : List Lease) → Seen p ls false (replicate 32 false) 0
seen_none p ls = record { some = refl; marked = marked_none 32 (of_borrower p) ls (replicate 32 false) refl (λ w l. get_or-replicate 32 w false false l) }

module _ {p : Lease → Bool} {ls : List Lease} {found : Bool} {ms : List Bool} {i : ℕ} where
  -- the next one does not pass
  pub seen_no : i < length ls → p (get_or ls i no_lease) ≡ false → Seen p ls found ms i → Seen p ls found ms (i + 1)
  seen_no h no' s =
      record {
        some = ap (λ b. found || b) (sym (step p ls i no_lease h ∙ rw no')) ∙ s.some;
        marked = marked_more_no no_lease h (λ w l. and_left _ _ no') s.marked;
      }

  -- it passes
  met : i < length ls → p (get_or ls i no_lease) ≡ true → Seen p ls found ms i → true ≡ list_any p ls
  met h yes' s = sym (sym s.some ∙ ap (λ b. found || b) (step p ls i no_lease h ∙ rw yes') ∙ or-true found)

  pub seen_yes : i < length ls → p (get_or ls i no_lease) ≡ true → (get_or ls i no_lease).who < 32 → Seen p ls found ms i
      → Seen p ls true (set ms (get_or ls i no_lease).who true) (i + 1)
  seen_yes h yes' l s =
      record {
        some = met h yes' s;
        marked = marked_more_yes no_lease _ h l (and_from _ _ yes' (eq-eqb _ _ refl)) (λ w ne. and_right _ _ (ne_eqb _ _ (λ e. ne (sym e)))) s.marked;
      }

  -- and is of none of the 32
  pub seen_beyond : i < length ls → p (get_or ls i no_lease) ≡ true → 32 ≤ (get_or ls i no_lease).who → Seen p ls found ms i → Seen p ls true ms (i + 1)
  seen_beyond h yes' g s =
      record { some = met h yes' s; marked = marked_more_no no_lease h (λ w l. and_right _ _ (past _ w 32 g l)) s.marked }

  -- all are known
  pub seen_some : length ls ≤ i → Seen p ls found ms i → found ≡ list_any p ls
  seen_some h s = sym (or-false found) ∙ ap (λ b. found || b) (sym (at_drop_all (list_any p) ls i h)) ∙ s.some

  pub seen_marks : length ls ≤ i → Seen p ls found ms i → ms ≡ marks_of p ls
  unfolding marks_of
  seen_marks h s = fill_by_all (λ w. list_any (of_borrower p w) ls) ms 32 false s.marked.long (λ w l. marked_all h s.marked w l)
