-- Journals: what records they have after some were appended, whole or torn.
-- Assumes nothing.
use Rattle.std.proofs.Common.{◌≡◌, ℕ, ◌<◌, Bool, true, false, cond, eqb, leb, List, [], ◌∷◌, ◌++◌, length, take, drop, Some, sym, refl, ap, ◌∙◌, subst, append-nil, arith}
use Rattle.std.proofs.lemmas.List.{take_all, drop_at, length-replicate}
use Rattle.std.proofs.lemmas.Bool.{cond_both, leb-true, leb-false, lt-ltb}
use Rattle.part.specs.Parts.{blank}
use Rattle.journal.specs.declared.record.Owner.{Owner}
use Rattle.journal.specs.declared.record.Owner.TheVariants as owner
use Rattle.journal.specs.Records.{Rec, Applied, VoidUpTo, Numbers, layout, Sound, AllSound, bytes_of, Torn, records_of, rest_of}
use Rattle.journal.proofs.Journals.{front_is_records, torn_end, torn_leaves}
use Rattle.journal.proofs.Grown.{read_all}
use Rattle.journal.proofs.Grown as grown
use Rattle.lender.specs.Replay.{Memory, replay, nothing}
use Rattle.world.specs.World.{recovered, torn_file}
use Rattle.world.specs.Runs.{Put, puts, whole}

-- FOLDS over records that are appended

pub puts_append : (rs ss : List Rec) (h : List Put) → puts (rs ++ ss) h ≡ puts ss (puts rs h)
puts_append [] ss h = refl
puts_append (Applied i q n v ∷ rs) ss h = puts_append rs ss _
puts_append (VoidUpTo i q n ∷ rs) ss h = puts_append rs ss h
puts_append (Numbers q a w ∷ rs) ss h = puts_append rs ss h

-- A JOURNAL

-- what follows its whole records is torn, and nothing follows while its owner is up
pub record Journal (o : Owner) (up : Bool) (file : List ℕ) : Type 0 where
  pub torn : Torn o (rest_of o file)
  pub whole : up ≡ true → bytes_of (records_of o file) ≡ file

-- none or one
abbrev pub Few : List Rec → Type 0
Few [] = Unit {0}
Few (r ∷ []) = Unit {0}
Few (r ∷ s ∷ rs) = ⊥

rest_is : (o : Owner) (rs : List Rec) (t : List ℕ) → records_of o (bytes_of rs ++ t) ≡ rs → rest_of o (bytes_of rs ++ t) ≡ t
rest_is o rs t e = ap (λ (x : List Rec). drop (length (bytes_of x)) (bytes_of rs ++ t)) e ∙ drop_at (bytes_of rs) t (length (bytes_of rs)) refl

-- a journal of whole records and nothing else
pub cut_journal : (o : Owner) (up : Bool) (file : List ℕ) → (records_of o (bytes_of (records_of o file)) ≡ records_of o file) × Journal o up (bytes_of (records_of o file))
cut_journal o up file =
    let rs = records_of o file in
    let e = read_all o rs (front_is_records o file).0 in
    let e' : records_of o (bytes_of rs ++ []) ≡ rs = torn_end o rs (front_is_records o file).0 [] tt in
    (e, record { torn = subst (λ (x : List ℕ). Torn o (rest_of o x)) (append-nil (bytes_of rs)) (subst (Torn o) (sym (rest_is o rs [] e')) tt); whole = λ u. ap bytes_of e })

-- a journal that has nothing
pub empty_journal : (o : Owner) → (records_of o [] ≡ []) × Journal o false []
empty_journal o =
    let e = read_all o [] tt in
    (e, record { torn = subst (Torn o) (sym (rest_is o [] [] e)) tt; whole = λ u. let z : ◌≡◌ {A = ℕ} 0 1 = cc in absurd (omega arith) })

stopped_journal : (o : Owner) (file : List ℕ) (up : Bool) → Journal o up file → Journal o false file
stopped_journal o file up j = record { torn = j.torn; whole = λ e. let z : ◌≡◌ {A = ℕ} 0 1 = cc in absurd (omega arith) }

module _ (o : Owner) (file : List ℕ) (is : bytes_of (records_of o file) ≡ file) where
  abbrev R : List Rec
  R = records_of o file

  sound : AllSound o R
  sound = (front_is_records o file).0

  pub grown_records : (rs : List Rec) → AllSound o rs → records_of o (file ++ bytes_of rs) ≡ R ++ rs
  grown_records rs h = grown.grown_records o file (file ++ bytes_of rs) rs is h refl

  pub grown_journal : (rs : List Rec) → AllSound o rs → Journal o true (file ++ bytes_of rs)
  grown_journal rs h =
      let b : bytes_of (records_of o (file ++ bytes_of rs)) ≡ file ++ bytes_of rs = grown.grown_whole o file (file ++ bytes_of rs) rs is h refl in
      record { torn = subst (λ (x : List ℕ). Torn o (rest_of o x)) b (cut_journal o true (file ++ bytes_of rs)).1.torn; whole = λ u. b }

  -- a stop leaves the records before, and those that are there whole
  torn_one : (r : Rec) → Sound o r → (n : ℕ) → (b : Bool) → leb (length (bytes_of (r ∷ []))) n ≡ b →
      (records_of o (torn_file file (r ∷ []) n) ≡ R ++ cond b (r ∷ []) []) × Journal o false (torn_file file (r ∷ []) n)
  torn_one r h n true e =
      let t : take n (bytes_of (r ∷ [])) ≡ bytes_of (r ∷ []) = take_all n (bytes_of (r ∷ [])) (leb-true _ n e) in
      subst (λ (x : List ℕ). (records_of o (file ++ x) ≡ R ++ (r ∷ [])) × Journal o false (file ++ x)) (sym t)
      (grown_records (r ∷ []) (h, tt), stopped_journal o (file ++ bytes_of (r ∷ [])) true (grown_journal (r ∷ []) (h, tt)))
  torn_one r h n false e =
      let nil : bytes_of (r ∷ []) ≡ layout r = append-nil (layout r) in
      let lt : n < length (layout r) = subst (λ (x : List ℕ). n < length x) nil (leb-false _ n e) in
      let l = torn_leaves o R sound r h n lt in
      subst (λ (x : List ℕ). (records_of o (file ++ take n x) ≡ R ++ []) × Journal o false (file ++ take n x)) (sym nil)
      (subst (λ (x : List ℕ). (records_of o (x ++ take n (layout r)) ≡ R ++ []) × Journal o false (x ++ take n (layout r))) is
      (l.0 ∙ sym (append-nil R), record { torn = subst (Torn o) (sym (rest_is o R (take n (layout r)) l.0)) l.1; whole = λ u. let z : ◌≡◌ {A = ℕ} 0 1 = cc in absurd (omega arith) }))

  pub torn_records : (rs : List Rec) → AllSound o rs → Few rs → (n : ℕ) → (records_of o (torn_file file rs n) ≡ R ++ whole rs (Some n)) × Journal o false (torn_file file rs n)
  torn_records [] h f n =
      let t : take n (bytes_of []) ≡ [] = take_all n [] (omega arith) in
      subst (λ (x : List ℕ). (records_of o (file ++ x) ≡ R ++ cond (leb 0 n) [] []) × Journal o false (file ++ x)) (sym t)
      (grown_records [] tt ∙ sym (cond_both (leb 0 n) [] [] (λ (x : List Rec). R ++ x ≡ R ++ []) (λ e. refl) (λ e. refl)), stopped_journal o (file ++ []) true (grown_journal [] tt))
  torn_records (r ∷ []) h f n = torn_one r h.0 n (leb (length (bytes_of (r ∷ []))) n) refl
  torn_records (r ∷ s ∷ rs) h f n = absurd f

-- every part that the keeper has is 1,024 bytes long
blank_long : (q : ℕ) → q < 16384 → length (blank q) ≡ 1024
unfolding blank
blank_long q h = rw (lt-ltb q 16384 h) (length-replicate {A = ℕ} 1024 0)

replay_long : (rs : List Rec) (s : Memory) → AllSound owner.Keeper rs → ((q : ℕ) → q < 16384 → length (s.parts q) ≡ 1024) → (q : ℕ) → q < 16384 → length ((replay rs s).parts q) ≡ 1024
replay_long [] s h f = f
replay_long (Applied i p n v ∷ rs) s h f = replay_long rs _ h.1 (λ q l. cond_both (eqb q p) v (s.parts q) (λ (x : List ℕ). length x ≡ 1024) (λ e. h.0.0.1) (λ e. f q l))
replay_long (VoidUpTo i p n ∷ rs) s h f = replay_long rs _ h.1 f
replay_long (Numbers p a w ∷ rs) s h f = replay_long rs _ h.1 f

pub recovered_long : (file : List ℕ) (q : ℕ) → q < 16384 → length ((recovered file).parts q) ≡ 1024
recovered_long file = replay_long (records_of owner.Keeper file) nothing (front_is_records owner.Keeper file).0 blank_long
