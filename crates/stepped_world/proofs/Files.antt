-- Journals: what records they have after some were appended, whole or torn.
use Rattle.std.proofs.Common.{◌≡◌, ℕ, ◌-◌, ◌<◌, Bool, true, false, eqb, ltb, List, [], ◌∷◌, ◌++◌, length, take, fold, sym, refl, ap, ◌∙◌, true≢false}
use Rattle.std.proofs.lemmas.List.{length-replicate}
use Rattle.std.proofs.lemmas.Bool.{cond_both, lt-ltb}
use Rattle.part.specs.Parts.{blank}
use Rattle.journal.specs.declared.record.Owner.{Owner}
use Rattle.journal.specs.declared.record.Owner.TheVariants as owner
use Rattle.journal.specs.Records.{Rec, Applied, VoidUpTo, Numbers, layout, AllSound, bytes_of, records_of}
use Rattle.journal.specs.Laws.{whole_in}
use Rattle.journal.proofs.Journals.{front_is_records, torn_end}
use Rattle.journal.proofs.Grown.{read_all}
use Rattle.journal.proofs.Grown as grown
use Rattle.journal.proofs.Stops.{stop_leaves_first}
use Rattle.keeping.specs.Rules.{Durable, fresh, redo}
use Rattle.stepped_world.specs.World.{recovered, torn_file}
use Rattle.stepped_world.specs.Runs.{Put, puts}

-- FOLDS over records that are appended

pub puts_append : (rs ss : List Rec) (h : List Put) → puts (rs ++ ss) h ≡ puts ss (puts rs h)
puts_append [] ss h = refl
puts_append (Applied i q n v ∷ rs) ss h = puts_append rs ss _
puts_append (VoidUpTo i q n ∷ rs) ss h = puts_append rs ss h
puts_append (Numbers q a w ∷ rs) ss h = puts_append rs ss h

-- THE FIRST RECORDS of some, as a stop leaves them

pub whole_first : (rs : List Rec) (n : ℕ) → (more : List Rec) × (rs ≡ whole_in n rs ++ more)
whole_first [] n = ([], refl)
whole_first (r ∷ rs) n =
    cond_both (ltb n (length (layout r))) [] (r ∷ whole_in (n - length (layout r)) rs) (λ (x : List Rec). (more : List Rec) × (r ∷ rs ≡ x ++ more))
    (λ e. (r ∷ rs, refl))
    (λ e. let m = whole_first rs (n - length (layout r)) in (m.0, ap (λ (x : List Rec). r ∷ x) m.1))

-- none or one
abbrev pub Few : List Rec → Type 0
Few [] = Unit {0}
Few (r ∷ []) = Unit {0}
Few (r ∷ s ∷ rs) = ⊥

-- of one, none or all
pub whole_few : (rs : List Rec) → Few rs → (n : ℕ) (P : List Rec → Type 0) → P [] → P rs → P (whole_in n rs)
whole_few [] f n P none all = none
whole_few (r ∷ []) f n P none all = cond_both (ltb n (length (layout r))) [] (r ∷ []) P (λ e. none) (λ e. all)
whole_few (r ∷ s ∷ rs) f n P none all = absurd f

-- A JOURNAL is whole while its owner is up
abbrev pub Journal : Owner → (up : Bool) → (file : List ℕ) → Type 0
Journal o up file = up ≡ true → bytes_of (records_of o file) ≡ file

pub down_journal : (o : Owner) (file : List ℕ) → Journal o false file
down_journal o file u = absurd (true≢false (sym u))

-- cut after its last whole record
pub cut_records : (o : Owner) (file : List ℕ) → records_of o (bytes_of (records_of o file)) ≡ records_of o file
cut_records o file = read_all o (records_of o file) (front_is_records o file).0

pub woken_records : (o : Owner) (file : List ℕ) → records_of o (bytes_of (records_of o file) ++ []) ≡ records_of o file
woken_records o file = torn_end o (records_of o file) (front_is_records o file).0 [] tt

-- a journal that has nothing
pub empty_records : (o : Owner) → records_of o [] ≡ []
empty_records o = read_all o [] tt

module _ (o : Owner) (file : List ℕ) (is : bytes_of (records_of o file) ≡ file) where
  pub grown_records : (rs : List Rec) → AllSound o rs → records_of o (file ++ bytes_of rs) ≡ records_of o file ++ rs
  grown_records rs h = grown.grown_records o file (file ++ bytes_of rs) rs is h refl

  pub grown_whole : (rs : List Rec) → AllSound o rs → bytes_of (records_of o (file ++ bytes_of rs)) ≡ file ++ bytes_of rs
  grown_whole rs h = grown.grown_whole o file (file ++ bytes_of rs) rs is h refl

  -- a stop leaves the records before, and those that are there whole
  pub torn_records : (rs : List Rec) → AllSound o rs → (n : ℕ) → records_of o (torn_file file rs n) ≡ records_of o file ++ whole_in n rs
  torn_records rs h n =
      ap (λ (x : List ℕ). records_of o (x ++ take n (bytes_of rs))) (sym is) ∙ stop_leaves_first o (records_of o file) rs (front_is_records o file).0 h n

-- every part that the keeper has is 1,024 bytes long
blank_long : (q : ℕ) → q < 16384 → length (blank q) ≡ 1024
unfolding blank
blank_long q h = rw (lt-ltb q 16384 h) (length-replicate {A = ℕ} 1024 0)

redo_long : (rs : List Rec) (d : Durable) → AllSound owner.Keeper rs → ((q : ℕ) → q < 16384 → length (d.parts q) ≡ 1024) → (q : ℕ) → q < 16384 → length ((fold redo d rs).parts q) ≡ 1024
redo_long [] d h f = f
redo_long (Applied i p n v ∷ rs) d h f = redo_long rs _ h.1 (λ q l. cond_both (eqb q p) v (d.parts q) (λ (x : List ℕ). length x ≡ 1024) (λ e. h.0.0.1) (λ e. f q l))
redo_long (VoidUpTo i p n ∷ rs) d h f = redo_long rs _ h.1 f
redo_long (Numbers p a w ∷ rs) d h f = redo_long rs _ h.1 f

pub recovered_long : (file : List ℕ) (q : ℕ) → q < 16384 → length ((recovered file).parts q) ≡ 1024
recovered_long file = redo_long (records_of owner.Keeper file) fresh (front_is_records owner.Keeper file).0 blank_long
