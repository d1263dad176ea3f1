-- Records of a journal that are applied one after another: what was made so far, and what the records ahead will make.
use Rattle.std.proofs.Common.{◌≡◌, ℕ, ◌+◌, ◌-◌, ◌<◌, ◌≤◌, List, ◌∷◌, ◌++◌, length, take, drop, fold, Ok, Result, IsErr, sym, ap, ◌∙◌, subst, arith}
use Rattle.std.proofs.lemmas.List.{length-drop, length-append, drop-drop, take_rest}
use Rattle.message.specs.declared.form.Malformed.{Malformed}
use Rattle.journal.specs.declared.record.Owner.{Owner}
use Rattle.journal.specs.declared.entry.Entry.{Entry}
use Rattle.journal.specs.Records.{Rec, layout, Sound, Torn, NoRecord, bytes_of, records_of}
use Rattle.journal.specs.Entries.{rec_of}
use Rattle.journal.specs.Made.{Redone}
use Rattle.journal.proofs.Parses.{torn_none}
use Rattle.journal.proofs.Journals.{step, none}
use Rattle.journal.proofs.Readers.{Reached, reached_torn, reached_malformed, refused_of}

-- a record stands there, of so many bytes
pub record Standing (o : Owner) (at : ℕ) (bs : List ℕ) (r : Rec) (n : ℕ) : Type 0 where
  pub sound : Sound o r
  pub long : n ≡ length (layout r)
  pub is : drop at bs ≡ layout r ++ drop (at + n) bs

-- as it was read from there on
pub standing : (o : Owner) (bs : List ℕ) (at : ℕ) (e : Entry) (n : ℕ) → Sound o (rec_of e) × (n ≡ length (layout (rec_of e)))
    × (take (length bs - at) (drop at bs) ≡ layout (rec_of e) ++ drop n (take (length bs - at) (drop at bs))) → Standing o at bs (rec_of e) n
standing o bs at e n (s, l, i) =
    let P : List ℕ → Type 0 = λ q. q ≡ layout (rec_of e) ++ drop n q in
    record { sound = s; long = l; is = subst P (take_rest bs at) i ∙ ap (λ (q : List ℕ). layout (rec_of e) ++ q) (drop-drop n at bs) }

module _ (o : Owner) (bs : List ℕ) (at n : ℕ) (r : Rec) (s : Standing o at bs r n) where
  records_ahead : records_of o (drop at bs) ≡ r ∷ records_of o (drop (at + n) bs)
  records_ahead = ap (records_of o) s.is ∙ step o r s.sound (drop (at + n) bs)

  pub within : at ≤ length bs → (0 < n) × (at + n ≤ length bs)
  within h =
      let l : length bs - at ≡ length (layout r) + length (drop (at + n) bs) =
      sym (length-drop at bs) ∙ ap length s.is ∙ length-append (layout r) (drop (at + n) bs) in
      let d = length-drop (at + n) bs in
      (omega (arith, s.long), omega (arith, s.long))

module _ {S : Type 0} (redo : S → Rec → S) (o : Owner) (bs : List ℕ) where
  -- so far the bytes are whole records, and what those ahead make of the state now all make of the state before
  abbrev pub Passing : S → ℕ → S → Type 0
  Passing s at m = Reached o bs at × (fold redo s (records_of o bs) ≡ fold redo m (records_of o (drop at bs)))

  pub passing_more : (s m t : S) (at n next : ℕ) (r : Rec) → Passing s at m → Standing o at bs r n → t ≡ redo m r → next ≡ at + n → Passing s next t
  passing_more s m t at n next r ((l, k), h) d e f =
      let rs : List Rec = records_of o (drop (at + n) bs) in
      let a = records_ahead o bs at n r d in
      let b = ap (λ (q : List Rec). length (bytes_of q)) a in
      let c = length-append (layout r) (bytes_of rs) in
      let P : ℕ → Type 0 = λ i. Passing s i t in
      subst P (sym f) (
        ((within o bs at n r d l).1, omega (arith, d.long)),
        h ∙ ap (λ (q : List Rec). fold redo m q) a ∙ ap (λ x. fold redo x rs) (sym e),
      )

  passing_end : (s m : S) (at : ℕ) → Passing s at m → NoRecord o (drop at bs) → m ≡ fold redo s (records_of o bs)
  passing_end s m at (a, h) k = sym (h ∙ ap (λ (q : List Rec). fold redo m q) (none o (drop at bs) k))

  -- it ends where the records do, at what is torn
  pub passed : (s m : S) (at : ℕ) → Passing s at m → Torn o (take (length bs - at) (drop at bs)) → Redone o redo bs s m (Ok at)
  passed s m at p t =
      let P : List ℕ → Type 0 = Torn o in
      let u : Torn o (drop at bs) = subst P (take_rest bs at) t in
      record { made = passing_end s m at p (torn_none o (drop at bs) u); judged = reached_torn o bs at p.0 u }

  -- or at what is neither torn nor a record
  pub passed_none : (s m : S) (at : ℕ) (r : Result ℕ Malformed) → IsErr r → Passing s at m
      → (Torn o (take (length bs - at) (drop at bs)) → ⊥) × NoRecord o (take (length bs - at) (drop at bs)) → Redone o redo bs s m r
  passed_none s m at r e p x =
      let P : List ℕ → Type 0 = λ q. (Torn o q → ⊥) × NoRecord o q in
      let y = subst P (take_rest bs at) x in
      record { made = passing_end s m at p y.1; judged = refused_of o bs r e (reached_malformed o bs at p.0 y.0 y.1) }
