-- A journal that goes on behind the place where it was to be cut.
use Rattle.std.proofs.Common.{◌≡◌, ℕ, ◌+◌, List, ◌++◌, length, take, drop, sym, ap, ◌∙◌, subst, arith}
use Rattle.std.proofs.Math.Seq.{take-append-add, drop-append-add}
use Rattle.std.proofs.lemmas.List.{append_assoc, take-append-drop, length-append}
use Rattle.std.proofs.lemmas.Grind.{flat_map-append}
use Rattle.journal.specs.declared.record.Owner.{Owner}
use Rattle.journal.specs.Records.{Rec, layout, Torn, NoRecord, bytes_of, records_of, rest_of}
use Rattle.journal.specs.Reading.{Cut, Refused}
use Rattle.journal.proofs.Journals.{read_back, front_is_records}

module _ (o : Owner) (bs ys : List ℕ) (n : ℕ) (c : Cut o bs n) where
  -- the records so far, and what is left over of their bytes
  abbrev rs : List Rec
  rs = records_of o bs

  abbrev xs : List ℕ
  xs = drop n bs

  joined : bs ++ ys ≡ bytes_of rs ++ (xs ++ ys)
  joined =
      ap (λ (q : List ℕ). q ++ ys) (sym (take-append-drop n bs) ∙ ap (λ (q : List ℕ). q ++ xs) c.front) ∙ append_assoc (bytes_of rs) xs ys

  -- the records of more bytes: those so far, and those of what is left over with what came
  pub records_on : records_of o (bs ++ ys) ≡ rs ++ records_of o (xs ++ ys)
  records_on = ap (records_of o) joined ∙ read_back o rs (front_is_records o bs).0 (xs ++ ys)

  -- what is left over then
  pub left_on : (m : ℕ) → drop (n + m) (bs ++ ys) ≡ drop m (xs ++ ys)
  left_on m =
      ap (λ (k : ℕ). drop (k + m) (bs ++ ys)) c.long ∙ ap (drop (length (bytes_of rs) + m)) joined ∙ drop-append-add (bytes_of rs) (xs ++ ys) m

  pub cut_on : (m : ℕ) → Cut o (xs ++ ys) m → Cut o (bs ++ ys) (n + m)
  cut_on m d =
      let qs : List Rec = records_of o (xs ++ ys) in
      let e : bytes_of (records_of o (bs ++ ys)) ≡ bytes_of rs ++ bytes_of qs = ap bytes_of records_on ∙ flat_map-append layout rs qs in
      let P : List ℕ → Type 0 = Torn o in
      let at : n + m ≡ length (bytes_of rs) + m = ap (λ (k : ℕ). k + m) c.long in
      record {
        long = at ∙ ap (λ (k : ℕ). length (bytes_of rs) + k) d.long ∙ sym (length-append (bytes_of rs) (bytes_of qs)) ∙ ap length (sym e);
        front = ap (λ (k : ℕ). take k (bs ++ ys)) at ∙ ap (take (length (bytes_of rs) + m)) joined ∙ take-append-add (bytes_of rs) (xs ++ ys) m
            ∙ ap (λ (q : List ℕ). bytes_of rs ++ q) d.front ∙ sym e;
        within = omega (arith, at, d.within, ap length joined, length-append (bytes_of rs) (xs ++ ys));
        torn = subst P (sym (left_on m)) d.torn;
      }

  -- the whole is refused where that is
  pub refused_on : Refused o (xs ++ ys) → Refused o (bs ++ ys)
  refused_on r =
      let qs : List Rec = records_of o (xs ++ ys) in
      let e : bytes_of (records_of o (bs ++ ys)) ≡ bytes_of rs ++ bytes_of qs = ap bytes_of records_on ∙ flat_map-append layout rs qs in
      let R : List ℕ → Type 0 = λ q. (Torn o q → ⊥) × NoRecord o q in
      let f : rest_of o (bs ++ ys) ≡ rest_of o (xs ++ ys) =
      ap (λ (q : List ℕ). drop (length q) (bs ++ ys)) e ∙ ap (λ (q : List ℕ). drop (length (bytes_of rs ++ bytes_of qs)) q) joined
      ∙ ap (λ (k : ℕ). drop k (bytes_of rs ++ (xs ++ ys))) (length-append (bytes_of rs) (bytes_of qs)) ∙ drop-append-add (bytes_of rs) (xs ++ ys) (length (bytes_of qs)) in
      subst R (sym f) r
