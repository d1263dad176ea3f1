-- A journal that is read in blocks: what was applied so far, and what is left over of each.
-- Assumes nothing.
use Rattle.std.proofs.Common.{◌≡◌, ℕ, ◌+◌, ◌<◌, List, [], ◌∷◌, ◌++◌, length, drop, cond, eqb, refl, sym, ap, ◌∙◌, subst, arith}
use Rattle.std.proofs.lemmas.List.{append_assoc, append-nil}
use Rattle.std.proofs.lemmas.Bool.{cond_both}
use Rattle.journal.specs.declared.record.Owner.{Owner}
use Rattle.journal.specs.declared.record.Owner.TheVariants as owner
use Rattle.journal.specs.Records.{Rec, Torn, bytes_of, records_of, announced}
use Rattle.journal.specs.Reading.{Cut, Refused}
use Rattle.journal.specs.Replays.{Through}
use Rattle.journal.proofs.Parses.{torn_none}
use Rattle.journal.proofs.Journals.{none}
use Rattle.journal.proofs.Cuts.{records_on, left_on, cut_on, refused_on}

-- what is torn is shorter than a block
announced_short : (o : Owner) (t : ℕ) → announced o t < 65536
announced_short owner.Keeper t =
    cond_both (eqb t 8) 1032 (cond (eqb t 9) 8 0) (λ n. n < 65536) (λ _. omega arith) (λ _. cond_both (eqb t 9) 8 0 (λ n. n < 65536) (λ _. omega arith) (λ _. omega arith))
announced_short owner.Borrower t = cond_both (eqb t 10) 11 0 (λ n. n < 65536) (λ _. omega arith) (λ _. omega arith)

pub torn_short : (o : Owner) (xs : List ℕ) → Torn o xs → length xs < 65536
torn_short o [] h = omega arith
torn_short o (t ∷ xs) h = omega (arith, announced_short o t, h)

-- records after records
pub through_on : {S : Type 0} (P : S → Rec → S → Type 0) (rs qs : List Rec) (s m t : S) → Through P s rs m → Through P m qs t → Through P s (rs ++ qs) t
through_on P [] qs s m t e q = let Q : _ → Type 0 = λ x. Through P x qs t in subst Q (sym e) q
through_on P (r ∷ rs) qs s m t (k, p, h) q = (k, p, through_on P rs qs k m t h q)

-- what was read in blocks so far and applied: these bytes, of which the last are left over
pub record Ahead {S : Type 0} (P : S → Rec → S → Type 0) (o : Owner) (was had : List ℕ) (s m : S) (size : ℕ) (left : List ℕ) : Type 0 where
  pub bytes : List ℕ
  pub read : had ≡ was ++ bytes
  pub cut : Cut o bytes size
  pub through : Through P s (records_of o bytes) m
  pub over : left ≡ drop size bytes

module _ {S : Type 0} (P : S → Rec → S → Type 0) (o : Owner) (was : List ℕ) where
  pub ahead_none : (s : S) → Ahead P o was was s s 0 []
  ahead_none s =
      let e : records_of o [] ≡ [] = none o [] (torn_none o [] tt) in
      let Q : List Rec → Type 0 = λ rs. Through P s rs s in
      record {
        bytes = [];
        read = sym (append-nil was);
        cut = record { long = ap (λ (rs : List Rec). length (bytes_of rs)) (sym e); front = ap bytes_of (sym e); within = omega arith; torn = tt };
        through = subst Q (sym e) refl;
        over = refl;
      }

  pub ahead_short : (had : List ℕ) (s m : S) (size : ℕ) (left : List ℕ) → Ahead P o was had s m size left → length left < 65536
  ahead_short had s m size left a =
      let Q : List ℕ → Type 0 = λ xs. length xs < 65536 in subst Q (sym a.over) (torn_short o _ a.cut.torn)

  -- where more came behind what was left over, and all of that is `block`: its records were applied, and what is left over then stays
  pub ahead_more : (had is : List ℕ) (s m t : S) (size done next : ℕ) (left got block over : List ℕ) → Ahead P o was had s m size left
      → is ≡ had ++ got → block ≡ left ++ got → Cut o block done → Through P m (records_of o block) t → next ≡ size + done → over ≡ drop done block
      → Ahead P o was is s t next over
  ahead_more had is s m t size done next left got block over a e f c h n d =
      let bs = a.bytes in
      let k : block ≡ drop size bs ++ got = f ∙ ap (λ (q : List ℕ). q ++ got) a.over in
      let C : List ℕ → Type 0 = λ q. Cut o q done in
      let T : List ℕ → Type 0 = λ q. Through P m (records_of o q) t in
      let Q : List Rec → Type 0 = λ rs. Through P s rs t in
      let N : ℕ → Type 0 = λ j. Cut o (bs ++ got) j in
      record {
        bytes = bs ++ got;
        read = e ∙ ap (λ (q : List ℕ). q ++ got) a.read ∙ append_assoc was bs got;
        cut = subst N (sym n) (cut_on o bs got size a.cut done (subst C k c));
        through = subst Q (sym (records_on o bs got size a.cut)) (through_on P (records_of o bs) _ s m t a.through (subst T k h));
        over = d ∙ ap (drop done) k ∙ sym (left_on o bs got size a.cut done) ∙ ap (λ (j : ℕ). drop j (bs ++ got)) (sym n);
      }

  -- where that is refused, all that was read is
  pub ahead_refused : (had is : List ℕ) (s m : S) (size : ℕ) (left got block : List ℕ) → Ahead P o was had s m size left
      → is ≡ had ++ got → block ≡ left ++ got → Refused o block → (bs : List ℕ) × (is ≡ was ++ bs) × Refused o bs
  ahead_refused had is s m size left got block a e f r =
      let bs = a.bytes in
      let k : block ≡ drop size bs ++ got = f ∙ ap (λ (q : List ℕ). q ++ got) a.over in
      let R : List ℕ → Type 0 = λ q. Refused o q in
      (bs ++ got, e ∙ ap (λ (q : List ℕ). q ++ got) a.read ∙ append_assoc was bs got, refused_on o bs got size a.cut (subst R k r))
