-- What the readers show: of one first byte each, at a place, and of a whole journal.
-- Assumes nothing.
use Rattle.std.proofs.Common.{◌≡◌, ℕ, ◌+◌, ◌-◌, ◌<◌, ◌≤◌, List, [], ◌∷◌, ◌++◌, length, get_or, take, drop, Ok, Err, Result, IsErr, Some, None, Option, sym, refl, ap, ◌∙◌, subst, arith}
use Rattle.std.proofs.lemmas.List.{length-take-le, length-drop, length-append, drop-take, drop-drop, take-append-drop, drop_at, take_rest, append-nil}
use Rattle.part.specs.Bytes.{headed}
use Rattle.std.proofs.lemmas.Slice.{first_rest}
use Rattle.message.specs.Format.{carried}
use Rattle.journal.specs.declared.record.Owner.{Owner}
use Rattle.journal.specs.declared.record.Record.{Record}
use Rattle.journal.specs.declared.record.Record.TheVariants as code
use Rattle.journal.specs.declared.read.Entry.{Entry}
use Rattle.message.specs.declared.form.Malformed.{Malformed}
use Rattle.std.specs.Result.{result_unwrap_or}
use Rattle.journal.specs.Records.{Rec, Applied, layout, Sound, Torn, NoRecord, bytes_of, records_of, rest_of}
use Rattle.journal.specs.Reading.{ending, Standing, Stands, Cut, Refused, Judged}
use Rattle.journal.specs.Laws.{TornIsCut, CutOnce}
use Rattle.journal.proofs.Parses.{torn_none}
use Rattle.journal.proofs.Journals.{step, none, torn_end, front_is_records}

-- the part in the bytes of an applied record, after its first byte
pub part_is : (ys : List ℕ) → 1031 ≤ length ys → carried (take 1032 (8 ∷ ys)) ≡ take 1024 (drop 7 ys)
part_is ys l =
    let a : length (take 1031 ys) ≡ 1031 = length-take-le 1031 ys l in
    let b : length (take 1032 (8 ∷ ys)) - 1024 ≡ 8 = omega arith in
    ap (λ (i : ℕ). drop i (take 1032 (8 ∷ ys))) b ∙ drop-take 7 1024 ys

pub part_long : (ys : List ℕ) → 1031 ≤ length ys → length (carried (take 1032 (8 ∷ ys))) ≡ 1024
part_long ys l = ap length (part_is ys l) ∙ length-take-le 1024 (drop 7 ys) (omega (arith, length-drop 7 ys))

pub applied_is : (ys : List ℕ) (w q n : ℕ) → 1031 ≤ length ys → headed w q n (drop 7 ys) ≡ ys
    → 8 ∷ ys ≡ 8 ∷ (headed w q n (carried (take 1032 (8 ∷ ys))) ++ drop 1031 ys)
applied_is ys w q n l e =
    let a : carried (take 1032 (8 ∷ ys)) ++ drop 1031 ys ≡ drop 7 ys =
    ap (λ (v : List ℕ). v ++ drop 1031 ys) (part_is ys l) ∙ ap (λ (v : List ℕ). take 1024 (drop 7 ys) ++ v) (sym (drop-drop 1024 7 ys))
    ∙ take-append-drop 1024 (drop 7 ys) in
    sym (ap (λ (v : List ℕ). 8 ∷ headed w q n v) a ∙ ap (λ (v : List ℕ). 8 ∷ v) e)

-- the reader of one first byte, as the bytes are cut for it
pub from_body : (o p : Owner) (xs : List ℕ) (t : ℕ) (r : Result (Option Entry) Malformed) → o ≡ p → 0 < length xs → get_or xs 0 0 ≡ t
    → Stands p 0 (t ∷ take (length xs - 1) (drop 1 xs)) r → Stands o 0 xs r
from_body o p xs t r e l f h =
    let P : List ℕ → Type 0 = λ ys. Stands o 0 ys r in
    let Q : Owner → Type 0 = λ a. Stands a 0 (t ∷ take (length xs - 1) (drop 1 xs)) r in
    let R : ℕ → Type 0 = λ u. Stands o 0 (u ∷ take (length xs - 1) (drop 1 xs)) r in
    subst P (sym (first_rest xs 0 l)) (subst R (sym f) (subst Q (sym e) h))

-- the part of an applied record further on
part_ahead : (bs : List ℕ) (at end : ℕ) → length (carried (take end (drop at bs))) ≡ 1024 → carried (take (at + end) bs) ≡ carried (take end (drop at bs))
part_ahead bs at end l =
    let ys : List ℕ = take (at + end) bs in
    let e : drop at ys ≡ take end (drop at bs) = drop-take at end bs in
    let a = length-drop at ys in
    let b : length (carried (drop at ys)) ≡ 1024 = ap (λ (q : List ℕ). length (carried q)) e ∙ l in
    let n : length ys - 1024 ≡ at + (length (drop at ys) - 1024) = omega (arith, length-drop (length (drop at ys) - 1024) (drop at ys)) in
    ap (λ (i : ℕ). drop i ys) n ∙ sym (drop-drop (length (drop at ys) - 1024) at ys) ∙ ap carried e

ahead : (o : Owner) (bs : List ℕ) (at end : ℕ) (r : Record) → Sound o (ending (drop at bs) end r) → ending (drop at bs) end r ≡ ending bs (at + end) r
ahead o bs at end (code.Applied h) f =
    ap (λ (v : List ℕ). Applied h.who.id h.place.at h.number v) (sym (part_ahead bs at end f.0.1))
ahead o bs at end (code.VoidUpTo h) f = refl
ahead o bs at end (code.Numbers p a w) f = refl

pub whole_at : (o : Owner) (bs : List ℕ) (at end : ℕ) (r : Record) → Standing o 0 (take (length bs - at) (drop at bs)) r end → Standing o at bs r (at + end)
whole_at o bs at end r h =
    let P : List ℕ → Type 0 = λ xs. Standing o 0 xs r end in
    let s : Standing o 0 (drop at bs) r end = subst P (take_rest bs at) h in
    let e = ahead o bs at end r s.sound in
    let Q : Rec → Type 0 = Sound o in
    let l : end ≡ length (layout (ending (drop at bs) end r)) = omega (arith, s.long) in
    record {
      sound = subst Q e s.sound;
      long = ap (λ (k : ℕ). at + k) (l ∙ ap (λ (m : Rec). length (layout m)) e);
      is = s.is ∙ ap (λ (m : Rec). layout m ++ drop end (drop at bs)) e ∙ ap (λ (q : List ℕ). layout (ending bs (at + end) r) ++ q) (drop-drop end at bs);
    }

-- one that passes over what is no record: a record that it gives stands there, and where it gives none there is none
pub given : (o : Owner) (bs : List ℕ) (at : ℕ) (r : Result (Option Entry) Malformed) (e : Entry) → Stands o at bs r → Some e ≡ result_unwrap_or r None
    → Standing o at bs e.«record» e.end
given o bs at (Ok (Some x)) e h q = let P : Entry → Type 0 = λ y. Standing o at bs y.«record» y.end in let f : x ≡ e = cc in subst P f h
given o bs at (Ok None) e h q = absurd (cc)
given o bs at (Err x) e h q = absurd (cc)

pub passed_over : (o : Owner) (bs : List ℕ) (at : ℕ) (r : Result (Option Entry) Malformed) → Stands o at bs r → None ≡ result_unwrap_or r None
    → NoRecord o (drop at bs)
passed_over o bs at (Ok (Some x)) h q = absurd (cc)
passed_over o bs at (Ok None) h q = torn_none o (drop at bs) h
passed_over o bs at (Err x) h q = h.1

-- so far the bytes are whole records, and those ahead are the others
abbrev pub Reached : Owner → List ℕ → ℕ → Type 0
Reached o bs at = (at ≤ length bs) × (length (bytes_of (records_of o bs)) ≡ at + length (bytes_of (records_of o (drop at bs))))

-- the records ahead, where one stands
pub ahead_more : (o : Owner) (bs : List ℕ) (at end : ℕ) (r : Record) → Standing o at bs r end
    → records_of o (drop at bs) ≡ ending bs end r ∷ records_of o (drop end bs)
ahead_more o bs at end r s = ap (records_of o) s.is ∙ step o (ending bs end r) s.sound (drop end bs)

pub within_more : (o : Owner) (bs : List ℕ) (at end : ℕ) (r : Record) → at ≤ length bs → Standing o at bs r end → (at < end) × (end ≤ length bs)
within_more o bs at end r h s =
    let l : length bs - at ≡ length (layout (ending bs end r)) + length (drop end bs) =
    sym (length-drop at bs) ∙ ap length s.is ∙ length-append (layout (ending bs end r)) (drop end bs) in
    let d = length-drop end bs in
    (omega (arith, s.long), omega (arith, s.long))

pub reached_more : (o : Owner) (bs : List ℕ) (at end : ℕ) (r : Record) → Reached o bs at → Standing o at bs r end → Reached o bs end
reached_more o bs at end r (h, e) s =
    let m = ap (λ (q : List Rec). length (bytes_of q)) (ahead_more o bs at end r s) in
    let a = length-append (layout (ending bs end r)) (bytes_of (records_of o (drop end bs))) in
    ((within_more o bs at end r h s).1, omega (arith, s.long))

-- where no record is ahead, this is where they end
reached_end : (o : Owner) (bs : List ℕ) (at : ℕ) → Reached o bs at → NoRecord o (drop at bs) → at ≡ length (bytes_of (records_of o bs))
reached_end o bs at (h, e) k =
    let m = ap (λ (q : List Rec). length (bytes_of q)) (none o (drop at bs) k) in
    omega arith

pub reached_torn : (o : Owner) (bs : List ℕ) (at : ℕ) → Reached o bs at → Torn o (drop at bs) → Cut o bs at
reached_torn o bs at h t =
    let e = reached_end o bs at h (torn_none o (drop at bs) t) in
    record { long = e; front = ap (λ (n : ℕ). take n bs) e ∙ (front_is_records o bs).1; within = h.0; torn = t }

pub reached_malformed : (o : Owner) (bs : List ℕ) (at : ℕ) → Reached o bs at → (Torn o (drop at bs) → ⊥) → NoRecord o (drop at bs) → Refused o bs
reached_malformed o bs at h t k =
    let P : ℕ → Type 0 = λ n. (Torn o (drop n bs) → ⊥) × NoRecord o (drop n bs) in
    subst P (reached_end o bs at h k) (t, k)

pub refused_of : (o : Owner) (bs : List ℕ) (r : Result ℕ Malformed) → IsErr r → Refused o bs → Judged o bs r
refused_of o bs (Ok n) e h = absurd (cc)
refused_of o bs (Err x) e h = h

pub torn_is_cut : TornIsCut
torn_is_cut o rs f t h (Ok n) c = ap Ok (c.long ∙ ap (λ (q : List Rec). length (bytes_of q)) (torn_end o rs f t h))
torn_is_cut o rs f t h (Err x) c =
    let P : List ℕ → Type 0 = Torn o in
    let e : rest_of o (bytes_of rs ++ t) ≡ t =
    ap (λ (q : List Rec). drop (length (bytes_of q)) (bytes_of rs ++ t)) (torn_end o rs f t h) ∙ drop_at (bytes_of rs) t _ refl in
    absurd (c.0 (subst P (sym e) h))

pub cut_once : CutOnce
cut_once o bs n c =
    let rs : List Rec = records_of o bs in
    let f = (front_is_records o bs).0 in
    let e : take n bs ≡ bytes_of rs ++ [] = c.front ∙ sym (append-nil (bytes_of rs)) in (
      ap (records_of o) e ∙ torn_end o rs f [] tt,
      λ res j. let P : List ℕ → Type 0 = λ q. Judged o q res in torn_is_cut o rs f [] tt res (subst P e j) ∙ ap Ok (sym c.long),
    )
