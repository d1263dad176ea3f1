-- What the host has of a step that fits its buffers, where they have the bytes that the code has of it.
use Rattle.std.proofs.Common.{◌≡◌, ℕ, suc, ◌*◌, ◌≤◌, List, [], ◌∷◌, ◌++◌, length, take, drop, sum, refl, sym, ap, ◌∙◌, subst, arith, Result}
use Rattle.std.specs.Prelude.{map, vec_items}
use Rattle.std.proofs.lemmas.List.{length-append, length-drop, length-map, take-append-drop, length-take-le}
use Rattle.std.proofs.lemmas.List.Sums.{sum_by-cons}
use Rattle.message.specs.declared.refusal.Refusal.{Refusal}
use Rattle.message.specs.Format.{Msg, layout}
use Rattle.journal.specs.declared.record.Owner.{Owner}
use Rattle.journal.specs.Records.{Rec, Applied, VoidUpTo, Numbers, AllSound, bytes_of}
use Rattle.journal.specs.Records as records
use Rattle.machine.specs.declared.effects.Effects as code
use Rattle.machine.specs.Effects.{Effect, Gives}
use Rattle.machine.specs.Outboxes.{cut_by}
use Rattle.capi.specs.declared.reply.Answer.{Answer}
use Rattle.capi.specs.Answers.{Says, Copied, Fits, Alike, first_of}
use Rattle.capi.specs.Buffers.{Wrote, Row, messages_bytes}
use Rattle.capi.specs.Numbers.{answer_number}
use Rattle.capi.specs.Words.{word_in}

pub none : (bs : List ℕ) → length bs ≡ 0 → bs ≡ []
none [] e = refl
none (b ∷ bs) e = absurd (omega (arith, e))

abbrev cat : List (List ℕ) → List ℕ
cat [] = []
cat (x ∷ xs) = x ++ cat xs

abbrev first : List (List ℕ) → List ℕ
first [] = []
first (x ∷ xs) = x

cut_count : (ns bs : List ℕ) → length (cut_by ns bs) ≡ length ns
unfolding cut_by
cut_count [] bs = refl
cut_count (n ∷ ns) bs = ap (λ (k : ℕ). suc k) (cut_count ns (drop n bs))

-- bytes that are cut, and nothing is left, are those of the pieces
cut_whole : (ns bs : List ℕ) → sum ns ≡ length bs → cat (cut_by ns bs) ≡ bs
unfolding cut_by
cut_whole [] bs e = sym (none bs (sym e))
cut_whole (n ∷ ns) bs e =
    let d : sum ns ≡ length (drop n bs) = omega (arith, e, length-drop n bs, sum_by-cons (λ (x : ℕ). x) n ns) in
    ap (λ (x : List ℕ). take n bs ++ x) (cut_whole ns (drop n bs) d) ∙ take-append-drop n bs

cut_first : (ns bs : List ℕ) (m : Msg) (ms : List Msg) → sum ns ≡ length bs → cut_by ns bs ≡ map layout (m ∷ ms) → first_of ns ≡ length (layout m)
unfolding cut_by
cut_first [] bs m ms s e = absurd (omega (arith, ap (λ (x : List (List ℕ)). length x) e))
cut_first (n ∷ ns) bs m ms s e =
    let l : n ≤ length bs = omega (arith, s, sum_by-cons (λ (x : ℕ). x) n ns) in
    sym (length-take-le n bs l) ∙ ap (λ (x : List (List ℕ)). length (first x)) e

layouts : (ms : List Msg) → cat (map layout ms) ≡ messages_bytes ms
layouts [] = refl
layouts (m ∷ ms) = ap (λ (x : List ℕ). layout m ++ x) (layouts ms)

total : (k : ℕ) (ms : List Msg) → Alike k ms → length (messages_bytes ms) ≡ length ms * k
total k [] h = omega arith
total k (m ∷ ms) h = omega (arith, length-append (layout m) (messages_bytes ms), h.0, total k ms h.1)

product : (ns bs : List ℕ) (ms : List Msg) (k : ℕ) → sum ns ≡ length bs → cut_by ns bs ≡ map layout ms → Alike k ms
    → length ms * first_of ns ≡ length (messages_bytes ms)
product ns bs [] k s e h = omega arith
product ns bs (m ∷ ms) k s e h =
    ap (λ (x : ℕ). length (m ∷ ms) * x) (cut_first ns bs m ms s e ∙ h.0) ∙ sym (total k (m ∷ ms) h)

pub row : (ns bs : List ℕ) (ms : List Msg) (k count size : ℕ) (was is : List ℕ) → sum ns ≡ length bs → cut_by ns bs ≡ map layout ms → Alike k ms
    → count ≡ length ns → size ≡ first_of ns → Wrote bs (length bs) was is → Row ms count size was is
row ns bs ms k count size was is s e h c z w =
    let n : count ≡ length ms = c ∙ sym (cut_count ns bs) ∙ ap (λ (x : List (List ℕ)). length x) e ∙ length-map ms layout in
    let b : bs ≡ messages_bytes ms = sym (cut_whole ns bs s) ∙ ap cat e ∙ layouts ms in
    let p : count * size ≡ length (messages_bytes ms) = ap (λ (x : ℕ). x * size) n ∙ ap (λ (x : ℕ). length ms * x) z ∙ product ns bs ms k s e h in
    let q : length bs ≡ count * size = ap (λ (x : List ℕ). length x) b ∙ sym p in
    (n, (p, w.1 ∙ ap (λ (x : List ℕ). x ++ drop (length bs) was) b ∙ ap (λ (x : ℕ). messages_bytes ms ++ drop x was) q))

-- one record has at most 1,032 bytes
record_size : (o : Owner) (r : Rec) → records.Sound o r → length (records.layout r) ≤ 1032
record_size o (Applied i q n v) h = omega (arith, h.0.1)
record_size o (VoidUpTo i q n) h = omega arith
record_size o (Numbers q a w) h = omega arith

pub one_record : (o : Owner) (rs : List Rec) → AllSound o rs → length rs ≤ 1 → length (bytes_of rs) ≤ 1032
one_record o [] h l = omega arith
one_record o (r ∷ []) h l = omega (arith, length-append (records.layout r) [], record_size o r h.0)
one_record o (r ∷ s ∷ rs) h l = absurd (omega (arith, l))

-- what the host has of a step is what its rules say
pub says : (e : Effect) (o : code.Effects) (r : Result (Unit {0}) Refusal) (a : Answer) (room : ℕ) (fw fi sw si : List ℕ)
    → Gives e o r → sum (vec_items o.sends.sizes) ≡ length (vec_items o.sends.buffer.bytes) → Fits room e → Copied o r a fw fi sw si → Says e a fw fi sw si
says e o r a room fw fi sw si g s f k =
    record {
      number = k.number ∙ ap answer_number g.answer;
      filed = subst (λ (bs : List ℕ). Wrote bs a.reply.«record_size» fw fi) g.records k.filed;
      sent = row (vec_items o.sends.sizes) (vec_items o.sends.buffer.bytes) e.sends f.size _ _ sw si s g.sends f.alike k.count k.size k.sent;
      told = k.told ∙ ap word_in g.tells;
    }

-- its messages have room
pub sends_room : (e : Effect) (o : code.Effects) (r : Result (Unit {0}) Refusal) (room : ℕ) → Gives e o r
    → sum (vec_items o.sends.sizes) ≡ length (vec_items o.sends.buffer.bytes) → Fits room e → length (vec_items o.sends.buffer.bytes) ≤ room
sends_room e o r room g s f =
    let b = sym (cut_whole (vec_items o.sends.sizes) (vec_items o.sends.buffer.bytes) s) ∙ ap cat g.sends ∙ layouts e.sends in
    omega (arith, ap (λ (x : List ℕ). length x) b, f.sends)
