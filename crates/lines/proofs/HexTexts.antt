-- What the digits of a hexadecimal text stand for.
-- Assumes nothing.
use Rattle.std.proofs.Common.{◌≡◌, ℕ, suc, ◌+◌, ◌-◌, ◌*◌, ◌/◌, ◌%◌, ◌<◌, ◌≤◌, true, ◌&&◌, ltb, leb, List, [], ◌∷◌, ◌++◌, length, get_or, take, drop, set, map, is_some, Some, None, Option, unwrap_or, sym, refl, ap, ◌∙◌, arith}
use Rattle.std.proofs.lemmas.List.{at_drop_more, drop_more, drop_all, take_more_set, drop-set-lt, take_rest, append_assoc, append-nil, take-append-drop, take_all, length-set, length-append, length-take}
use Rattle.std.proofs.lemmas.Bool.{cond_both, cond-true, cond-false, leb-true, le-leb, lt-leb, ltb-true, ltb-false, lt-ltb, eq-eqb, and_parts, and_from, and_right}
use Rattle.std.proofs.Math.Seq.{take-append_seam}
use Rattle.std.specs.List.{range_with_len}
use Rattle.std.proofs.lemmas.List.FromFn.{get_or-map-range_with_len}
use Rattle.lines.specs.Hex.{hex_digit, hex_value, all_hex, is_hex, hex_bytes, fronted, hex_letter, hex_text}

between_true : (a b n : ℕ) → (leb a n && leb n b) ≡ true → n ≤ b
between_true a b n e = leb-true n b (and_parts (leb a n) (leb n b) e).1

-- a table of the digits of all bytes, with 255 where there is none, has it for each byte
pub by_table : (xs : List ℕ) → xs ≡ map (λ b. unwrap_or (hex_digit b) 255) (range_with_len 0 256) → (b d : ℕ) → b < 256 → get_or xs b d ≡ unwrap_or (hex_digit b) 255
by_table xs e b d h =
    ap (λ (q : List ℕ). get_or q b d) e ∙ get_or-map-range_with_len (λ x. unwrap_or (hex_digit x) 255) 0 256 b b d h (omega arith)

pub is_digit : (o : Option ℕ) (v : ℕ) → v < 16 → v ≡ unwrap_or o 255 → Some v ≡ o
is_digit None v h e = absurd (omega (arith, e, h))
is_digit (Some w) v h e = ap (λ (n : ℕ). Some n) e

pub no_digit : (o : Option ℕ) (v : ℕ) → 16 ≤ v → v ≡ unwrap_or o 255 → unwrap_or o 0 < 16 → None ≡ o
no_digit None v h e s = refl
no_digit (Some w) v h e s = absurd (omega (arith, e, h, s))

-- a digit is below 16
pub value_small : (b : ℕ) → hex_value b < 16
unfolding hex_value
value_small b =
    let P : Option ℕ → Type 0 = λ o. unwrap_or o 0 < 16 in
    cond_both (leb 48 b && leb b 57) _ _ P (λ e. omega (arith, between_true 48 57 b e))
    (λ _. cond_both (leb 97 b && leb b 102) _ _ P (λ e. omega (arith, between_true 97 102 b e))
    (λ _. cond_both (leb 65 b && leb b 70) _ _ P (λ e. omega (arith, between_true 65 70 b e)) (λ _. omega arith)))

-- a byte for two digits
pub length_bytes : (text : List ℕ) → length (hex_bytes text) ≡ length text / 2
length_bytes [] = refl
length_bytes (h ∷ []) = refl
length_bytes (h ∷ l ∷ text) = omega (arith, length_bytes text)

-- the first i places have their bytes, and the others take those of the digits left
abbrev pub put_on : (out : List ℕ) (i : ℕ) (text : List ℕ) → List ℕ
put_on out i text = take i out ++ fronted (hex_bytes text) (drop i out)

-- two digits and those behind them
pub two_first : (text : List ℕ) → 2 ≤ length text → text ≡ get_or text 0 0 ∷ get_or text 1 0 ∷ take (length text - 2) (drop 2 text)
two_first [] le = absurd (omega arith)
two_first (h ∷ []) le = absurd (omega arith)
two_first (h ∷ l ∷ text) le = ap (λ (q : List ℕ). h ∷ l ∷ q) (sym (take_rest (h ∷ l ∷ text) 2))

-- one byte more is written
pub put_step : (out : List ℕ) (i h l v : ℕ) (left more : List ℕ) → i < length out → left ≡ h ∷ l ∷ more → v ≡ hex_value h * 16 + hex_value l
    → put_on (set out i v) (i + 1) more ≡ put_on out i left
put_step out i h l v left more lt e f =
    ap (λ (front : List ℕ). front ++ fronted (hex_bytes more) (drop (i + 1) (set out i v))) (take_more_set out i v lt)
    ∙ ap (λ (os : List ℕ). (take i out ++ v ∷ []) ++ fronted (hex_bytes more) os) (drop-set-lt (i + 1) out i v (omega arith))
    ∙ append_assoc (take i out) (v ∷ []) (fronted (hex_bytes more) (drop (i + 1) out))
    ∙ ap (λ (x : ℕ). take i out ++ x ∷ fronted (hex_bytes more) (drop (i + 1) out)) f
    ∙ sym (ap (λ (os : List ℕ). take i out ++ fronted (hex_bytes (h ∷ l ∷ more)) os) (drop_more out i 0 lt))
    ∙ ap (put_on out i) (sym e)

-- two more digits are appended
pub text_step : (was mid out bytes : List ℕ) (i h l : ℕ) → i < length bytes → h ≡ hex_letter (get_or bytes i 0 / 16)
    → l ≡ hex_letter (get_or bytes i 0 % 16) → mid ≡ was ++ h ∷ [] → out ≡ mid ++ l ∷ []
    → out ++ hex_text (drop (i + 1) bytes) ≡ was ++ hex_text (drop i bytes)
text_step was mid out bytes i h l lt he le me oe =
    let rest : List ℕ = hex_text (drop (i + 1) bytes) in
    ap (λ (q : List ℕ). q ++ rest) (oe ∙ ap (λ (q : List ℕ). q ++ l ∷ []) me)
    ∙ append_assoc (was ++ h ∷ []) (l ∷ []) rest ∙ append_assoc was (h ∷ []) (l ∷ rest)
    ∙ ap (λ (x : ℕ). was ++ x ∷ l ∷ rest) he ∙ ap (λ (x : ℕ). was ++ hex_letter (get_or bytes i 0 / 16) ∷ x ∷ rest) le
    ∙ sym (at_drop_more (λ (bs : List ℕ). was ++ hex_text bs) bytes i 0 lt)

-- the first i bytes have their digits in front, the digits of the others follow, and behind all there is room for stands what stood there
abbrev pub text_on : (out : List ℕ) (i : ℕ) (bytes : List ℕ) → List ℕ
text_on out i bytes = (take (2 * i) out ++ hex_text (drop i bytes)) ++ drop (2 * length bytes) out

-- the digits of one byte more are written
pub text_put : (out bytes : List ℕ) (i h l : ℕ) → i < length bytes → 2 * length bytes ≤ length out → h ≡ hex_letter (get_or bytes i 0 / 16)
    → l ≡ hex_letter (get_or bytes i 0 % 16) → text_on (set (set out (2 * i) h) (2 * i + 1) l) (i + 1) bytes ≡ text_on out i bytes
text_put out bytes i h l lt room he le =
    let n : ℕ = 2 * length bytes in
    let mid : List ℕ = set out (2 * i) h in
    let new : List ℕ = set mid (2 * i + 1) l in
    let was : List ℕ = take (2 * i) out in
    let next : 2 * (i + 1) ≡ 2 * i + 1 + 1 = omega arith in
    let behind : drop n new ≡ drop n out = drop-set-lt n mid (2 * i + 1) l (omega arith) ∙ drop-set-lt n out (2 * i) h (omega arith) in
    let front : take (2 * (i + 1)) new ≡ (was ++ h ∷ []) ++ l ∷ [] =
    ap (λ (m : ℕ). take m new) next ∙ take_more_set mid (2 * i + 1) l (rw length-set (omega arith)) ∙ ap (λ (q : List ℕ). q ++ l ∷ []) (take_more_set out (2 * i) h (omega arith)) in
    ap (λ (q : List ℕ). q ++ drop n new)
    (ap (λ (q : List ℕ). q ++ hex_text (drop (i + 1) bytes)) front ∙ text_step was (was ++ h ∷ []) ((was ++ h ∷ []) ++ l ∷ []) bytes i h l lt he le refl refl)
    ∙ ap (λ (q : List ℕ). (was ++ hex_text (drop i bytes)) ++ q) behind

-- all digits are written
pub text_done : (out bytes : List ℕ) (i : ℕ) → i ≡ length bytes → text_on out i bytes ≡ out
text_done out bytes i e =
    ap (λ (q : List ℕ). (take (2 * i) out ++ hex_text q) ++ drop (2 * length bytes) out) (drop_all i bytes (omega (arith, e)))
    ∙ ap (λ (q : List ℕ). q ++ drop (2 * length bytes) out) (append-nil (take (2 * i) out))
    ∙ ap (λ (m : ℕ). take (2 * m) out ++ drop (2 * length bytes) out) e ∙ take-append-drop (2 * length bytes) out

-- some places of a list are written over from a place on to its end, where the list is one of so many places
pub tail_written : (items all text post : List ℕ) (start size : ℕ) → all ≡ items → size ≡ length items → start + length text ≡ length items → post ≡ []
    → take size ((take start all ++ (text ++ post)) ++ drop (length (take start all ++ (text ++ post))) items) ≡ take start items ++ text
tail_written items all text post start size e s l p =
    let new : List ℕ = take start items ++ text in
    let full : length new ≡ length items = omega (arith, length-append (take start items) text, length-take start items, l) in
    rw e (rw p (rw (append-nil text) (rw (drop_all (length new) items (omega (arith, full))) (rw (append-nil new) (take_all size new (omega (arith, full, s)))))))

-- a list that was filled up begins with what it was
pub filled_up : (was new more : List ℕ) (start size : ℕ) → new ≡ take size was ++ more → start ≡ length was → start ≤ size → take start new ≡ was
filled_up was new more start size e s l =
    rw e (rw (take_all size was (omega (arith, s, l))) (rw s (take-append_seam was more)))

-- a letter is the digit that it was written for
letter_back : (v : ℕ) → v < 16 → hex_digit (hex_letter v) ≡ Some v
letter_back v lt =
    cond_both (ltb v 10) (v + 48) (v + 87) (λ x. hex_digit x ≡ Some v)
    (λ e.
    let s : v < 10 = ltb-true v 10 e in
    let back : v + 48 - 48 ≡ v = omega arith in
    cond-true (leb 48 (v + 48) && leb (v + 48) 57) _ _ (and_from _ _ (le-leb 48 (v + 48) (omega arith)) (le-leb (v + 48) 57 (omega arith))) ∙ ap (λ (n : ℕ). Some n) back)
    (λ e.
    let s : 10 ≤ v = ltb-false v 10 e in
    let back : v + 87 - 87 ≡ v = omega arith in
    cond-false (leb 48 (v + 87) && leb (v + 87) 57) _ _ (and_right _ _ (lt-leb (v + 87) 57 (omega arith)))
    ∙ cond-true (leb 97 (v + 87) && leb (v + 87) 102) _ _ (and_from _ _ (le-leb 97 (v + 87) (omega arith)) (le-leb (v + 87) 102 (omega arith))) ∙ ap (λ (n : ℕ). Some n) back)

value_back : (v : ℕ) → v < 16 → hex_value (hex_letter v) ≡ v
unfolding hex_value
value_back v lt = ap (λ (o : Option ℕ). unwrap_or o 0) (letter_back v lt)

-- what is written of bytes is read back
pub bytes_back : (bs : List ℕ) → ((i : ℕ) → get_or bs i 0 < 256) → hex_bytes (hex_text bs) ≡ bs
bytes_back [] h = refl
bytes_back (b ∷ bs) h =
    let lt : b < 256 = h 0 in
    let hi : hex_value (hex_letter (b / 16)) ≡ b / 16 = value_back (b / 16) (omega arith) in
    let lo : hex_value (hex_letter (b % 16)) ≡ b % 16 = value_back (b % 16) (omega arith) in
    let e : hex_value (hex_letter (b / 16)) * 16 + hex_value (hex_letter (b % 16)) ≡ b = omega arith in
    let rest = bytes_back bs (λ i. h (suc i)) in
    cc

text_digits : (bs : List ℕ) → ((i : ℕ) → get_or bs i 0 < 256) → all_hex (hex_text bs) ≡ true
text_digits [] h = refl
text_digits (b ∷ bs) h =
    let lt : b < 256 = h 0 in
    and_from _ _ (ap (λ (o : Option ℕ). is_some o) (letter_back (b / 16) (omega arith)))
    (and_from _ _ (ap (λ (o : Option ℕ). is_some o) (letter_back (b % 16) (omega arith))) (text_digits bs (λ i. h (suc i))))

pub length_text : (bs : List ℕ) → length (hex_text bs) ≡ 2 * length bs
length_text [] = refl
length_text (b ∷ bs) = omega (arith, length_text bs)

-- what is written of bytes is hexadecimal text
pub text_is_hex : (bs : List ℕ) → ((i : ℕ) → get_or bs i 0 < 256) → 0 < length bs → is_hex (hex_text bs) ≡ true
unfolding is_hex
text_is_hex bs h some =
    and_from _ _ (lt-ltb 0 (length (hex_text bs)) (omega (arith, length_text bs)))
    (and_from _ _ (eq-eqb (length (hex_text bs) % 2) 0 (omega (arith, length_text bs))) (text_digits bs h))
