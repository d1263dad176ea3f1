-- A number read digit by digit is the number that the text stands for.
-- Assumes nothing.
use Rattle.std.proofs.Common.{◌≡◌, ℕ, ◌+◌, ◌-◌, ◌*◌, ◌^◌, ◌<◌, ◌≤◌, Bool, true, cond, ◌&&◌, ltb, List, [], ◌∷◌, length, get_or, drop, Some, None, decimal, Option, sym, ap, ◌∙◌, inl, inr, arith, rules}
use Rattle.std.proofs.lemmas.Fmt.{decimal_nonempty, digits_decimal, digits_value-decimal}
use Rattle.std.proofs.lemmas.Str.Parse.{IsNumeralModel, numerals_by_fold}
use Rattle.std.proofs.lemmas.List.{at_drop_more, nil_from_length}
use Rattle.std.proofs.lemmas.Bool.{cond_both, cond-true, cond-false, lt-ltb, le-ltb, ltb-true, ltb-false, and_left, and_right, and_parts, and_from, and_cases}
use Rattle.lines.specs.Chains.{and_then}
use Rattle.lines.specs.Decimals.{is_digit, all_digits, value_after, appended, is_number, digits_value, number_of}

-- the number read from the digits after a number, digit by digit
abbrev pub read_on : ℕ → List ℕ → Option ℕ
read_on n [] = Some n
read_on n (b ∷ bs) = and_then (appended n b) (λ m. read_on m bs)

grows : (n : ℕ) (bs : List ℕ) → n ≤ value_after n bs
grows n [] = omega arith
grows n (b ∷ bs) = omega (arith, grows (n * 10 + (b - 48)) bs)

-- what reading gives
abbrev fits : ℕ → List ℕ → Bool
fits n bs = all_digits bs && ltb (value_after n bs) (2 ^ 64)

abbrev wanted : ℕ → List ℕ → Option ℕ
wanted n bs = cond (fits n bs) (Some (value_after n bs)) None

pub read_is : (n : ℕ) (bs : List ℕ) → n < 2 ^ 64 → read_on n bs ≡ wanted n bs
read_is n [] l = sym (cond-true (fits n []) (Some n) None (lt-ltb n (2 ^ 64) l))
read_is n (b ∷ bs) l =
    let m : ℕ = n * 10 + (b - 48) in
    cond_both (is_digit b && ltb m (2 ^ 64)) (Some m) None (λ (o : Option ℕ). and_then o (λ k. read_on k bs) ≡ wanted n (b ∷ bs))
    (λ e. let p = and_parts (is_digit b) (ltb m (2 ^ 64)) e in
    read_is m bs (ltb-true m (2 ^ 64) p.1) ∙ ap (λ (t : Bool). cond (t && all_digits bs && ltb (value_after m bs) (2 ^ 64)) (Some (value_after m bs)) None) (sym p.0))
    (λ e. elim (and_cases (is_digit b) (ltb m (2 ^ 64)) e) [
      | inl h ↦ sym (cond-false (fits n (b ∷ bs)) _ None (and_left (all_digits (b ∷ bs)) _ (and_left (is_digit b) (all_digits bs) h)))
      | inr h ↦ sym (cond-false (fits n (b ∷ bs)) _ None (and_right (all_digits (b ∷ bs)) _ (le-ltb _ _ (omega (arith, ltb-false m (2 ^ 64) h, grows m bs)))))
    ])

-- reading a text from the start gives the number that it stands for
pub read_number : (bs : List ℕ) → 0 < length bs → read_on 0 bs ≡ number_of bs
unfolding number_of
read_number [] h = absurd (omega arith)
read_number (b ∷ bs) h = read_is 0 (b ∷ bs) (omega arith)

pub no_number : (bs : List ℕ) → length bs ≡ 0 → number_of bs ≡ None
unfolding number_of
no_number bs h = ap number_of (nil_from_length bs h)

-- one digit on
pub read_step : (n : ℕ) (o : Option ℕ) (bs : List ℕ) (i : ℕ) → i < length bs → o ≡ appended n (get_or bs i 0)
    → and_then o (λ m. read_on m (drop (i + 1) bs)) ≡ read_on n (drop i bs)
read_step n o bs i h e =
    ap (λ (p : Option ℕ). and_then p (λ m. read_on m (drop (i + 1) bs))) e ∙ sym (at_drop_more (read_on n) bs i 0 h)

-- the digits and their value are those of std
own : IsNumeralModel (λ (bs : List ℕ). all_digits bs ≡ true) (value_after 0)
own = numerals_by_fold _ (search rules) value_after (search rules)

is_some_number : (bs : List ℕ) → 0 < length bs → all_digits bs ≡ true → digits_value bs < 2 ^ 64 → number_of bs ≡ Some (digits_value bs)
unfolding number_of
is_some_number [] some all lt = absurd (omega arith)
is_some_number (b ∷ bs) some all lt =
    cond-true (is_number (b ∷ bs)) _ None (and_from (all_digits (b ∷ bs)) _ all (lt-ltb (digits_value (b ∷ bs)) (2 ^ 64) lt))

-- what is printed of a number is read back
pub decimal_back : (n : ℕ) → n < 2 ^ 64 → number_of (decimal n) ≡ Some n
decimal_back n lt =
    let e : digits_value (decimal n) ≡ n = digits_value-decimal own n lt in
    is_some_number (decimal n) (decimal_nonempty n lt) (digits_decimal own n lt) (omega arith) ∙ ap (λ (k : ℕ). Some k) e
