-- Where the first mark of a text stands, and what is before and behind it.
-- Assumes nothing.
use Rattle.std.proofs.Common.{◌≡◌, ℕ, suc, ◌+◌, ◌-◌, ◌<◌, ◌≤◌, Bool, true, false, cond, eqb, ltb, List, [], ◌∷◌, ◌++◌, length, take, drop, Some, None, Option, MatchOption, subst, sym, refl, ap, ◌∙◌, arith, one-add}
use Rattle.std.proofs.lemmas.List.Recursion.{is_position_or_len}
use Rattle.std.specs.List.{position, position_or_len}
use Rattle.std.proofs.lemmas.List.{take_rest, take-append-drop, length-append, length-take-le}
use Rattle.std.proofs.lemmas.Bool.{cond_both, ltb-true, ltb-false}
use Rattle.lines.specs.Words.{before, behind, words, words_left, in_front}

-- what is before the mark, by its length
pub before_is : (m : ℕ) (text : List ℕ) → take (length (before m text)) text ≡ before m text
before_is m [] = refl
before_is m (b ∷ bs) =
    cond_both (eqb b m) [] (b ∷ before m bs) (λ (q : List ℕ). take (length q) (b ∷ bs) ≡ q) (λ e. refl)
    (λ e. ap (λ (q : List ℕ). b ∷ q) (before_is m bs))

pub before_within : (m : ℕ) (text : List ℕ) → length (before m text) ≤ length text
before_within m [] = omega arith
before_within m (b ∷ bs) =
    cond_both (eqb b m) [] (b ∷ before m bs) (λ (q : List ℕ). length q ≤ length (b ∷ bs)) (λ e. omega arith)
    (λ e. omega (arith, before_within m bs))

-- what is behind the mark, where there is one
pub behind_some : (m : ℕ) (text : List ℕ) → length (before m text) < length text → Some (drop (length (before m text) + 1) text) ≡ behind m text
behind_some m [] h = absurd (omega arith)
behind_some m (b ∷ bs) h =
    let P : Bool → Type 0 = λ t. length (cond t [] (b ∷ before m bs)) < length (b ∷ bs)
    → Some (drop (length (cond t [] (b ∷ before m bs)) + 1) (b ∷ bs)) ≡ cond t (Some bs) (behind m bs) in
    let k : ℕ = length (before m bs) in
    let e : suc k + 1 ≡ suc (k + 1) = omega arith in
    (elim (eqb b m) as P [
      | true ↦ λ l. refl
      | false ↦ λ l. ap (λ (n : ℕ). Some (drop n (b ∷ bs))) e ∙ behind_some m bs (omega arith)
    ]) h

pub behind_none : (m : ℕ) (text : List ℕ) → length text ≤ length (before m text) → None ≡ behind m text
behind_none m [] h = refl
behind_none m (b ∷ bs) h =
    let P : Bool → Type 0 = λ t. length (b ∷ bs) ≤ length (cond t [] (b ∷ before m bs)) → None ≡ cond t (Some bs) (behind m bs) in
    (elim (eqb b m) as P [ true ↦ λ l. absurd (omega arith) | false ↦ λ l. behind_none m bs (omega arith) ]) h

-- where the first mark stands
at_mark : (m : ℕ) (text : List ℕ) → length (before m text) ≡ position_or_len (λ b. eqb b m) text
at_mark m text =
    is_position_or_len (λ q. length (before m q)) (λ b. eqb b m) refl
    (λ b bs.
    let P : Bool → Type 0 = λ t. length (cond t [] (b ∷ before m bs)) ≡ cond t 0 (1 + length (before m bs)) in
    elim (eqb b m) as P [ true ↦ refl | false ↦ sym (one-add (length (before m bs))) ]) text

found_at : (m : ℕ) (text : List ℕ) → MatchOption (position (λ b. eqb b m) text) (behind m text ≡ None) (λ i. (i ≡ length (before m text)) × (i < length text))
found_at m text =
    let k : ℕ = position_or_len (λ b. eqb b m) text in
    cond_both (ltb k (length text)) (Some k) None (λ o. MatchOption o (behind m text ≡ None) (λ i. (i ≡ length (before m text)) × (i < length text)))
    (λ e. (sym (at_mark m text), ltb-true k (length text) e))
    (λ e. sym (behind_none m text (omega (arith, at_mark m text, ltb-false k (length text) e))))

pub found : (m i : ℕ) (text : List ℕ) → Some i ≡ position (λ b. eqb b m) text → (i ≡ length (before m text)) × (i < length text)
found m i text e =
    subst (λ (o : Option ℕ). MatchOption o (behind m text ≡ None) (λ k. (k ≡ length (before m text)) × (k < length text))) (sym e) (found_at m text)

pub not_found : (m : ℕ) (text : List ℕ) → None ≡ position (λ b. eqb b m) text → behind m text ≡ None
not_found m text e =
    subst (λ (o : Option ℕ). MatchOption o (behind m text ≡ None) (λ k. (k ≡ length (before m text)) × (k < length text))) (sym e) (found_at m text)

-- the first word, and the words of what is left
pub words_split : (text : List ℕ) → words text ≡ before 32 text ∷ words_left (behind 32 text)
words_split [] = refl
words_split (b ∷ bs) =
    let P : Bool → Type 0 = λ t. cond t ([] ∷ words bs) (in_front b (words bs))
    ≡ cond t [] (b ∷ before 32 bs) ∷ words_left (cond t (Some bs) (behind 32 bs)) in
    elim (eqb b 32) as P [ true ↦ refl | false ↦ ap (in_front b) (words_split bs) ]

pub words_by : (text w : List ℕ) (o : Option (List ℕ)) → w ≡ before 32 text → o ≡ behind 32 text → words text ≡ w ∷ words_left o
words_by text w o e f =
    words_split text ∙ ap (λ (q : List ℕ). q ∷ words_left (behind 32 text)) (sym e) ∙ ap (λ (p : Option (List ℕ)). w ∷ words_left p) (sym f)

-- the slices before and behind a mark at k
pub slice_before : (m k : ℕ) (text : List ℕ) → k ≡ length (before m text) → take k text ≡ before m text
slice_before m k text e = ap (λ (n : ℕ). take n text) e ∙ before_is m text

pub slice_behind : (m k : ℕ) (text : List ℕ) → k ≡ length (before m text) → k < length text
    → Some (take (length text - (k + 1)) (drop (k + 1) text)) ≡ behind m text
slice_behind m k text e h =
    ap (λ (q : List ℕ). Some q) (take_rest text (k + 1)) ∙ ap (λ (n : ℕ). Some (drop (n + 1) text)) e ∙ behind_some m text (omega arith)

pub all_before : (m : ℕ) (text : List ℕ) → behind m text ≡ None → text ≡ before m text
all_before m [] h = refl
all_before m (b ∷ bs) h =
    let P : Bool → Type 0 = λ t. cond t (Some bs) (behind m bs) ≡ None → b ∷ bs ≡ cond t [] (b ∷ before m bs) in
    (elim (eqb b m) as P [ true ↦ λ e. cc | false ↦ λ e. ap (λ (q : List ℕ). b ∷ q) (all_before m bs e) ]) h

-- bytes without a mark stand before what follows
pub before_clean : (m : ℕ) (xs ys : List ℕ) → behind m xs ≡ None → before m (xs ++ ys) ≡ xs ++ before m ys
before_clean m [] ys h = refl
before_clean m (b ∷ bs) ys h =
    let P : Bool → Type 0 = λ t. cond t (Some bs) (behind m bs) ≡ None → cond t [] (b ∷ before m (bs ++ ys)) ≡ b ∷ (bs ++ before m ys) in
    (elim (eqb b m) as P [
      | true ↦ λ e. cc
      | false ↦ λ e. ap (λ (q : List ℕ). b ∷ q) (before_clean m bs ys e)
    ]) h

-- the end of the first line, where the search begins behind bytes without a mark
pub end_clean : (m seen k : ℕ) (text : List ℕ) → seen ≤ length text → behind m (take seen text) ≡ None
    → k ≡ length (before m (take (length text - seen) (drop seen text))) → seen + k ≡ length (before m text)
end_clean m seen k text h clean e =
    let whole : before m text ≡ take seen text ++ before m (drop seen text) =
    ap (before m) (sym (take-append-drop seen text)) ∙ before_clean m (take seen text) (drop seen text) clean in
    let long = ap length whole ∙ length-append (take seen text) (before m (drop seen text)) in
    let k_is : k ≡ length (before m (drop seen text)) = e ∙ ap (λ (q : List ℕ). length (before m q)) (take_rest text seen) in
    omega (arith, long, length-take-le seen text h)

behind_clean : (m : ℕ) (xs ys : List ℕ) → behind m xs ≡ None → behind m ys ≡ None → behind m (xs ++ ys) ≡ None
behind_clean m [] ys h k = k
behind_clean m (b ∷ bs) ys h k =
    let P : Bool → Type 0 = λ t. cond t (Some bs) (behind m bs) ≡ None → cond t (Some (bs ++ ys)) (behind m (bs ++ ys)) ≡ None in
    (elim (eqb b m) as P [ true ↦ λ e. cc | false ↦ λ e. behind_clean m bs ys e k ]) h

-- no line ends in a text whose first bytes have no mark, nor those behind them
pub none_clean : (m seen : ℕ) (text : List ℕ) → behind m (take seen text) ≡ None → behind m (take (length text - seen) (drop seen text)) ≡ None → behind m text ≡ None
none_clean m seen text h k =
    ap (behind m) (sym (take-append-drop seen text)) ∙ behind_clean m (take seen text) (drop seen text) h (ap (behind m) (sym (take_rest text seen)) ∙ k)
