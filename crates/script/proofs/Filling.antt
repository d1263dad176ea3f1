-- The places that numbers are read into, one after another.
-- Assumes nothing.
use Rattle.std.proofs.Common.{◌≡◌, ℕ, ◌+◌, ◌<◌, Bool, true, false, not, List, [], ◌∷◌, ◌++◌, length, take, drop, set, is_some, Some, None, Option, sym, refl, ap, ◌∙◌, arith, Bor}
use Rattle.std.specs.Option.{option_map}
use Rattle.std.proofs.lemmas.List.{drop_more, drop-set-lt, take_more_set, append_assoc}
use Rattle.std.proofs.lemmas.Bool.{true≢false, false≢true}
use Rattle.lines.specs.Chains.{and_then}
use Rattle.lines.specs.Decimals.{number_of}
use Rattle.lines.specs.Words.{rest_words}
use Rattle.script.specs.Scripts.{fill_of, ended}
use Rattle.lines.proofs.Splits.{words_split}

-- the first i places have their numbers, and the others take those of the words left
abbrev pub filled : List ℕ → ℕ → List (List ℕ) → Option (List ℕ)
filled out i ws = option_map (λ (q : List ℕ). take i out ++ q) (fill_of ws (drop i out))

mapped_more : (o : Option (List ℕ)) (front : List ℕ) (n : ℕ)
    → option_map (λ (q : List ℕ). (front ++ n ∷ []) ++ q) o ≡ option_map (λ (q : List ℕ). front ++ q) (option_map (λ (q : List ℕ). n ∷ q) o)
mapped_more None front n = refl
mapped_more (Some xs) front n = ap (λ (q : List ℕ). Some q) (append_assoc front (n ∷ []) xs)

-- the next word at the next place
filled_at : (out : List ℕ) (i : ℕ) (w : List ℕ) (ws : List (List ℕ)) → i < length out
    → filled out i (w ∷ ws) ≡ option_map (λ (q : List ℕ). take i out ++ q) (and_then (number_of w) (λ n. option_map (λ (q : List ℕ). n ∷ q) (fill_of ws (drop (i + 1) out))))
filled_at out i w ws h = ap (λ (os : List ℕ). option_map (λ (q : List ℕ). take i out ++ q) (fill_of (w ∷ ws) os)) (drop_more out i 0 h)

-- one number more
pub filled_step : (out : List ℕ) (i n : ℕ) (w : List ℕ) (left ws : List (List ℕ)) → i < length out → left ≡ w ∷ ws → Some n ≡ number_of w
    → filled (set out i n) (i + 1) ws ≡ filled out i left
filled_step out i n w left ws h e f =
    ap (λ (front : List ℕ). option_map (λ (q : List ℕ). front ++ q) (fill_of ws (drop (i + 1) (set out i n)))) (take_more_set out i n h)
    ∙ ap (λ (os : List ℕ). option_map (λ (q : List ℕ). (take i out ++ n ∷ []) ++ q) (fill_of ws os)) (drop-set-lt (i + 1) out i n (omega arith))
    ∙ mapped_more (fill_of ws (drop (i + 1) out)) (take i out) n
    ∙ ap (λ (o : Option ℕ). option_map (λ (q : List ℕ). take i out ++ q) (and_then o (λ m. option_map (λ (q : List ℕ). m ∷ q) (fill_of ws (drop (i + 1) out))))) f
    ∙ sym (filled_at out i w ws h) ∙ ap (filled out i) (sym e)

-- a text has a word, so no word is left only where no text is
pub over_is : (rest : Option (Bor (List ℕ))) (r : Bool) → is_some rest ≡ not r → r ≡ ended (rest_words rest)
over_is None true e = refl
over_is None false e = absurd (false≢true e)
over_is (Some text) true e = absurd (true≢false e)
over_is (Some text) false e = sym (ap ended (words_split text.now))
