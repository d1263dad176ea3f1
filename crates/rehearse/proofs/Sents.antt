-- The messages that are still to be printed, one after another.
-- Assumes nothing.
use Rattle.std.proofs.Common.{◌≡◌, ℕ, ◌+◌, ◌<◌, ◌≤◌, List, [], length, drop, get_or, sym, ap, ◌∙◌}
use Rattle.std.proofs.lemmas.List.{at_drop_more, drop_all}
use native.Mathlib.Numerals.{add-one}
use Rattle.message.specs.Reading.{read}
use Rattle.rehearse.specs.Prints.{sent_behind, sents_behind}

-- from this one on, of all that were sent
abbrev pub left : (w : List ℕ) (ms : List (List ℕ)) (i : ℕ) → List ℕ
left w ms i = sents_behind w i (drop i ms)

pub one_more : (w x y : List ℕ) (ms : List (List ℕ)) (i : ℕ) → i < length ms → x ≡ sent_behind w i (read (get_or ms i [])) → left w ms i ≡ y → left x ms (i + 1) ≡ y
one_more w x y ms i l e inv =
    ap (λ (z : List ℕ). left z ms (i + 1)) e ∙ ap (λ (n : ℕ). sents_behind (sent_behind w i (read (get_or ms i []))) n (drop (i + 1) ms)) (add-one i)
    ∙ sym (at_drop_more (sents_behind w i) ms i [] l) ∙ inv

pub none_left : (w y : List ℕ) (ms : List (List ℕ)) (i : ℕ) → length ms ≤ i → left w ms i ≡ y → w ≡ y
none_left w y ms i l inv = sym (ap (sents_behind w i) (drop_all i ms l)) ∙ inv
