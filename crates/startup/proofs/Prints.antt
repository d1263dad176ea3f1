-- Messages that are printed one behind another.
use Rattle.std.proofs.Common.{◌≡◌, ℕ, ◌+◌, ◌<◌, ◌≤◌, min, List, ◌++◌, length, get_or, take, drop, sym, ap, ◌∙◌, append_assoc, append-nil, add-one, arith, refl}
use Rattle.std.proofs.Math.Seq.{drop-cons}
use Rattle.std.proofs.lemmas.List.{take_min, drop_all}
use Rattle.std.proofs.lemmas.Grind.{common_steps}
use Rattle.machine.specs.Outboxes.{cut_by}
use Rattle.startup.specs.Prints.{sent_text, sends_text}

drop_min : (n : ℕ) (xs : List ℕ) → drop (min n (length xs)) xs ≡ drop n xs
drop_min n xs = grind (arith, common_steps, drop_all)

next_cut : (ns : List ℕ) (i : ℕ) (rest : List ℕ) → i < length ns
    → sends_text (cut_by (drop i ns) rest) ≡ sent_text (take (get_or ns i 0) rest) ++ sends_text (cut_by (drop (i + 1) ns) (drop (get_or ns i 0) rest))
unfolding cut_by
next_cut ns i rest h = rw (drop-cons ns i 0 h, add-one i) refl

-- the first message of the rest is printed
pub one_sent : (ns : List ℕ) (i k : ℕ) (rest front back was is : List ℕ) → i < length ns → k ≡ min (get_or ns i 0) (length rest)
    → front ≡ take k rest → back ≡ drop k rest → is ≡ was ++ sent_text front
    → is ++ sends_text (cut_by (drop (i + 1) ns) back) ≡ was ++ sends_text (cut_by (drop i ns) rest)
one_sent ns i k rest front back was is h e f b p =
    let n = get_or ns i 0 in
    let front : front ≡ take n rest = f ∙ ap (λ j. take j rest) e ∙ take_min n rest in
    let back : back ≡ drop n rest = b ∙ ap (λ j. drop j rest) e ∙ drop_min n rest in
    rw (p, front, back, next_cut ns i rest h) (append_assoc was (sent_text (take n rest)) (sends_text (cut_by (drop (i + 1) ns) (drop n rest))))

-- no message is left
pub all_sent : (ns : List ℕ) (i : ℕ) (rest is : List ℕ) → length ns ≤ i → is ≡ is ++ sends_text (cut_by (drop i ns) rest)
unfolding cut_by
all_sent ns i rest is h = sym (append-nil is) ∙ ap (λ (ms : List ℕ). is ++ sends_text (cut_by ms rest)) (sym (drop_all i ns h))
