-- What a stop leaves of several records that were being appended.
use Rattle.std.proofs.Common.{◌≡◌, ℕ, ◌+◌, ◌-◌, ◌<◌, ◌≤◌, ltb, List, [], ◌∷◌, ◌++◌, length, take, ap, ◌∙◌, arith}
use Rattle.std.proofs.Math.Seq.{take-append-add}
use Rattle.std.proofs.lemmas.Grind.{common_steps}
use Rattle.std.proofs.lemmas.Bool.{cond_both, ltb-true, ltb-false}
use Rattle.journal.specs.declared.record.Owner.{Owner}
use Rattle.journal.specs.Records.{Rec, layout, AllSound, bytes_of, records_of}
use Rattle.journal.specs.Laws.{whole_in, StopLeavesFirst}
use Rattle.journal.proofs.Parses.{torn_none}
use Rattle.journal.proofs.Journals.{step, none, read_back, torn_leaves}

cut_in : (xs ys : List ℕ) (k : ℕ) → k < length xs → take k (xs ++ ys) ≡ take k xs
cut_in xs ys k l = grind (arith, common_steps)

cut_past : (xs ys : List ℕ) (k : ℕ) → length xs ≤ k → take k (xs ++ ys) ≡ xs ++ take (k - length xs) ys
cut_past xs ys k l =
    let e : k ≡ length xs + (k - length xs) = omega arith in ap (λ (n : ℕ). take n (xs ++ ys)) e ∙ take-append-add xs ys (k - length xs)

none_cut : (k : ℕ) → take {A = ℕ} k [] ≡ []
none_cut k = grind (arith, common_steps)

first_whole : (o : Owner) (more : List Rec) → AllSound o more → (k : ℕ) → records_of o (take k (bytes_of more)) ≡ whole_in k more
first_whole o [] s k = ap (records_of o) (none_cut k) ∙ none o [] (torn_none o [] tt)
first_whole o (r ∷ rs) s k =
    let n : ℕ = length (layout r) in
    cond_both (ltb k n) [] (r ∷ whole_in (k - n) rs) (λ q. records_of o (take k (layout r ++ bytes_of rs)) ≡ q)
    (λ e. ap (records_of o) (cut_in (layout r) (bytes_of rs) k (ltb-true k n e)) ∙ (torn_leaves o [] tt r s.0 k (ltb-true k n e)).0)
    (λ e. ap (records_of o) (cut_past (layout r) (bytes_of rs) k (ltb-false k n e)) ∙ step o r s.0 (take (k - n) (bytes_of rs))
    ∙ ap (λ (xs : List Rec). r ∷ xs) (first_whole o rs s.1 (k - n)))

pub stop_leaves_first : StopLeavesFirst
stop_leaves_first o rs more s t k =
    read_back o rs s (take k (bytes_of more)) ∙ ap (λ (xs : List Rec). rs ++ xs) (first_whole o more t k)
