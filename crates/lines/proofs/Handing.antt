-- What is handed out of the bytes that were read, and what is left.
-- Assumes nothing.
use Rattle.std.proofs.Common.{◌≡◌, ℕ, ◌+◌, ◌-◌, ◌<◌, ◌≤◌, true, false, List, [], ◌++◌, length, take, drop, is_some, Some, None, MatchOption, Option, unwrap_or, sym, refl, ap, ◌∙◌, subst, arith}
use Rattle.std.proofs.lemmas.List.{drop-drop, take_all, take_at, length-drop, length-append, append_assoc, append-nil, nil_from_length}
use Rattle.std.proofs.lemmas.Bool.{true≢false, false≢true}
use Rattle.std.specs.Io.KnownBytes.{Consumes, IsAtEnd}
use Rattle.lines.specs.Words.{before, behind}
use Rattle.lines.specs.Inputs.{Handed, Over, HandedOut}
use Rattle.lines.specs.declared.input.Line.{Line}
use Rattle.lines.specs.declared.input.Line.TheVariants.{Whole, Cut}
use Rattle.lines.proofs.Splits.{before_is, behind_some}

module _ (held : List ℕ) (next size : ℕ) (is : size ≡ length (before 10 (drop next held))) where
  pub found : size < length (drop next held) → true ≡ is_some (behind 10 (drop next held))
  found h = ap (λ (o : Option (List ℕ)). is_some o) (behind_some 10 (drop next held) (omega arith))

  pub line : take (next + size - next) (drop next held) ≡ before 10 (drop next held)
  line =
      let e : next + size - next ≡ length (before 10 (drop next held)) = omega arith in
      ap (λ (k : ℕ). take k (drop next held)) e ∙ before_is 10 (drop next held)

  pub after : size < length (drop next held) → drop (next + size + 1) held ≡ unwrap_or (behind 10 (drop next held)) (drop next held)
  after h =
      let e : next + size + 1 ≡ next + (length (before 10 (drop next held)) + 1) = omega arith in
      ap (λ (k : ℕ). drop k held) e ∙ sym (drop-drop (length (before 10 (drop next held)) + 1) next held)
      ∙ ap (λ (o : Option (List ℕ)). unwrap_or o (drop next held)) (behind_some 10 (drop next held) (omega arith))

-- all that is left
pub rest_line : (held : List ℕ) (next n : ℕ) → n ≡ length held → take (n - next) (drop next held) ≡ drop next held
rest_line held next n e = take_all (n - next) (drop next held) (omega (arith, length-drop next held))

-- bytes that came behind those that were there, of which the first hold no newline
pub record Reading (was all : List ℕ) (input_was input_is : Option (List ℕ)) (seen : ℕ) : Type 0 where
  pub got : List ℕ
  pub taken : Consumes input_was input_is got
  pub grown : all ≡ was ++ got
  pub within : seen ≤ length all
  pub clean : behind 10 (take seen all) ≡ None

pub taken_none : (x : Option (List ℕ)) → Consumes x x []
taken_none None = tt
taken_none (Some xs) = refl

pub taken_more : (x y z : Option (List ℕ)) (us vs : List ℕ) → Consumes x y us → Consumes y z vs → Consumes x z (us ++ vs)
taken_more None y z us vs a b = tt
taken_more (Some xs) None z us vs a b = absurd a
taken_more (Some xs) (Some ys) None us vs a b = absurd b
taken_more (Some xs) (Some ys) (Some zs) us vs a b = a ∙ ap (λ (q : List ℕ). us ++ q) b ∙ sym (append_assoc us vs zs)

pub reading_start : (was : List ℕ) (x : Option (List ℕ)) → Reading was was x x 0
reading_start was x = record { got = []; taken = taken_none x; grown = sym (append-nil was); within = omega arith; clean = refl }

none_of : (o : Option (List ℕ)) → false ≡ is_some o → o ≡ None
none_of None e = refl
none_of (Some xs) e = absurd (false≢true e)

some_of : (o : Option (List ℕ)) (xs left : List ℕ) → true ≡ is_some o → left ≡ unwrap_or o xs → Some left ≡ o
some_of None xs left e l = absurd (true≢false e)
some_of (Some ys) xs left e l = ap (λ (q : List ℕ). Some q) l

-- what is left where no line was handed out
left_same : (all mid : List ℕ) → false ≡ is_some (behind 10 all) → mid ≡ unwrap_or (behind 10 all) all → mid ≡ all
left_same all mid none e = e ∙ ap (λ (o : Option (List ℕ)). unwrap_or o all) (none_of (behind 10 all) none)

-- more was read behind bytes without a newline
pub reading_more : (was all mid more next : List ℕ) (x y z : Option (List ℕ)) (seen n : ℕ) → Reading was all x y seen → false ≡ is_some (behind 10 all)
    → mid ≡ unwrap_or (behind 10 all) all → n ≡ length mid → next ≡ mid ++ more → Consumes y z more → Reading was next x z n
reading_more was all mid more next x y z seen n r none m e g t =
    let same : mid ≡ all = left_same all mid none m in
    let grown : next ≡ all ++ more = g ∙ ap (λ (q : List ℕ). q ++ more) same in
    let long : length all ≡ n = ap length (sym same) ∙ sym e in
    record {
      got = r.got ++ more;
      taken = taken_more x y z r.got more r.taken t;
      grown = grown ∙ ap (λ (q : List ℕ). q ++ more) r.grown ∙ append_assoc was r.got more;
      within = omega (arith, ap length grown, length-append all more);
      clean =
          ap (λ (q : List ℕ). behind 10 (take n q)) grown ∙ ap (λ (q : List ℕ). behind 10 q) (take_at all more n long)
          ∙ none_of (behind 10 all) none;
    }

-- nothing more was read
pub reading_over : (all mid more next : List ℕ) → false ≡ is_some (behind 10 all) → mid ≡ unwrap_or (behind 10 all) all
    → length more ≡ 0 → next ≡ mid ++ more → None ≡ behind 10 next
reading_over all mid more next none m z g =
    let same : next ≡ all =
    g ∙ ap (λ (q : List ℕ). mid ++ q) (nil_from_length more z) ∙ append-nil mid ∙ left_same all mid none m in
    sym (ap (λ (q : List ℕ). behind 10 q) same ∙ none_of (behind 10 all) none)

-- a line ended by a newline is handed out
pub handed_whole : (was all line left : List ℕ) (x y : Option (List ℕ)) (seen : ℕ) → Reading was all x y seen → true ≡ is_some (behind 10 all)
    → line ≡ before 10 all → left ≡ unwrap_or (behind 10 all) all → HandedOut (Some Whole) was x y line left
handed_whole was all line left x y seen r some l e = (
  r.got,
  subst (λ (q : List ℕ). Handed (Some Whole) q line left) r.grown (l, some_of (behind 10 all) all left some e),
  r.taken,
  tt,
)

over_at : (l : Option Line) (x : Option (List ℕ)) → IsAtEnd x → Over l x
over_at (Some Whole) x e = tt
over_at (Some Cut) x e = e
over_at None x e = e

-- at the end of the input nothing more came
pub handed_last : (l : Option Line) (was all line left : List ℕ) (x y : Option (List ℕ)) (seen : ℕ) → Reading was all x y seen → Handed l all line left → IsAtEnd y
    → HandedOut l was x y line left
handed_last l was all line left x y seen r h e = (r.got, subst (λ (q : List ℕ). Handed l q line left) r.grown h, r.taken, over_at l y e)

-- a line has its end in a text exactly where there is something behind the mark
pub ended : (o : Option ℕ) (text : List ℕ) → MatchOption o (behind 10 text ≡ None) (λ i. (i ≡ length (before 10 text)) × (i < length text)) → is_some o ≡ is_some (behind 10 text)
ended None text e = ap (λ (b : Option (List ℕ)). is_some b) (sym e)
ended (Some i) text (e, h) = ap (λ (b : Option (List ℕ)). is_some b) (behind_some 10 text (omega (arith, e, h)))
