-- The loop over a program's lines, one thing after another.
-- Assumes nothing.
use Rattle.std.proofs.Common.{◌≡◌, ℕ, ◌⊎◌, true, List, [], ◌∷◌, ◌++◌, is_some, Some, None, Option, Ok, Err, Result, OnOk, true≢false, refl, sym, ap, ◌∙◌, subst, inl, inr, append_assoc, append-nil}
use Rattle.std.specs.Io.KnownBytes.{Appends, Consumes}
use Rattle.lines.specs.Words.{behind}
use Rattle.lines.specs.declared.input.Line.{Line}
use Rattle.lines.specs.Inputs.{Handed, HandedOut}
use Rattle.lines.proofs.Handing.{taken_none, taken_more}
use Rattle.startup.specs.Serving.{HandedOn}
use Rattle.startup.specs.Loops.{Did, Hands, Leaves, read_by, written_by, Goes, Served}

appends_none : (x : Option (List ℕ)) → Appends x x []
appends_none None = tt
appends_none (Some xs) = sym (append-nil xs)

appends_more : (x y z : Option (List ℕ)) (us vs : List ℕ) → Appends x y us → Appends y z vs → Appends x z (us ++ vs)
appends_more None y z us vs a b = tt
appends_more (Some xs) None z us vs a b = absurd a
appends_more (Some xs) (Some ys) None us vs a b = absurd b
appends_more (Some xs) (Some ys) (Some zs) us vs a b = b ∙ ap (λ (q : List ℕ). q ++ vs) a ∙ append_assoc xs us vs

written_more : (ds es : List Did) → written_by (ds ++ es) ≡ written_by ds ++ written_by es
written_more [] es = refl
written_more (Hands g k l ∷ ds) es = written_more ds es
written_more (Leaves w ∷ ds) es = ap (λ (q : List ℕ). w ++ q) (written_more ds es) ∙ sym (append_assoc w (written_by ds) (written_by es))

read_more : (ds es : List Did) → read_by (ds ++ es) ≡ read_by ds ++ read_by es
read_more [] es = refl
read_more (Hands g k l ∷ ds) es = ap (λ (q : List ℕ). g ++ q) (read_more ds es) ∙ sym (append_assoc g (read_by ds) (read_by es))
read_more (Leaves w ∷ ds) es = read_more ds es

module _ {A : Type 0} (D : A → (line printed_was printed_is : List ℕ) → A → Type 0) (S : A → A → Type 0) (R : A → Type 0) where
  goes_on : (ds es : List Did) (a b c : A) (r s t p q o : List ℕ) → Goes D S R a r p ds b s q → Goes D S R b s q es c t o → Goes D S R a r p (ds ++ es) c t o
  goes_on [] es a b c r s t p q o (e, f, g) h =
      let P : A → List ℕ → List ℕ → Type 0 = λ x y z. Goes D S R x y z es c t o in
      rw (e, f, g) h
  goes_on (Hands x k l ∷ ds) es a b c r s t p q o (m, u, v, h, d, n) g = (m, u, v, h, d, goes_on ds es m b c u s t v q o n g)
  goes_on (Leaves w ∷ ds) es a b c r s t p q o (m, h, k, e, n) g = (m, h, k, e, goes_on ds es m b c r s t [] q o n g)

  -- what it did so far
  pub record SoFar (was is : A) (input_was input_is out_was out_is : Option (List ℕ)) (left printed : List ℕ) : Type 0 where
    pub did : List Did
    pub goes : Goes D S R was [] [] did is left printed
    pub read : Consumes input_was input_is (read_by did)
    pub written : Appends out_was out_is (written_by did)

  pub none_yet : (a : A) (x o : Option (List ℕ)) → SoFar a a x x o o [] []
  none_yet a x o = record { did = []; goes = (refl, refl, refl); read = taken_none x; written = appends_none o }

  module _ (was is : A) (input_was input_is out_was out_is : Option (List ℕ)) (left printed : List ℕ) (f : SoFar was is input_was input_is out_was out_is left printed) where
    -- a line was handed on
    pub handed : (m : A) (input_then : Option (List ℕ)) (k : Line) (got line text rest now : List ℕ) → Handed (Some k) (left ++ got) line rest → text ≡ line → HandedOn D k is m text printed now
        → Consumes input_is input_then got → SoFar was m input_was input_then out_was out_is rest now
    handed m input_then k got line text rest now h e d c =
        let es : List Did = Hands got k line ∷ [] in
        let P : List ℕ → Type 0 = λ l. HandedOn D k is m l printed now in
        let W : List ℕ → Type 0 = Appends out_was out_is in
        let C : List ℕ → Type 0 = Consumes input_was input_then in
        let more : read_by (f.did ++ es) ≡ read_by f.did ++ got = read_more f.did es ∙ ap (λ (q : List ℕ). read_by f.did ++ q) (append-nil got) in
        record {
          read = subst C (sym more) (taken_more input_was input_is input_then (read_by f.did) got f.read c);
          did = f.did ++ es;
          goes = goes_on f.did es was is m [] left rest [] printed now f.goes (m, rest, now, h, subst P e d, (refl, refl, refl));
          written = subst W (sym (append-nil (written_by f.did)) ∙ sym (written_more f.did es)) f.written;
        }

    -- what is printed left
    pub gone : (m : A) (out_then : Option (List ℕ)) (now : List ℕ) → S is m → R m → Appends out_is out_then printed → now ≡ [] → SoFar was m input_was input_is out_was out_then left now
    gone m out_then now s r a e =
        let es : List Did = Leaves printed ∷ [] in
        let W : List ℕ → Type 0 = Appends out_was out_then in
        let G : List ℕ → Type 0 = Goes D S R was [] [] (f.did ++ es) m left in
        let C : List ℕ → Type 0 = Consumes input_was input_is in
        let same : read_by (f.did ++ es) ≡ read_by f.did = read_more f.did es ∙ append-nil (read_by f.did) in
        let more : written_by (f.did ++ es) ≡ written_by f.did ++ printed =
        written_more f.did es ∙ ap (λ (q : List ℕ). written_by f.did ++ q) (append-nil printed) in
        record {
          did = f.did ++ es;
          goes = subst G (sym e) (goes_on f.did es was is m [] left left [] printed [] f.goes (m, s, r, refl, (refl, refl, refl)));
          read = subst C (sym same) f.read;
          written = subst W (sym more) (appends_more out_was out_is out_then (written_by f.did) printed f.written a);
        }

-- what is printed and not written, there is none but where the next line is here already
abbrev pub Idle : (left printed : List ℕ) → Type 0
Idle r p = (p ≡ []) ⊎ (is_some (behind 10 r) ≡ true)

-- where the input is over
pub over : {A : Type 0} (D : A → (line printed_was printed_is : List ℕ) → A → Type 0) (S : A → A → Type 0) (R : A → Type 0) (was is : A)
    (input_was input_is input_then out_was out_is : Option (List ℕ)) (left printed line rest : List ℕ) → SoFar D S R was is input_was input_is out_was out_is left printed
    → Idle left printed → HandedOut None left input_is input_then line rest → Served D S R was is input_was input_then out_was out_is
over D S R was is input_was input_is input_then out_was out_is left printed line rest f i (got, h, c, e) =
    let z : left ≡ [] = ends left got h.0 in
    let y : got ≡ [] = ap (λ (q : List ℕ). q ++ got) (sym z) ∙ h.0 in
    let C : List ℕ → Type 0 = Consumes input_was input_then in
    let more : read_by f.did ++ got ≡ read_by f.did = ap (λ (q : List ℕ). read_by f.did ++ q) y ∙ append-nil (read_by f.did) in
    let p : printed ≡ [] = elim i [ inl q ↦ q | inr q ↦ absurd (true≢false (sym q ∙ ap (λ (x : List ℕ). is_some (behind 10 x)) z)) ] in
    let P : List ℕ → Type 0 = λ y. Goes D S R was [] [] f.did is left y in
    let L : List ℕ → Type 0 = λ x. Goes D S R was [] [] f.did is x [] in
    record { did = f.did; goes = subst L z (subst P p f.goes); read = subst C more (taken_more input_was input_is input_then (read_by f.did) got f.read c); over = e; written = f.written }
  where
    ends : (xs ys : List ℕ) → xs ++ ys ≡ [] → xs ≡ []
    ends [] ys q = refl
    ends (x ∷ xs) ys q = absurd (cc)

-- what holds of what went well
pub on_ok : {T E : Type 0} (r : Result T E) (v : T) (X : Type 0) → OnOk r X → r ≡ Ok v → X
on_ok (Ok u) v X h e = h
on_ok (Err x) v X h e = absurd (cc)
