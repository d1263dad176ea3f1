-- What the loop over the lines of a program's input does.
-- Assumes nothing.
use Rattle.std.specs.Prelude.{◌≡◌, ℕ, List, [], ◌∷◌, ◌++◌, Some, Option}
use Rattle.std.specs.Io.KnownBytes.{Appends, Consumes, IsAtEnd}
use Rattle.lines.specs.declared.input.Line.{Line}
use Rattle.lines.specs.Inputs.{Handed}
use Rattle.startup.specs.Serving.{HandedOn}

-- one thing that it does
pub data Did : Type 0 where
  -- so many bytes were read, to get this line, and it was handed on
  Hands : (got : List ℕ) → (how : Line) → (line : List ℕ) → Did
  -- what was printed was written out
  Leaves : (written : List ℕ) → Did

-- all that was read
abbrev pub read_by : List Did → List ℕ
read_by [] = []
read_by (Hands g k l ∷ ds) = g ++ read_by ds
read_by (Leaves w ∷ ds) = read_by ds

-- all that was written out
abbrev pub written_by : List Did → List ℕ
written_by [] = []
written_by (Hands g k l ∷ ds) = written_by ds
written_by (Leaves w ∷ ds) = w ++ written_by ds

-- From who answers, the bytes that are left of what was read, and those that are printed and not written, to the same afterwards.
-- A line is the bytes up to the next newline, and does what D says of it; what is printed leaves as a whole, once who answers has settled,
-- of which S says what it changes and R what is so then.
abbrev pub Goes : {A : Type 0} → (D : A → (line printed_was printed_is : List ℕ) → A → Type 0) → (S : A → A → Type 0) → (R : A → Type 0)
    → (was : A) → (left printed : List ℕ) → List Did → (is : A) → (left_is printed_is : List ℕ) → Type 0
Goes D S R a r p [] b s q = (a ≡ b) × (r ≡ s) × (p ≡ q)
Goes {A = A} D S R a r p (Hands g k l ∷ ds) b s q =
    (m : A) × (t : List ℕ) × (o : List ℕ) × Handed (Some k) (r ++ g) l t × HandedOn D k a m l p o × Goes D S R m t o ds b s q
Goes {A = A} D S R a r p (Leaves w ∷ ds) b s q = (m : A) × S a m × R m × (w ≡ p) × Goes D S R m r [] ds b s q

-- THE LOOP: from nothing read and nothing printed, it hands on line after line until the input is over, each once and in order: all of
-- the input is in these lines, and all that was printed was written out
pub record Served {A : Type 0} (D : A → (line printed_was printed_is : List ℕ) → A → Type 0) (S : A → A → Type 0) (R : A → Type 0)
    (was is : A) (input_was input_is out_was out_is : Option (List ℕ)) : Type 0 where
  pub did : List Did
  pub goes : Goes D S R was [] [] did is [] []
  pub read : Consumes input_was input_is (read_by did)
  pub over : IsAtEnd input_is
  pub written : Appends out_was out_is (written_by did)
