-- What the readers of each direction share: a message is read by its first byte and the bytes after it.
use Rattle.std.proofs.Common.{◌≡◌, ℕ, ◌-◌, ◌≤◌, ◌≢◌, List, ◌∷◌, length, get_or, take, drop, Some, None, Option, sym, refl, ap, ◌∙◌, arith, option_map}
use Rattle.std.proofs.lemmas.Slice.{first_rest}
use Rattle.message.specs.declared.to_keeper.ToKeeper.{ToKeeper}
use Rattle.message.specs.declared.to_keeper.ToKeeper.TheVariants as up
use Rattle.message.specs.declared.to_borrower.ToBorrower.{ToBorrower}
use Rattle.message.specs.declared.to_borrower.ToBorrower.TheVariants as down
use Rattle.message.specs.Format.{Msg, Ask, Loan, Write, In, Void, Recall, Back, tag, layout}
use Rattle.message.specs.Directions.{up_msg, down_msg, for_keeper, for_borrower}
use Rattle.message.specs.Reading.{ReadBody, read}
use Rattle.message.proofs.Reading.{read_layout, read_some, read_none}

-- the bytes after the first, as the reader cuts them off
abbrev pub rest : List ℕ → List ℕ
rest xs = take (length xs - 1) (drop 1 xs)

from_body : (t : ℕ) (ys : List ℕ) (o : Option Msg) → ReadBody t ys o → read (t ∷ ys) ≡ o
from_body t ys (Some m) (f, g, e) = let i : layout m ≡ t ∷ ys = cc in ap read (sym i) ∙ read_layout m f
from_body t ys None none =
    read_none (t ∷ ys) (λ m f e.
    none m f (ap (λ (q : List ℕ). get_or q 0 0) e) (ap (λ (q : List ℕ). drop 1 q) e))

read_is : (xs : List ℕ) (t : ℕ) (o : Option Msg) → 1 ≤ length xs → get_or xs 0 0 ≡ t
    → ReadBody t (rest xs) o → read xs ≡ o
read_is xs t o l e r =
    let p : xs ≡ t ∷ rest xs = first_rest xs 0 l ∙ ap (λ (b : ℕ). b ∷ rest xs) e in
    ap read p ∙ from_body t (rest xs) o r

same_up : (o : Option ToKeeper) → for_keeper (option_map up_msg o) ≡ option_map up_msg o
same_up None = refl
same_up (Some (up.Ask h k l)) = refl
same_up (Some (up.Write h p)) = refl
same_up (Some (up.Back h)) = refl

-- what a reader of the bytes after this first byte gives is the message to the keeper
pub up_read : (xs : List ℕ) (t : ℕ) (o : Option ToKeeper) → 1 ≤ length xs → get_or xs 0 0 ≡ t
    → ReadBody t (rest xs) (option_map up_msg o) → option_map up_msg o ≡ for_keeper (read xs)
up_read xs t o l e r = sym (same_up o) ∙ ap for_keeper (sym (read_is xs t _ l e r))

-- their first byte, where there is one, is another
abbrev pub Not : ℕ → List ℕ → Type 0
Not t xs = 1 ≤ length xs → get_or xs 0 0 ≢ t

-- so what is read has another first byte
first_not : (xs : List ℕ) (m : Msg) → read xs ≡ Some m → Not (tag m) xs → ⊥
first_not xs m e differs =
    let p = (read_some xs m e).1 in
    differs (omega (arith, ap length p)) (ap (λ (q : List ℕ). get_or q 0 0) (sym p))

no_up : (xs : List ℕ) (o : Option Msg) → read xs ≡ o → Not 1 xs → Not 3 xs → Not 7 xs → None ≡ for_keeper o
no_up xs None e a b c = refl
no_up xs (Some (Ask i q n k l)) e a b c = absurd (first_not xs _ e a)
no_up xs (Some (Loan i q n k v)) e a b c = refl
no_up xs (Some (Write i q n v)) e a b c = absurd (first_not xs _ e b)
no_up xs (Some (In i q n)) e a b c = refl
no_up xs (Some (Void i q n)) e a b c = refl
no_up xs (Some (Recall i q)) e a b c = refl
no_up xs (Some (Back i q n)) e a b c = absurd (first_not xs _ e c)

-- bytes with another first byte are no message to the keeper
pub other_up : (xs : List ℕ) → Not 1 xs → Not 3 xs → Not 7 xs → None ≡ for_keeper (read xs)
other_up xs = no_up xs (read xs) refl

same_down : (o : Option ToBorrower) → for_borrower (option_map down_msg o) ≡ option_map down_msg o
same_down None = refl
same_down (Some (down.Loan h k p)) = refl
same_down (Some (down.In h)) = refl
same_down (Some (down.Void h)) = refl
same_down (Some (down.Recall w p)) = refl

-- what a reader of the bytes after this first byte gives is the message to a borrower
pub down_read : (xs : List ℕ) (t : ℕ) (o : Option ToBorrower) → 1 ≤ length xs → get_or xs 0 0 ≡ t
    → ReadBody t (rest xs) (option_map down_msg o) → option_map down_msg o ≡ for_borrower (read xs)
down_read xs t o l e r = sym (same_down o) ∙ ap for_borrower (sym (read_is xs t _ l e r))

no_down : (xs : List ℕ) (o : Option Msg) → read xs ≡ o → Not 2 xs → Not 4 xs → Not 5 xs → Not 6 xs
    → None ≡ for_borrower o
no_down xs None e a b c d = refl
no_down xs (Some (Ask i q n k l)) e a b c d = refl
no_down xs (Some (Loan i q n k v)) e a b c d = absurd (first_not xs _ e a)
no_down xs (Some (Write i q n v)) e a b c d = refl
no_down xs (Some (In i q n)) e a b c d = absurd (first_not xs _ e b)
no_down xs (Some (Void i q n)) e a b c d = absurd (first_not xs _ e c)
no_down xs (Some (Recall i q)) e a b c d = absurd (first_not xs _ e d)
no_down xs (Some (Back i q n)) e a b c d = refl

-- bytes with another first byte are no message to a borrower
pub other_down : (xs : List ℕ) → Not 2 xs → Not 4 xs → Not 5 xs → Not 6 xs → None ≡ for_borrower (read xs)
other_down xs = no_down xs (read xs) refl
