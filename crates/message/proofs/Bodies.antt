-- What the readers of one first byte each share.
-- Assumes nothing.
use Rattle.std.proofs.Common.{◌≡◌, ℕ, suc, ◌+◌, ◌-◌, ◌*◌, ◌/◌, ◌%◌, ◌<◌, ◌≤◌, List, [], ◌∷◌, length, get_or, take, drop, Ok, Err, Result, sym, refl, ap, ◌∙◌, arith, Some, None, Option, ok_or}
use Rattle.std.specs.Result.{result_ok}
use Rattle.std.proofs.lemmas.List.{drop_all, take_all, length-drop}
use Rattle.std.proofs.lemmas.Slice.{first_rest}
use Rattle.part.specs.Bytes.{four, headed, Named}
use Rattle.part.proofs.Numbers.{peel}
use Rattle.message.specs.declared.form.Malformed.{Malformed}
use Rattle.message.specs.declared.form.Message.{Message}
use Rattle.message.specs.declared.form.Message.TheVariants as code
use Rattle.message.specs.declared.kind.Kind.{Kind}
use Rattle.message.specs.Kinds.{kind_byte, KindOf}
use Rattle.message.specs.Format.{Msg, Ask, Loan, Write, In, Void, Recall, Back, said, carried, tag, body, WellFormed, Decoded, DecodedBody}

-- every message but a recall begins with a head
pub headless : (t : ℕ) (ys : List ℕ) → ((w q n : ℕ) (more : List ℕ) → Named w q n → headed w q n more ≡ ys → ⊥) → (t ≡ 6 → ⊥)
    → (m : Msg) → WellFormed m → tag m ≡ t → body m ≡ ys → ⊥
headless t ys h k (Ask w q n i l) f g e = h w q n _ f.0 e
headless t ys h k (Loan w q n i v) f g e = h w q n _ f.0 e
headless t ys h k (Write w q n v) f g e = h w q n _ f.0 e
headless t ys h k (In w q n) f g e = h w q n _ f e
headless t ys h k (Void w q n) f g e = h w q n _ f e
headless t ys h k (Recall w q) f g e = k (sym g)
headless t ys h k (Back w q n) f g e = h w q n _ f e

-- a kind that was made of a byte stands for it
pub kind_is : (b : ℕ) (r : Result Kind Malformed) (k : Kind) → KindOf b r → Some k ≡ result_ok r → kind_byte k ≡ b
kind_is b (Ok x) k h e = let f : k ≡ x = cc in ap kind_byte f ∙ h
kind_is b (Err x) k h e = absurd (cc)

-- a head with what follows it
pub ends : (w q n : ℕ) (ys more : List ℕ) → headed w q n (drop 7 ys) ≡ ys → drop 7 ys ≡ more → headed w q n more ≡ ys
ends w q n ys more e d = ap (λ (zs : List ℕ). headed w q n zs) (sym d) ∙ e

pub ask_ends : (ys : List ℕ) (k l : ℕ) → length ys ≡ 12 → k ≡ get_or ys 7 0 → take 4 (drop 8 ys) ≡ four l → drop 7 ys ≡ k ∷ four l
ask_ends ys k l e p f =
    let d : length (drop 8 ys) ≤ 4 = omega (arith, length-drop 8 ys) in
    peel ys 7 _ (omega arith) (sym (take_all 4 (drop 8 ys) d) ∙ f) ∙ ap (λ (b : ℕ). b ∷ four l) (sym p)

pub loan_ends : (ys : List ℕ) (k : ℕ) → length ys ≡ 1032 → k ≡ get_or ys 7 0 → drop 7 ys ≡ k ∷ carried ys
loan_ends ys k l p =
    let e : length ys - 1024 ≡ 8 = omega arith in
    peel ys 7 _ (omega arith) (ap (λ (i : ℕ). drop i ys) (sym e)) ∙ ap (λ (b : ℕ). b ∷ carried ys) (sym p)

pub write_ends : (ys : List ℕ) → length ys ≡ 1031 → drop 7 ys ≡ carried ys
write_ends ys l = let e : length ys - 1024 ≡ 7 = omega arith in ap (λ (i : ℕ). drop i ys) (sym e)

pub recall_is : (ys : List ℕ) (w q : ℕ) → length ys ≡ 3 → w ≡ get_or ys 0 0 → q ≡ 256 * get_or ys 1 0 + get_or ys 2 0 → get_or ys 2 0 < 256
    → w ∷ (q / 256) ∷ (q % 256) ∷ [] ≡ ys
recall_is ys w q l we qe b =
    let f : q / 256 ≡ get_or ys 1 0 = omega arith in
    let p : q % 256 ≡ get_or ys 2 0 = omega arith in
    let t = peel ys 0 _ (omega arith) (peel ys 1 _ (omega arith) (peel ys 2 _ (omega arith) (drop_all 3 ys (omega arith)))) in
    cc

pub carried_long : (ys : List ℕ) → 1024 ≤ length ys → length (carried ys) ≡ 1024
carried_long ys l = length-drop (length ys - 1024) ys ∙ omega arith

-- with the first byte in front, the last 1,024 bytes are the same
carried_more : (t : ℕ) (ys : List ℕ) → length (carried ys) ≡ 1024 → carried (t ∷ ys) ≡ carried ys
carried_more t ys l =
    let e : suc (length ys) - 1024 ≡ suc (length ys - 1024) = omega (arith, length-drop (length ys - 1024) ys) in
    ap (λ (i : ℕ). drop i (t ∷ ys)) e

same_said : (t : ℕ) (ys : List ℕ) (m : Message) → WellFormed (said (carried ys) m) → said (carried (t ∷ ys)) m ≡ said (carried ys) m
same_said t ys (code.Ask a) f = refl
same_said t ys (code.Loan h k) f = ap (λ (v : List ℕ). Loan h.who.id h.place.at h.number k v) (carried_more t ys f.1)
same_said t ys (code.Write h) f = ap (λ (v : List ℕ). Write h.who.id h.place.at h.number v) (carried_more t ys f.1)
same_said t ys (code.In h) f = refl
same_said t ys (code.Void h) f = refl
same_said t ys (code.Recall w p) f = refl
same_said t ys (code.Back h) f = refl

from_body : (t : ℕ) (ys : List ℕ) (o : Option Message) → DecodedBody t ys o → Decoded (t ∷ ys) (ok_or o (record {}))
from_body t ys (Some m) (f, g, h) = rw (same_said t ys m f) (f, cc)
from_body t ys None none = λ m f e. none m f (ap (λ (q : List ℕ). get_or q 0 0) e) (ap (λ (q : List ℕ). drop 1 q) e)

-- the bytes after the first, as the reader cuts them off
pub decoded : (xs : List ℕ) (o : Option Message) → 0 < length xs
    → DecodedBody (get_or xs 0 0) (take (length xs - 1) (drop 1 xs)) o → Decoded xs (ok_or o (record {}))
decoded xs o l d = rw (first_rest xs 0 l) (from_body (get_or xs 0 0) (take (length xs - 1) (drop 1 xs)) o d)
