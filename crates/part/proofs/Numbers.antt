-- A list is its first elements and the rest; a number of 32 bits is its four bytes.
-- Assumes nothing.
use Rattle.std.proofs.Common.{◌≡◌, ℕ, ◌+◌, ◌*◌, ◌/◌, ◌%◌, ◌<◌, ◌≤◌, List, [], ◌∷◌, ◌++◌, length, get_or, take, drop, sym, refl, ap, ◌∙◌, arith}
use Rattle.std.proofs.lemmas.List.{drop_more, drop-drop, take-append-drop, get_or-take, get_or-drop}
use Rattle.std.proofs.lemmas.Nat.{shr-shr, div-add-mod', div_below}
use Rattle.std.proofs.Math.Nat.{mod-eq_of_lt}
use Rattle.part.specs.Bytes.{four, headed}

pub peel : (xs : List ℕ) (k : ℕ) (ys : List ℕ) → k < length xs → drop (k + 1) xs ≡ ys → drop k xs ≡ get_or xs k 0 ∷ ys
peel xs k ys h e = drop_more xs k 0 h ∙ ap (λ (zs : List ℕ). get_or xs k 0 ∷ zs) e

-- the bytes of the number that four bytes make
pub four_of : (a b c d n : ℕ) → a < 256 → b < 256 → c < 256 → d < 256 → n ≡ a * 16777216 + b * 65536 + c * 256 + d
    → four n ≡ a ∷ b ∷ c ∷ d ∷ []
four_of a b c d n ha hb hc hd e =
    let p : n / 16777216 % 256 ≡ a = omega arith in
    let q : n / 65536 % 256 ≡ b = omega arith in
    let r : n / 256 % 256 ≡ c = omega arith in
    let s : n % 256 ≡ d = omega arith in
    cc

-- the four bytes at a place are those of the number that they make
pub stand : (xs : List ℕ) (k n : ℕ) → k + 4 ≤ length xs → ((i : ℕ) → get_or xs i 0 < 256)
    → n ≡ get_or xs k 0 * 16777216 + get_or xs (k + 1) 0 * 65536 + get_or xs (k + 2) 0 * 256 + get_or xs (k + 3) 0 → take 4 (drop k xs) ≡ four n
stand xs k n l b e =
    let x : k + 1 + 1 ≡ k + 2 = omega arith in
    let y : k + 2 + 1 ≡ k + 3 = omega arith in
    let z : k + 3 + 1 ≡ k + 4 = omega arith in
    let from : (m j : ℕ) (ys : List ℕ) → m + 1 ≡ j → m < length xs → drop j xs ≡ ys → drop m xs ≡ get_or xs m 0 ∷ ys =
    λ m j ys q h r. peel xs m ys h (ap (λ (i : ℕ). drop i xs) q ∙ r) in
    ap (take 4) (from k (k + 1) _ refl (omega arith) (from (k + 1) (k + 2) _ x (omega arith)
    (from (k + 2) (k + 3) _ y (omega arith) (from (k + 3) (k + 4) _ z (omega arith) refl))))
    ∙ sym (four_of _ _ _ _ n (b k) (b (k + 1)) (b (k + 2)) (b (k + 3)) e)

-- four bytes cut out at a place are those of the number that they make
pub cut : (xs ys : List ℕ) (k n : ℕ) → k + 4 ≤ length xs → ((i : ℕ) → get_or xs i 0 < 256) → ys ≡ take 4 (drop k xs)
    → n ≡ get_or ys 0 0 * 16777216 + get_or ys 1 0 * 65536 + get_or ys 2 0 * 256 + get_or ys 3 0 → take 4 (drop k xs) ≡ four n
cut xs ys k n l b e h =
    let at : (i : ℕ) → i < 4 → get_or ys i 0 ≡ get_or xs (k + i) 0 =
    λ i lt. ap (λ (zs : List ℕ). get_or zs i 0) e ∙ get_or-take 4 (drop k xs) i 0 lt ∙ get_or-drop k xs i 0 in
    let z : k + 0 ≡ k = omega arith in
    let a : get_or ys 0 0 ≡ get_or xs k 0 = at 0 (omega arith) ∙ ap (λ (i : ℕ). get_or xs i 0) z in
    stand xs k n l b (h ∙ rw (a, at 1 (omega arith), at 2 (omega arith), at 3 (omega arith)) refl)

-- bytes that begin with a head are that head and what follows
pub head_is : (xs : List ℕ) (w q n : ℕ) → 7 ≤ length xs → w ≡ get_or xs 0 0 → q ≡ 256 * get_or xs 1 0 + get_or xs 2 0 → get_or xs 2 0 < 256
    → take 4 (drop 3 xs) ≡ four n → headed w q n (drop 7 xs) ≡ xs
head_is xs w q n l we qe b ne =
    let f : q / 256 ≡ get_or xs 1 0 = omega arith in
    let p : q % 256 ≡ get_or xs 2 0 = omega arith in
    let r : four n ++ drop 7 xs ≡ drop 3 xs =
    ap (λ (ys : List ℕ). ys ++ drop 7 xs) (sym ne) ∙ ap (λ (ys : List ℕ). take 4 (drop 3 xs) ++ ys) (sym (drop-drop 4 3 xs)) ∙ take-append-drop 4 (drop 3 xs) in
    let t = peel xs 0 _ (omega arith) (peel xs 1 _ (omega arith) (peel xs 2 _ (omega arith) refl)) in
    cc

join : (n a b c d e f g : ℕ) → a * 256 + b ≡ n → c * 256 + d ≡ a → e * 256 + f ≡ c → g ≡ e
    → g * 16777216 + f * 65536 + d * 256 + b ≡ n
join n a b c d e f g x y z u = omega arith

-- a number of 32 bits from its four bytes
pub number_back : (n : ℕ) → n < 4294967296
    → n / 16777216 % 256 * 16777216 + n / 65536 % 256 * 65536 + n / 256 % 256 * 256 + n % 256 ≡ n
number_back n l =
    let p : n / 256 / 256 ≡ n / 65536 = shr-shr n 8 8 in
    let q : n / 65536 / 256 ≡ n / 16777216 = shr-shr n 16 8 in
    let x = div-add-mod' n 256 in
    let y = div-add-mod' (n / 256) 256 in
    let z = div-add-mod' (n / 65536) 256 in
    let s = div_below n 16777216 256 (omega arith) l in
    let u : n / 16777216 % 256 ≡ n / 16777216 = mod-eq_of_lt s in
    join n (n / 256) (n % 256) (n / 65536) (n / 256 % 256) (n / 16777216) (n / 65536 % 256) (n / 16777216 % 256) x
    (ap (λ (k : ℕ). k * 256 + n / 256 % 256) (sym p) ∙ y) (ap (λ (k : ℕ). k * 256 + n / 65536 % 256) (sym q) ∙ z) u
