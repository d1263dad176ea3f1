-- What some bytes begin with: a record is found in front of its bytes, and of a record that is found these are the bytes.
-- Assumes nothing.
use Rattle.std.proofs.Common.{◌≡◌, ℕ, zero, suc, ◌+◌, ◌*◌, ◌/◌, ◌%◌, ◌<◌, ◌≤◌, true, false, eqb, ltb, List, [], ◌∷◌, ◌++◌, length, get_or, take, drop, sym, refl, ap, ◌∙◌, subst, arith, lit<}
use Rattle.std.proofs.lemmas.List.{length-append, length-drop, take_at, take-append-drop, length-take-le}
use Rattle.std.proofs.lemmas.Bool.{ltb-true, ltb-false, lt-ltb, le-ltb, eqb-true, and_parts, and_from, false≢true, cond_both, cond-true, cond-false}
use Rattle.part.specs.Bytes.{four, headed, Named}
use Rattle.part.proofs.Numbers.{peel, four_of, number_back}
use Rattle.journal.specs.declared.record.Owner.{Owner}
use Rattle.journal.specs.declared.record.Owner.TheVariants.{Keeper, Borrower}
use Rattle.journal.specs.Records.{Rec, Applied, VoidUpTo, Numbers, tag, body, layout, Sound, announced, Torn, NoRecord, Found, whole, torn, malformed, below, judged, head_limits, numbers_limits, applied_in, void_in, numbers_in, found}

-- the length by the first byte
pub long : (o : Owner) (r : Rec) → Sound o r → length (layout r) ≡ announced o (tag r)
long Keeper (Applied w q n v) f = omega arith
long Keeper (VoidUpTo w q n) f = refl
long Keeper (Numbers q a w) f = absurd f.1
long Borrower (Applied w q n v) f = absurd f.1
long Borrower (VoidUpTo w q n) f = absurd f.1
long Borrower (Numbers q a w) f = refl

-- from a record to its bytes

judged_whole : (n : ℕ) (ls : List ℕ) (r : Rec) (ys : List ℕ) → n ≤ length ys → below ls ys ≡ true → judged n ls r ys ≡ whole r
judged_whole n ls r ys l b = cond-false _ torn _ (le-ltb (length ys) n l) ∙ cond-true _ (whole r) malformed b

byte : (n : ℕ) → ltb (n % 256) 256 ≡ true
byte n = lt-ltb (n % 256) 256 (omega arith)

four_below : (n : ℕ) (ls more : List ℕ) → below ls more ≡ true → below (256 ∷ 256 ∷ 256 ∷ 256 ∷ ls) (four n ++ more) ≡ true
four_below n ls more b = simp (byte, b)

place_below : (q : ℕ) (ls more : List ℕ) → q < 16384 → below ls more ≡ true → below (64 ∷ 256 ∷ ls) ((q / 256) ∷ (q % 256) ∷ more) ≡ true
place_below q ls more l b = let f = lt-ltb (q / 256) 64 (omega arith) in simp (f, byte, b)

head_below : (w q n : ℕ) (more : List ℕ) → Named w q n → below head_limits (headed w q n more) ≡ true
head_below w q n more f = and_from _ _ (lt-ltb w 32 f.0) (place_below q (256 ∷ 256 ∷ 256 ∷ 256 ∷ []) (four n ++ more) f.1 (four_below n [] more refl))

place_back : (q : ℕ) → 256 * (q / 256) + q % 256 ≡ q
place_back q = omega arith

-- in front of whatever follows
pub front : (o : Owner) (r : Rec) → Sound o r → (more : List ℕ) → found o (layout r ++ more) ≡ whole r
unfolding found
front Keeper (Applied w q n v) (f, k) more =
    let ys : List ℕ = headed w q n (v ++ more) in
    let g = number_back n f.0.2 in
    let p = place_back q in
    let t = take_at v more 1024 f.1 in
    let e : whole (applied_in ys) ≡ whole (Applied w q n v) = cc in
    judged_whole 1031 head_limits (applied_in ys) ys (omega (arith, length-append v more)) (head_below w q n (v ++ more) f.0) ∙ e
front Keeper (VoidUpTo w q n) (f, k) more =
    let ys : List ℕ = headed w q n more in
    let g = number_back n f.2 in
    let p = place_back q in
    let e : whole (void_in ys) ≡ whole (VoidUpTo w q n) = cc in
    judged_whole 7 head_limits (void_in ys) ys (omega arith) (head_below w q n more f) ∙ e
front Keeper (Numbers q a w) f more = absurd f.1
front Borrower (Applied w q n v) f more = absurd f.1
front Borrower (VoidUpTo w q n) f more = absurd f.1
front Borrower (Numbers q a w) (f, k) more =
    let ys : List ℕ = body (Numbers q a w) ++ more in
    let g = number_back a f.1 in
    let h = number_back w f.2 in
    let p = place_back q in
    let e : whole (numbers_in ys) ≡ whole (Numbers q a w) = cc in
    judged_whole 10 numbers_limits (numbers_in ys) ys (omega arith)
    (place_below q (256 ∷ 256 ∷ 256 ∷ 256 ∷ 256 ∷ 256 ∷ 256 ∷ 256 ∷ []) ((four a ++ four w) ++ more) f.0
    (four_below a (256 ∷ 256 ∷ 256 ∷ 256 ∷ []) (four w ++ more) (four_below w [] more refl)))
    ∙ e

-- from the bytes to a record

below_at : (ls ys : List ℕ) → below ls ys ≡ true → (i : ℕ) → i < length ls → get_or ys i 0 < get_or ls i 0
below_at [] ys h i l = absurd (omega arith)
below_at (l ∷ ls) [] h i k = absurd (false≢true h)
below_at (l ∷ ls) (y ∷ ys) h zero k = ltb-true y l (and_parts _ _ h).0
below_at (l ∷ ls) (y ∷ ys) h (suc i) k = below_at ls ys (and_parts _ _ h).1 i (omega arith)

-- what is found agrees with the bytes
abbrev pub Shown : Owner → List ℕ → Found → Type 0
Shown o xs (whole r) = Sound o r × (layout r ++ drop (announced o (get_or xs 0 0)) xs ≡ xs)
Shown o xs torn = Torn o xs
Shown o xs malformed = Torn o xs → ⊥

head_back : (a b c d e f g : ℕ) (zs more : List ℕ) → below head_limits (a ∷ b ∷ c ∷ d ∷ e ∷ f ∷ g ∷ zs) ≡ true
    → Named a (256 * b + c) (d * 16777216 + e * 65536 + f * 256 + g)
    × (headed a (256 * b + c) (d * 16777216 + e * 65536 + f * 256 + g) more ≡ a ∷ b ∷ c ∷ d ∷ e ∷ f ∷ g ∷ more)
head_back a b c d e f g zs more h =
    let at = below_at head_limits (a ∷ b ∷ c ∷ d ∷ e ∷ f ∷ g ∷ zs) h in
    let ha : a < 32 = at 0 (lit< tt) in
    let hb : b < 64 = at 1 (lit< tt) in
    let hc : c < 256 = at 2 (lit< tt) in
    let hd : d < 256 = at 3 (lit< tt) in
    let he : e < 256 = at 4 (lit< tt) in
    let hf : f < 256 = at 5 (lit< tt) in
    let hg : g < 256 = at 6 (lit< tt) in
    let n : ℕ = d * 16777216 + e * 65536 + f * 256 + g in
    let p : (256 * b + c) / 256 ≡ b = omega arith in
    let q : (256 * b + c) % 256 ≡ c = omega arith in
    let r : four n ≡ d ∷ e ∷ f ∷ g ∷ [] = four_of d e f g n hd he hf hg refl in
    ((ha, omega arith, omega arith), rw (p, q) (ap (λ (xs : List ℕ). a ∷ b ∷ c ∷ (xs ++ more)) r))

applied_shown : (a b c d e f g : ℕ) (zs : List ℕ) → 1024 ≤ length zs → below head_limits (a ∷ b ∷ c ∷ d ∷ e ∷ f ∷ g ∷ zs) ≡ true
    → Shown Keeper (8 ∷ a ∷ b ∷ c ∷ d ∷ e ∷ f ∷ g ∷ zs) (whole (applied_in (a ∷ b ∷ c ∷ d ∷ e ∷ f ∷ g ∷ zs)))
applied_shown a b c d e f g zs l h =
    let k = head_back a b c d e f g zs (take 1024 zs ++ drop 1024 zs) h in
    let t = length-take-le 1024 zs l in
    (((k.0, t), tt), ap (λ (xs : List ℕ). 8 ∷ xs) k.1 ∙ ap (λ (xs : List ℕ). 8 ∷ a ∷ b ∷ c ∷ d ∷ e ∷ f ∷ g ∷ xs) (take-append-drop 1024 zs))

void_shown : (a b c d e f g : ℕ) (zs : List ℕ) → below head_limits (a ∷ b ∷ c ∷ d ∷ e ∷ f ∷ g ∷ zs) ≡ true
    → Shown Keeper (9 ∷ a ∷ b ∷ c ∷ d ∷ e ∷ f ∷ g ∷ zs) (whole (void_in (a ∷ b ∷ c ∷ d ∷ e ∷ f ∷ g ∷ zs)))
void_shown a b c d e f g zs h =
    let k = head_back a b c d e f g zs zs h in
    ((k.0, tt), ap (λ (xs : List ℕ). 9 ∷ xs) k.1)

numbers_shown : (b c d e f g i j k l : ℕ) (zs : List ℕ) → below numbers_limits (b ∷ c ∷ d ∷ e ∷ f ∷ g ∷ i ∷ j ∷ k ∷ l ∷ zs) ≡ true
    → Shown Borrower (10 ∷ b ∷ c ∷ d ∷ e ∷ f ∷ g ∷ i ∷ j ∷ k ∷ l ∷ zs) (whole (numbers_in (b ∷ c ∷ d ∷ e ∷ f ∷ g ∷ i ∷ j ∷ k ∷ l ∷ zs)))
numbers_shown b c d e f g i j k l zs h =
    let at = below_at numbers_limits (b ∷ c ∷ d ∷ e ∷ f ∷ g ∷ i ∷ j ∷ k ∷ l ∷ zs) h in
    let hb : b < 64 = at 0 (lit< tt) in
    let hc : c < 256 = at 1 (lit< tt) in
    let hd : d < 256 = at 2 (lit< tt) in
    let he : e < 256 = at 3 (lit< tt) in
    let hf : f < 256 = at 4 (lit< tt) in
    let hg : g < 256 = at 5 (lit< tt) in
    let hi : i < 256 = at 6 (lit< tt) in
    let hj : j < 256 = at 7 (lit< tt) in
    let hk : k < 256 = at 8 (lit< tt) in
    let hl : l < 256 = at 9 (lit< tt) in
    let m : ℕ = d * 16777216 + e * 65536 + f * 256 + g in
    let n : ℕ = i * 16777216 + j * 65536 + k * 256 + l in
    let p : (256 * b + c) / 256 ≡ b = omega arith in
    let q : (256 * b + c) % 256 ≡ c = omega arith in
    let r : four m ≡ d ∷ e ∷ f ∷ g ∷ [] = four_of d e f g m hd he hf hg refl in
    let s : four n ≡ i ∷ j ∷ k ∷ l ∷ [] = four_of i j k l n hi hj hk hl refl in (
      ((omega arith, omega arith, omega arith), tt),
      rw (p, q) (ap (λ (xs : List ℕ). 10 ∷ b ∷ c ∷ ((xs ++ four n) ++ zs)) r ∙ ap (λ (xs : List ℕ). 10 ∷ b ∷ c ∷ d ∷ e ∷ f ∷ g ∷ (xs ++ zs)) s),
    )

-- what a judgement shows, where a record that is whole is shown
judged_shown : (o : Owner) (t n : ℕ) (ls : List ℕ) (r : Rec) (ys : List ℕ) → announced o t ≡ suc n
    → (n ≤ length ys → below ls ys ≡ true → Shown o (t ∷ ys) (whole r)) → Shown o (t ∷ ys) (judged n ls r ys)
judged_shown o t n ls r ys a h =
    cond_both (ltb (length ys) n) torn _ (Shown o (t ∷ ys)) (λ e. omega (arith, ltb-true (length ys) n e))
    (λ e. cond_both (below ls ys) (whole r) malformed (Shown o (t ∷ ys)) (λ b. h (ltb-false (length ys) n e) b)
    (λ b k. omega (arith, ltb-false (length ys) n e)))

seven : (ys : List ℕ) → 7 ≤ length ys
    → ys ≡ get_or ys 0 0 ∷ get_or ys 1 0 ∷ get_or ys 2 0 ∷ get_or ys 3 0 ∷ get_or ys 4 0 ∷ get_or ys 5 0 ∷ get_or ys 6 0 ∷ drop 7 ys
seven ys l =
    peel ys 0 _ (omega arith) (peel ys 1 _ (omega arith) (peel ys 2 _ (omega arith) (peel ys 3 _ (omega arith)
    (peel ys 4 _ (omega arith) (peel ys 5 _ (omega arith) (peel ys 6 _ (omega arith) refl))))))

ten : (ys : List ℕ) → 10 ≤ length ys
    → ys ≡ get_or ys 0 0 ∷ get_or ys 1 0 ∷ get_or ys 2 0 ∷ get_or ys 3 0 ∷ get_or ys 4 0 ∷ get_or ys 5 0 ∷ get_or ys 6 0 ∷ get_or ys 7 0 ∷ get_or ys 8 0 ∷ get_or ys 9 0 ∷ drop 10 ys
ten ys l =
    peel ys 0 _ (omega arith) (peel ys 1 _ (omega arith) (peel ys 2 _ (omega arith) (peel ys 3 _ (omega arith) (peel ys 4 _ (omega arith)
    (peel ys 5 _ (omega arith) (peel ys 6 _ (omega arith) (peel ys 7 _ (omega arith) (peel ys 8 _ (omega arith) (peel ys 9 _ (omega arith) refl)))))))))

first_8 : (ys : List ℕ) → Shown Keeper (8 ∷ ys) (judged 1031 head_limits (applied_in ys) ys)
first_8 ys =
    let P : List ℕ → Type 0 = λ xs. below head_limits xs ≡ true → Shown Keeper (8 ∷ xs) (whole (applied_in xs)) in
    judged_shown Keeper 8 1031 head_limits (applied_in ys) ys refl
    (λ l. subst P (sym (seven ys (omega arith))) (applied_shown _ _ _ _ _ _ _ (drop 7 ys) (omega (arith, length-drop 7 ys))))

first_9 : (ys : List ℕ) → Shown Keeper (9 ∷ ys) (judged 7 head_limits (void_in ys) ys)
first_9 ys =
    let P : List ℕ → Type 0 = λ xs. below head_limits xs ≡ true → Shown Keeper (9 ∷ xs) (whole (void_in xs)) in
    judged_shown Keeper 9 7 head_limits (void_in ys) ys refl (λ l. subst P (sym (seven ys l)) (void_shown _ _ _ _ _ _ _ (drop 7 ys)))

first_10 : (ys : List ℕ) → Shown Borrower (10 ∷ ys) (judged 10 numbers_limits (numbers_in ys) ys)
first_10 ys =
    let P : List ℕ → Type 0 = λ xs. below numbers_limits xs ≡ true → Shown Borrower (10 ∷ xs) (whole (numbers_in xs)) in
    judged_shown Borrower 10 10 numbers_limits (numbers_in ys) ys refl
    (λ l. subst P (sym (ten ys l)) (numbers_shown _ _ _ _ _ _ _ _ _ _ (drop 10 ys)))

-- a first byte that announces nothing
no_kind : (o : Owner) (t : ℕ) (ys : List ℕ) → announced o t ≡ 0 → Shown o (t ∷ ys) malformed
no_kind o t ys e k = omega arith

keeper_none : (t : ℕ) → eqb t 8 ≡ false → eqb t 9 ≡ false → announced Keeper t ≡ 0
keeper_none t e f = simp (e, f)

borrower_none : (t : ℕ) → eqb t 10 ≡ false → announced Borrower t ≡ 0
borrower_none t e = simp e

pub shown : (o : Owner) (xs : List ℕ) → Shown o xs (found o xs)
unfolding found
shown Keeper [] = tt
shown Borrower [] = tt
shown Keeper (t ∷ ys) =
    let P8 : ℕ → Type 0 = λ u. Shown Keeper (u ∷ ys) (judged 1031 head_limits (applied_in ys) ys) in
    let P9 : ℕ → Type 0 = λ u. Shown Keeper (u ∷ ys) (judged 7 head_limits (void_in ys) ys) in
    cond_both (eqb t 8) _ _ (Shown Keeper (t ∷ ys)) (λ e. subst P8 (sym (eqb-true t 8 e)) (first_8 ys))
    (λ e. cond_both (eqb t 9) _ _ (Shown Keeper (t ∷ ys)) (λ f. subst P9 (sym (eqb-true t 9 f)) (first_9 ys))
    (λ f. no_kind Keeper t ys (keeper_none t e f)))
shown Borrower (t ∷ ys) =
    let P10 : ℕ → Type 0 = λ u. Shown Borrower (u ∷ ys) (judged 10 numbers_limits (numbers_in ys) ys) in
    cond_both (eqb t 10) _ _ (Shown Borrower (t ∷ ys)) (λ e. subst P10 (sym (eqb-true t 10 e)) (first_10 ys))
    (λ e. no_kind Borrower t ys (borrower_none t e))

-- what is torn is no record
pub torn_none : (o : Owner) (xs : List ℕ) → Torn o xs → NoRecord o xs
torn_none o [] h r f more e = absurd (omega (arith, ap length e))
torn_none o (t ∷ ys) h r f more e =
    let a : tag r ≡ t = ap (λ (q : List ℕ). get_or q 0 0) e in
    let b : announced o (tag r) ≡ announced o t = ap (announced o) a in
    omega (arith, long o r f, ap length e, length-append (layout r) more)
