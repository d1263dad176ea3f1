-- The network: what arrives is a message that was sent, or none; and what is sent can be read.
use Rattle.std.proofs.Common.{◌≡◌, ℕ, zero, suc, ◌+◌, ◌<◌, ◌≤◌, Bool, true, false, ◌⊎◌, List, [], ◌∷◌, ◌++◌, map, length, get_or, take, Some, sym, refl, ap, ◌∙◌, subst, inl, inr, arith}
use mathlib.Core.List.Memᴰ
use mathlib.Core.List.{Memᴰ}
use Rattle.std.proofs.lemmas.List.{take_all, map-append}
use Rattle.std.proofs.lemmas.List.FromFn.{length-map-range_with_len}
use Rattle.std.proofs.lemmas.Bool.{cases_lt}
use Rattle.message.specs.Format.{Msg, WellFormed, layout}
use Rattle.message.specs.Reading.{read}
use Rattle.message.proofs.Reading.{read_layout, read_some}
use Rattle.message.proofs.Unique.{cut_short, distinct}
use Rattle.lease.specs.declared.lease.Lease.{Lease}
use Rattle.lease.specs.Leases.{of_borrower}
use Rattle.std.specs.List.{list_any}
use Rattle.lease.specs.Tables.{marks_of}
use Rattle.keeping.specs.Rules.{recalls}
use Rattle.borrowing.specs.declared.hold.Part.{Part}
use Rattle.borrowing.specs.declared.on_file.OnFile.{OnFile}
use Rattle.stepped_world.proofs.Used.{Near}
use Rattle.stepped_world.specs.World.{World}
use Rattle.stepped_world.specs.Promise.{Sent}
use Rattle.stepped_world.proofs.Inv.{Each, each_at}

tag_first : (m : Msg) → layout m ≡ [] → ⊥
tag_first m e = let z : ◌≡◌ {A = ℕ} (length (layout m)) 0 = ap length e in omega (arith, z)

-- what is read of the first bytes of a message that was sent is that message
same : (m x : Msg) (n : ℕ) → WellFormed m → read (take n (layout m)) ≡ Some x → x ≡ m
same m x n f e = go (cases_lt n (length (layout m))) (read_some (take n (layout m)) x e)
  where
    go : (n < length (layout m)) ⊎ (length (layout m) ≤ n) → WellFormed x × (layout x ≡ take n (layout m)) → x ≡ m
    go (inl h) r = absurd (cut_short m f n h x r.0 r.1)
    go (inr h) r = distinct x m r.0 f (r.1 ∙ take_all n (layout m) h)

-- these bytes are those of messages
abbrev pub Carries : List (List ℕ) → List Msg → Type 0
Carries bs ms = (b : List ℕ) → Memᴰ b bs → Memᴰ b (map layout ms)

from_cut : (ms : List Msg) → ((m : Msg) → Memᴰ m ms → WellFormed m) → (b : List ℕ) (n : ℕ) (x : Msg) → Memᴰ b (map layout ms) → read (take n b) ≡ Some x → Memᴰ x ms
from_cut [] f b n x h e = elim h [ ]
from_cut (m ∷ ms) f b n x (Memᴰ.head p) e = Memᴰ.head (same m x n (f m (Memᴰ.head refl)) (ap (λ (y : List ℕ). read (take n y)) (sym p) ∙ e))
from_cut (m ∷ ms) f b n x (Memᴰ.tail p) e = Memᴰ.tail (from_cut ms (λ y h. f y (Memᴰ.tail h)) b n x p e)

-- what stands at a place of a list is one of it, or nothing
one_of : (bs : List (List ℕ)) (k : ℕ) → (get_or bs k [] ≡ []) ⊎ Memᴰ (get_or bs k []) bs
one_of [] zero = inl refl
one_of [] (suc k) = inl refl
one_of (b ∷ bs) zero = inr (Memᴰ.head refl)
one_of (b ∷ bs) (suc k) = go (one_of bs k)
  where
    go : (get_or bs k [] ≡ []) ⊎ Memᴰ (get_or bs k []) bs → (get_or bs k [] ≡ []) ⊎ Memᴰ (get_or bs k []) (b ∷ bs)
    go (inl e) = inl e
    go (inr h) = inr (Memᴰ.tail h)

pub arrives : (bs : List (List ℕ)) (ms : List Msg) → Carries bs ms → ((m : Msg) → Memᴰ m ms → WellFormed m) → (k n : ℕ) (x : Msg) → read (take n (get_or bs k [])) ≡ Some x → Memᴰ x ms
arrives bs ms w f k n x e = go (one_of bs k)
  where
    go : (get_or bs k [] ≡ []) ⊎ Memᴰ (get_or bs k []) bs → Memᴰ x ms
    go (inl z) = absurd (tag_first x ((read_some _ x e).1 ∙ ap (take n) z ∙ take_all n [] (omega arith)))
    go (inr h) = from_cut ms f (get_or bs k []) n x (w _ h) e

-- bytes that were sent are those of a message
pub from_bytes : (ms : List Msg) → ((m : Msg) → Memᴰ m ms → WellFormed m) → (b : List ℕ) (x : Msg) → Memᴰ b (map layout ms) → read b ≡ Some x → Memᴰ x ms
from_bytes [] f b x h e = elim h [ ]
from_bytes (m ∷ ms) f b x (Memᴰ.head p) e = Memᴰ.head (cc' (sym (read_layout m (f m (Memᴰ.head refl))) ∙ ap read (sym p) ∙ e))
  where
    cc' : Some m ≡ Some x → x ≡ m
    cc' z = cc
from_bytes (m ∷ ms) f b x (Memᴰ.tail p) e = Memᴰ.tail (from_bytes ms (λ y h. f y (Memᴰ.tail h)) b x p e)

pub was_sent : (w : World) (ms : List Msg) → Carries w.sent ms → ((m : Msg) → Memᴰ m ms → WellFormed m) → (x : Msg) → Sent w x → Memᴰ x ms
was_sent w ms e f x s = from_bytes ms f s.bytes x (e s.bytes s.mem) s.reads

-- what is known of the messages so far and of those that are sent now
pub more_formed : (ms new : List Msg) → ((m : Msg) → Memᴰ m ms → WellFormed m) → Each WellFormed new → (m : Msg) → Memᴰ m (ms ++ new) → WellFormed m
more_formed ms new f h m x = go (Memᴰ.append_cases ms x)
  where
    go : Memᴰ m ms ⊎ Memᴰ m new → WellFormed m
    go (inl y) = f m y
    go (inr y) = each_at WellFormed new h m y

pub more_wire : (bs : List (List ℕ)) (ms new : List Msg) → Carries bs ms → Carries (bs ++ map layout new) (ms ++ new)
more_wire bs ms new w b h = subst (Memᴰ b) (sym (map-append layout ms new)) (go (Memᴰ.append_cases bs h))
  where
    go : Memᴰ b bs ⊎ Memᴰ b (map layout new) → Memᴰ b (map layout ms ++ map layout new)
    go (inl x) = Memᴰ.append_left (map layout new) (w b x)
    go (inr x) = Memᴰ.append_right (map layout ms) x

-- messages that are known carry the same bytes, where more are known
pub less_wire : (bs : List (List ℕ)) (ms new : List Msg) → Carries bs ms → Carries bs (ms ++ new)
less_wire bs ms new w b h = subst (Memᴰ b) (sym (map-append layout ms new)) (Memᴰ.append_left (map layout new) (w b h))

-- WHAT THE KEEPER SENDS

pub recalls_formed : (q j : ℕ) (bs : List Bool) → q < 16384 → j + length bs ≤ 32 → Each WellFormed (recalls q j bs)
recalls_formed q j [] h l = tt
recalls_formed q j (true ∷ bs) h l = ((omega arith, h), recalls_formed q (suc j) bs h (omega arith))
recalls_formed q j (false ∷ bs) h l = recalls_formed q (suc j) bs h (omega arith)

pub marks_long : (p : Lease → Bool) (ls : List Lease) → length (marks_of p ls) ≡ 32
unfolding marks_of
marks_long p ls = length-map-range_with_len (λ w. list_any (of_borrower p w) ls) 0 32

-- A BORROWER'S NUMBERS

pub near_small : (f : OnFile) (p : Part) → Near f p → (f.ask ≤ 4294967295) × (f.write ≤ 4294967295)
near_small f p n = (omega (arith, n.ask_rounded), omega (arith, n.write_rounded))
