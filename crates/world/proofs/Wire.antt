-- The network: what arrives is a message that was sent, or none; and what is sent can be read.
-- Assumes nothing.
use Rattle.std.proofs.Common.{◌≡◌, ℕ, zero, suc, ◌+◌, ◌^◌, ◌<◌, ◌≤◌, Bool, true, false, ltb, leb, ◌⊎◌, List, [], ◌∷◌, ◌++◌, map, length, get_or, take, Some, Ok, Err, count_by, Result, sym, refl, ap, ◌∙◌, subst, inl, inr, arith}
use mathlib.Core.List.Memᴰ
use mathlib.Core.List.{Memᴰ}
use Rattle.std.proofs.lemmas.List.{take_all, map-append}
use Rattle.std.proofs.lemmas.List.FromFn.{length-map-range_with_len}
use Rattle.std.proofs.lemmas.Bool.{cond_both, cases_lt}
use Rattle.part.specs.Bytes.{Named}
use Rattle.message.specs.declared.kind.Kind.{Kind}
use Rattle.message.specs.declared.refusal.Refusal.{Refusal}
use Rattle.message.specs.Format.{Msg, Ask, Loan, Write, In, Void, Recall, Back, WellFormed, layout}
use Rattle.message.specs.Reading.{read}
use Rattle.message.proofs.Reading.{read_layout, read_some}
use Rattle.message.proofs.Unique.{cut_short, distinct}
use Rattle.lease.specs.declared.lease.Lease.{Lease}
use Rattle.lease.specs.Leases.{barring, running, of_borrower}
use Rattle.std.specs.List.{list_any}
use Rattle.lease.specs.Tables.{marks_of}
use Rattle.lender.specs.declared.answer.AskAnswer.{AskAnswer}
use Rattle.lender.specs.declared.answer.AskAnswer.TheVariants as ask
use Rattle.lender.specs.declared.answer.WriteAnswer.{WriteAnswer}
use Rattle.lender.specs.declared.answer.WriteAnswer.TheVariants as write
use Rattle.lender.specs.Rules.{Book, voids, recalls, ask_sends, write_sends, ask_answer, write_answer}
use Rattle.lender.specs.Replies.{heard_effect}
use Rattle.borrower.specs.declared.hold.Part.{Part}
use Rattle.borrower.specs.declared.hold.OnFile.{OnFile}
use Rattle.borrower.specs.declared.hold.Asked.{Asked}
use Rattle.borrower.specs.declared.outcome.Call.{Call}
use Rattle.borrower.specs.declared.outcome.Call.TheVariants as call
use Rattle.borrower.specs.Outcomes.{call_effect}
use Rattle.borrower.specs.Outcomes.{ask_sends as ask_sent, write_sends as write_sent}
use Rattle.borrower.specs.Used.{Near, AllUsed}
use Rattle.borrower.proofs.Used.{covered}
use Rattle.world.specs.World.{World}
use Rattle.world.specs.Promise.{Sent}
use Rattle.world.proofs.Inv.{Each, each_at}

tag_first : (m : Msg) → layout m ≡ [] → ⊥
tag_first m e = let z : ◌≡◌ {A = ℕ} (length (layout m)) 0 = ap length e in omega (arith, z)

-- what is read of the first bytes of a message that was sent is that message
same : (m x : Msg) (n : ℕ) → WellFormed m → read (take n (layout m)) ≡ Some x → x ≡ m
same m x n f e = go (cases_lt n (length (layout m))) (read_some (take n (layout m)) x e)
  where
    go : (n < length (layout m)) ⊎ (length (layout m) ≤ n) → WellFormed x × (layout x ≡ take n (layout m)) → x ≡ m
    go (inl h) r = absurd (cut_short m f n h x r.0 r.1)
    go (inr h) r = distinct x m r.0 f (r.1 ∙ take_all n (layout m) h)

-- these bytes are those of messages
abbrev pub Carries : List (List ℕ) → List Msg → Type 0
Carries bs ms = (b : List ℕ) → Memᴰ b bs → Memᴰ b (map layout ms)

from_cut : (ms : List Msg) → ((m : Msg) → Memᴰ m ms → WellFormed m) → (b : List ℕ) (n : ℕ) (x : Msg) → Memᴰ b (map layout ms) → read (take n b) ≡ Some x → Memᴰ x ms
from_cut [] f b n x h e = elim h [ ]
from_cut (m ∷ ms) f b n x (Memᴰ.head p) e = Memᴰ.head (same m x n (f m (Memᴰ.head refl)) (ap (λ (y : List ℕ). read (take n y)) (sym p) ∙ e))
from_cut (m ∷ ms) f b n x (Memᴰ.tail p) e = Memᴰ.tail (from_cut ms (λ y h. f y (Memᴰ.tail h)) b n x p e)

-- what stands at a place of a list is one of it, or nothing
one_of : (bs : List (List ℕ)) (k : ℕ) → (get_or bs k [] ≡ []) ⊎ Memᴰ (get_or bs k []) bs
one_of [] zero = inl refl
one_of [] (suc k) = inl refl
one_of (b ∷ bs) zero = inr (Memᴰ.head refl)
one_of (b ∷ bs) (suc k) = go (one_of bs k)
  where
    go : (get_or bs k [] ≡ []) ⊎ Memᴰ (get_or bs k []) bs → (get_or bs k [] ≡ []) ⊎ Memᴰ (get_or bs k []) (b ∷ bs)
    go (inl e) = inl e
    go (inr h) = inr (Memᴰ.tail h)

pub arrives : (bs : List (List ℕ)) (ms : List Msg) → Carries bs ms → ((m : Msg) → Memᴰ m ms → WellFormed m) → (k n : ℕ) (x : Msg) → read (take n (get_or bs k [])) ≡ Some x → Memᴰ x ms
arrives bs ms w f k n x e = go (one_of bs k)
  where
    go : (get_or bs k [] ≡ []) ⊎ Memᴰ (get_or bs k []) bs → Memᴰ x ms
    go (inl z) = absurd (tag_first x ((read_some _ x e).1 ∙ ap (take n) z ∙ take_all n [] (omega arith)))
    go (inr h) = from_cut ms f (get_or bs k []) n x (w _ h) e

-- bytes that were sent are those of a message
pub from_bytes : (ms : List Msg) → ((m : Msg) → Memᴰ m ms → WellFormed m) → (b : List ℕ) (x : Msg) → Memᴰ b (map layout ms) → read b ≡ Some x → Memᴰ x ms
from_bytes [] f b x h e = elim h [ ]
from_bytes (m ∷ ms) f b x (Memᴰ.head p) e = Memᴰ.head (cc' (sym (read_layout m (f m (Memᴰ.head refl))) ∙ ap read (sym p) ∙ e))
  where
    cc' : Some m ≡ Some x → x ≡ m
    cc' z = cc
from_bytes (m ∷ ms) f b x (Memᴰ.tail p) e = Memᴰ.tail (from_bytes ms (λ y h. f y (Memᴰ.tail h)) b x p e)

pub was_sent : (w : World) (ms : List Msg) → Carries w.sent ms → ((m : Msg) → Memᴰ m ms → WellFormed m) → (x : Msg) → Sent w x → Memᴰ x ms
was_sent w ms e f x s = from_bytes ms f s.bytes x (e s.bytes s.mem) s.reads

-- what is known of the messages so far and of those that are sent now
pub more_formed : (ms new : List Msg) → ((m : Msg) → Memᴰ m ms → WellFormed m) → Each WellFormed new → (m : Msg) → Memᴰ m (ms ++ new) → WellFormed m
more_formed ms new f h m x = go (Memᴰ.append_cases ms x)
  where
    go : Memᴰ m ms ⊎ Memᴰ m new → WellFormed m
    go (inl y) = f m y
    go (inr y) = each_at WellFormed new h m y

pub more_wire : (bs : List (List ℕ)) (ms new : List Msg) → Carries bs ms → Carries (bs ++ map layout new) (ms ++ new)
more_wire bs ms new w b h = subst (Memᴰ b) (sym (map-append layout ms new)) (go (Memᴰ.append_cases bs h))
  where
    go : Memᴰ b bs ⊎ Memᴰ b (map layout new) → Memᴰ b (map layout ms ++ map layout new)
    go (inl x) = Memᴰ.append_left (map layout new) (w b x)
    go (inr x) = Memᴰ.append_right (map layout ms) x

-- messages that are known carry the same bytes, where more are known
pub less_wire : (bs : List (List ℕ)) (ms new : List Msg) → Carries bs ms → Carries bs (ms ++ new)
less_wire bs ms new w b h = subst (Memᴰ b) (sym (map-append layout ms new)) (Memᴰ.append_left (map layout new) (w b h))

-- WHAT THE KEEPER SENDS

recalls_formed : (q j : ℕ) (bs : List Bool) → q < 16384 → j + length bs ≤ 32 → Each WellFormed (recalls q j bs)
recalls_formed q j [] h l = tt
recalls_formed q j (true ∷ bs) h l = ((omega arith, h), recalls_formed q (suc j) bs h (omega arith))
recalls_formed q j (false ∷ bs) h l = recalls_formed q (suc j) bs h (omega arith)

marks_long : (p : Lease → Bool) (ls : List Lease) → length (marks_of p ls) ≡ 32
unfolding marks_of
marks_long p ls = length-map-range_with_len (λ w. list_any (of_borrower p w) ls) 0 32

ask_formed : (c i q n : ℕ) (k : Kind) (l : ℕ) (v : List ℕ) (b : Book) → Named i q n → length v ≡ 1024 → Each WellFormed (ask_sends i q n k v (ask_answer c i q k l b))
ask_formed c i q n k l v b h s =
    cond_both (ltb c b.quiet) ask.Quiet _ P (λ e. tt) λ e.
    cond_both (list_any (barring c i q k) b.leases) (ask.Barred (marks_of (barring c i q k) b.leases)) _ P (λ e. recalls_formed q 0 (marks_of (barring c i q k) b.leases) h.1 (omega (arith, marks_long (barring c i q k) b.leases))) λ e.
    cond_both (leb (2 ^ 64) (c + b.long)) ask.Exhausted _ P (λ e. tt) λ e.
    cond_both (leb 4096 (count_by (running c) b.leases)) ask.Exhausted (ask.Granted (voids i q l b)) P (λ e. tt) λ e. ((h, s), tt)
  where
    P : AskAnswer → Type 0
    P a = Each WellFormed (ask_sends i q n k v a)

write_formed : (i q n : ℕ) (a : WriteAnswer) → Named i q n → Each WellFormed (write_sends i q n a)
write_formed i q n write.Applied h = (h, tt)
write_formed i q n write.Again h = (h, tt)
write_formed i q n write.Void h = (h, tt)
write_formed i q n write.Passed h = tt
write_formed i q n write.Quiet h = tt

pub keeper_formed : (c : ℕ) (m : Msg) → WellFormed m → (b : Book) (f : ℕ → List ℕ) → ((q : ℕ) → q < 16384 → length (f q) ≡ 1024) → Each WellFormed (heard_effect c (Some m) b f).sends
keeper_formed c (Ask i q n k l) h b f s = ask_formed c i q n k l (f q) b h.0 (s q h.0.1)
keeper_formed c (Loan i q n k v) h b f s = tt
keeper_formed c (Write i q n v) h b f s = write_formed i q n (write_answer c i q n b) h.0
keeper_formed c (In i q n) h b f s = tt
keeper_formed c (Void i q n) h b f s = tt
keeper_formed c (Recall i q) h b f s = tt
keeper_formed c (Back i q n) h b f s = tt

-- WHAT A BORROWER SENDS

asked_formed : (i q : ℕ) (k : Kind) (f : OnFile) → i < 32 → q < 16384 → f.ask ≤ 4294967295 → f.write ≤ 4294967295 → (r : Result Asked Refusal) → AllUsed f (ask_sent i q k r) → Each WellFormed (ask_sent i q k r)
asked_formed i q k f a b c d (Ok x) u = (((a, b, omega (arith, u.0.0)), omega (arith, u.0.1)), tt)
asked_formed i q k f a b c d (Err e) u = tt

wrote_formed : (i q : ℕ) (v : List ℕ) (f : OnFile) → i < 32 → q < 16384 → length v ≡ 1024 → f.write ≤ 4294967295 → (r : Result ℕ Refusal) → AllUsed f (write_sent i q v r) → Each WellFormed (write_sent i q v r)
wrote_formed i q v f a b l d (Ok x) u = (((a, b, omega (arith, u.0)), l), tt)
wrote_formed i q v f a b l d (Err e) u = tt

pub near_small : (f : OnFile) (p : Part) → Near f p → (f.ask ≤ 4294967295) × (f.write ≤ 4294967295)
near_small f p n = (omega (arith, n.ask_rounded), omega (arith, n.write_rounded))

pub call_formed : (i q : ℕ) (v : List ℕ) (c s : ℕ) (k : Call) (p : Part) (f : OnFile) → Near f p → i < 32 → q < 16384 → length v ≡ 1024 → Each WellFormed (call_effect i q v c s k p f).sends
call_formed i q v c s (call.Ask k) p f n a b l =
    let u = covered.call i q v c s (call.Ask k) p f n in let z = near_small _ _ u.0 in asked_formed i q k _ a b z.0 z.1 _ u.1
call_formed i q v c s call.Show p f n a b l = tt
call_formed i q v c s call.Write p f n a b l =
    let u = covered.call i q v c s call.Write p f n in let z = near_small _ _ u.0 in wrote_formed i q v _ a b l z.1 _ u.1
call_formed i q v c s call.Forget p f n a b l = tt
