-- What a borrower does keeps what holds.
use Rattle.std.proofs.Common.{◌≡◌, ℕ, eqb, ◌⊎◌, List, ◌++◌, sym, subst, inl, inr, arith}
use mathlib.Core.List.Memᴰ
use mathlib.Core.List.{Memᴰ}
use Rattle.std.proofs.lemmas.Bool.{eqb-true, eqb-false, cond_both}
use Rattle.part.specs.Parts.{at_1}
use Rattle.message.specs.declared.kind.Kind.{Kind}
use Rattle.message.specs.Format.{Msg, Ask, Loan, Write, In, Void, Recall, Back}
use Rattle.borrowing.specs.declared.hold.Part.{Part}
use Rattle.borrowing.specs.declared.on_file.OnFile.{OnFile}
use Rattle.stepped_world.proofs.Used.{Near}
use Rattle.stepped_world.proofs.Inv.{Setting, State, who, place, NoLoan, Fine, Held, Inv, Moved, live_moved, fine_moved, Newer}

-- what holds of the one that changed and of all others holds of all
pub at_both : {A : Type 0} (i : ℕ) (v : A) (f : ℕ → A) (P : ℕ → A → Type 0) → P i v → ((j : ℕ) → (j ≡ i → ⊥) → P j (f j)) → (j : ℕ) → P j (at_1 i v f j)
at_both i v f P here there j = cond_both (eqb j i) v (f j) (P j) (λ e. subst (λ (x : ℕ). P x v) (sym (eqb-true j i e)) here) (λ e. there j (eqb-false j i e))

abbrev pub WriteOf : Msg → Type 0
WriteOf (Ask i q m k n) = ⊥
WriteOf (Loan i q m k v) = ⊥
WriteOf (Write i q n v) = Unit {0}
WriteOf (In i q n) = ⊥
WriteOf (Void i q n) = ⊥
WriteOf (Recall i q) = ⊥
WriteOf (Back i q m) = ⊥

-- the same but for the borrowers and what was sent
abbrev pub moving : State → (ℕ → ℕ → Part) → (ℕ → ℕ → OnFile) → (ℕ → ℕ → List ℕ) → List Msg → State
moving w f g cs sent = record { now = w.now; past = w.past; keeper = w.keeper; part = f; disk = g; copy = cs; sent = sent; applied = w.applied }

-- all borrowers' parts move on, and only messages of theirs are new
pub moves : (S : Setting) (w : State) → Inv S w → (f : ℕ → ℕ → Part) (g : ℕ → ℕ → OnFile) (cs : ℕ → ℕ → List ℕ) (new : List Msg) →
    ((j r : ℕ) → Moved (w.part j r) (w.disk j r) (f j r) (g j r)) →
    ((j r : ℕ) → Near (g j r) (f j r)) →
    ((m : Msg) → Memᴰ m new → NoLoan m × Fine S w.now w.past w.keeper w.applied (f (who m) (place m)) (g (who m) (place m)) m) →
    ((m : Msg) → Memᴰ m new → Newer (w.part (who m) (place m)) m) →
    ((a b : Msg) → Memᴰ a new → Memᴰ b new → WriteOf a → a ≡ b) →
    ((j r : ℕ) → Held (w.sent ++ new) j r (f j r) (cs j r)) →
    Inv S (moving w f g cs (w.sent ++ new))
moves S w inv f g cs new mv near news newer single held =
    record {
      mail = λ m h. mail m (split m h);
      held = held;
      apart = λ i j q m n k l u v ne a b x y.
          let a' = old i q m k u a in
          let b' = old j q n l v b in
          inv.apart i j q m n k l u v ne a' b' (live_moved (mv i q) (inv.mail (Loan i q m k u) a').0 x) (live_moved (mv j q) (inv.mail (Loan j q n l v) b').0 y);
      excl = inv.excl;
      newest = inv.newest;
      done_in = inv.done_in;
      puts = λ p h. ((inv.puts p h).0, Memᴰ.append_left new (inv.puts p h).1);
      once = inv.once;
      known = λ i q. ((mv i q).writes _ (inv.known i q).0, (mv i q).writes _ (inv.known i q).1);
      near = near;
      one_bytes = λ i q n u v s t. one i q n u v (split _ s) (split _ t);
    }
  where
    split : (m : Msg) → Memᴰ m (w.sent ++ new) → Memᴰ m w.sent ⊎ Memᴰ m new
    split m h = Memᴰ.append_cases w.sent h

    one : (i q n : ℕ) (u v : List ℕ) → Memᴰ (Write i q n u) w.sent ⊎ Memᴰ (Write i q n u) new → Memᴰ (Write i q n v) w.sent ⊎ Memᴰ (Write i q n v) new → u ≡ v
    one i q n u v (inl s) (inl t) = inv.one_bytes i q n u v s t
    one i q n u v (inl s) (inr t) = absurd (omega (arith, newer (Write i q n v) t, (inv.mail (Write i q n u) s).written))
    one i q n u v (inr s) (inl t) = absurd (omega (arith, newer (Write i q n u) s, (inv.mail (Write i q n v) t).written))
    one i q n u v (inr s) (inr t) = let e = single (Write i q n u) (Write i q n v) s t tt in cc

    mail : (m : Msg) → Memᴰ m w.sent ⊎ Memᴰ m new → Fine S w.now w.past w.keeper w.applied (f (who m) (place m)) (g (who m) (place m)) m
    mail m (inl h) = fine_moved S w.now w.past w.keeper w.applied _ _ _ _ (mv (who m) (place m)) m (inv.mail m h)
    mail m (inr h) = (news m h).1

    old : (i q m : ℕ) (k : Kind) (v : List ℕ) → Memᴰ (Loan i q m k v) (w.sent ++ new) → Memᴰ (Loan i q m k v) w.sent
    old i q m k v h = go (split _ h)
      where
        go : Memᴰ (Loan i q m k v) w.sent ⊎ Memᴰ (Loan i q m k v) new → Memᴰ (Loan i q m k v) w.sent
        go (inl x) = x
        go (inr x) = absurd (news (Loan i q m k v) x).0

pub held_more : (sent new : List Msg) (i q : ℕ) (p : Part) (v : List ℕ) → Held sent i q p v → Held (sent ++ new) i q p v
held_more sent new i q p v h k a e = (Memᴰ.append_left new (h k a e).0, (h k a e).1)
