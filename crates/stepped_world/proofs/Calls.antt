-- Each call and each message at a borrower keeps what holds.
use Rattle.std.proofs.Common.{◌≡◌, ℕ, suc, ◌+◌, ◌^◌, ◌<◌, ◌≤◌, false, ◌||◌, leb, ◌⊎◌, List, [], ◌∷◌, ◌++◌, length, Ok, Err, Result, sym, refl, ap, ◌∙◌, subst, inl, inr, arith}
use mathlib.Core.List.Memᴰ
use mathlib.Core.List.{Memᴰ}
use Rattle.std.proofs.lemmas.Bool.{cond_both, eq-eqb, ne_eqb, leb-false, or_parts, cases_lt, both_ways}
use Rattle.part.specs.Parts.{at_1}
use Rattle.clock.specs.Moments.{Moment}
use Rattle.message.specs.declared.kind.Kind.{Kind}
use Rattle.message.specs.declared.refusal.Refusal.{Refusal}
use Rattle.message.specs.declared.refusal.Refusal.TheVariants.{HoldsCopy, Exhausted}
use Rattle.message.specs.Format.{Msg, Ask, Loan, Write, Back, WellFormed}
use Rattle.borrowing.specs.declared.hold.Held.{Held as InHand}
use Rattle.borrowing.specs.declared.hold.Part.{Part}
use Rattle.borrowing.specs.declared.on_file.OnFile.{OnFile}
use Rattle.borrowing.specs.declared.hold.Asked.{Asked}
use Rattle.borrowing.specs.Parts.{last_number, copy, holds, released, settled, asking, ask_of, writable, wrote, write_by, write_of, lent}
use Rattle.borrowing.specs.Rules.{asks, writes}
use Rattle.stepped_world.proofs.Used.{Near, on_file, Small, after, filed_up, Settled, settling, small_write, released_small, recall_covered}
use Rattle.stepped_world.specs.World.{World, with_borrower}
use Rattle.stepped_world.specs.Runs.{Put}
use Rattle.stepped_world.proofs.Inv.{Setting, Held, Inv, Moved, moved_refl, moved_trans, Each}
use Rattle.stepped_world.proofs.Move.{overtake, release_moves, filing_moves, settle_moves, none_held, settle_held}
use Rattle.stepped_world.proofs.Borrow.{held_more, WriteOf}
use Rattle.stepped_world.proofs.View.{view, stepped, part_moves}

holds_none : (p : Part) → holds p.hold ≡ false → (k : Kind) (a : ℕ) → p.hold ≡ copy k a → ⊥
holds_none p e k a c = both_ways (holds p.hold) e (ap holds c)

-- copies that are the same are of one kind and of one time
same_copy : (k l : Kind) (a b : ℕ) → copy k a ≡ copy l b → (k ≡ l) × (a ≡ b)
same_copy k l a b e = let s : ◌≡◌ {A = InHand} (record { kind = k; asked = a }) (record { kind = l; asked = b }) = cc in (ap (λ (x : InHand). x.kind) s, ap (λ (x : InHand). x.asked) s)

pub nobody : (x y : Msg) → Memᴰ x [] → Memᴰ y [] → WriteOf x → x ≡ y
nobody x y h = elim h [ ]

alone : (m : Msg) (x y : Msg) → Memᴰ x (m ∷ []) → Memᴰ y (m ∷ []) → WriteOf x → x ≡ y
alone m x y s t z = Memᴰ.eq_of_singleton s ∙ sym (Memᴰ.eq_of_singleton t)

module _ (S : Setting) (w : World) (past : List Moment) (ms : List Msg) (H : List Put) (inv : Inv S (view w past ms H)) (i q : ℕ) (file : List ℕ) (few : i < 32) (place : q < 16384) where
  abbrev p : Part
  p = (w.borrower i).volatile.parts q

  abbrev d : OnFile
  d = (w.borrower i).durable q

  abbrev cs : ℕ → List ℕ
  cs = (w.borrower i).volatile.copies

  near : Near d p
  near = inv.near i q

  small : p.write ≤ 4294967295
  small = small_write d p near

  abbrev AfterStep : Part → (ℕ → List ℕ) → List Msg → Type 0
  AfterStep p' c new = Inv S (view (with_borrower i (stepped S w past ms H inv i q p' c file) w) past (ms ++ new) H)

  -- what is left of the part, the copies and what is sent
  pub record Leaves (p' : Part) (c : ℕ → List ℕ) (new : List Msg) : Type 0 where
    pub small : Small p'
    pub formed : Each WellFormed new
    pub fits : AfterStep p' c new

  -- the part changes and nothing is sent
  silent : (p' : Part) → Small p' → Moved p d p' d → Held ms i q p' (cs q) → Leaves p' cs []
  silent p' s mv hd =
      let u = filed_up p p' d s in
      record { small = s; formed = tt; fits = part_moves S w past ms H inv i q p' cs file [] (moved_trans mv (filing_moves p' d _ u.0 u.1)) (after p p' d near s).0 tt nobody (λ r ne. refl) (held_more ms [] i q p' (cs q) hd) }

  module _ (c s : ℕ) where
    abbrev p1 : Part
    p1 = settled c s p

    se : Settled p p1
    se = settling c s p near.ask_last

    sw : p1.write ≤ 4294967295
    sw = omega (arith, se.2, small)

    settled_moves : Moved p d p1 d
    settled_moves = settle_moves c s p d

    settled_held : Held ms i q p1 (cs q)
    settled_held = settle_held ms i q c s p (cs q) (inv.held i q)

    pub still : Leaves p1 cs []
    still = silent p1 (se.1, sw) settled_moves settled_held

    asked_inv : (k : Kind) → c ≡ w.now.hand (suc i) → holds p1.hold ≡ false → p1.ask < 4294967294 → Leaves (asking c p1) cs (Ask i q (p1.ask + 1) k p1.write ∷ [])
    asked_inv k clock none room =
        let a = after p (asking c p1) d near (omega (arith, room), sw) in
        let v = a.1 (inl (omega (arith, se.0))) in
        let u = filed_up p (asking c p1) d (omega (arith, room), sw) in
        record {
          small = (omega (arith, room), sw);
          formed = (((few, place, omega (arith, room)), omega (arith, sw)), tt);
          fits = part_moves S w past ms H inv i q (asking c p1) cs file (Ask i q (p1.ask + 1) k p1.write ∷ [])
              (moved_trans settled_moves (overtake p1 d (asking c p1) _ (λ m h. omega (arith, h.asked)) u.0 (λ m h x. let y : m < p1.ask = h.asked (omega (arith, x)) in omega arith) (λ n h. record { written = h.written; filed = omega (arith, h.filed, u.1) }) (λ h. omega (arith, u.1))))
              a.0 (
                (
                  refl,
                  refl,
                  tt,
                  (
                    record { pos = omega arith; small = omega (arith, room); asked = omega arith; filed = v.0 },
                    (λ e. record { wrote = refl; time = w.now; before = Memᴰ.head refl; is = clock }),
                    record { written = omega arith; filed = v.1 },
                  ),
                  tt,
                ),
                tt,
              )
              (alone (Ask i q (p1.ask + 1) k p1.write)) (λ r ne. refl)
              (λ l b h. absurd (holds_none p1 none l b h));
        }

    pub ask_inv : (k : Kind) → c ≡ w.now.hand (suc i) → Leaves (ask_of c s p1).0 cs (asks i q k (ask_of c s p1).1).sends
    ask_inv k clock =
        cond_both (holds p1.hold) (p1, Err HoldsCopy) _ M (λ e. still)
        (λ e. cond_both (leb 4294967294 p1.ask || leb (2 ^ 64) (c + s)) (p1, Err Exhausted) _ M (λ t. still)
        (λ t. asked_inv k clock e (leb-false 4294967294 p1.ask (or_parts (leb 4294967294 p1.ask) _ t).0)))
      where
        M : Part × Result Asked Refusal → Type 0
        M r = Leaves r.0 cs (asks i q k r.1).sends

    wrote_inv : (v : List ℕ) → length v ≡ 1024 → p1.write < 4294967295 → Leaves (wrote p1) cs (Write i q (p1.write + 1) v ∷ [])
    wrote_inv v long room =
        let a = after p (wrote p1) d near (omega arith, omega (arith, room)) in
        let b = a.1 (inr (omega (arith, se.2))) in
        let u = filed_up p (wrote p1) d (omega arith, omega (arith, room)) in
        record {
          small = (omega arith, omega (arith, room));
          formed = (((few, place, omega (arith, room)), long), tt);
          fits = part_moves S w past ms H inv i q (wrote p1) cs file (Write i q (p1.write + 1) v ∷ [])
              (moved_trans settled_moves (overtake p1 d (wrote p1) _ (λ m h. omega (arith, h.asked, h.small)) u.0 (λ m h x. omega (arith, h.asked)) (λ n h. record { written = omega (arith, h.written); filed = omega (arith, h.filed, u.1) }) (λ h. omega (arith, b.1))))
              a.0
              ((refl, refl, tt, record { written = omega arith; filed = b.1 }, omega (arith, se.2)), tt)
              (alone (Write i q (p1.write + 1) v)) (λ r ne. refl)
              (none_held _ i q (wrote p1) (cs q) refl);
        }

    pub write_inv : (v : List ℕ) → length v ≡ 1024 → Leaves (write_of p1).0 cs (writes i q v (write_of p1).1).sends
    write_inv v long = go (writable p1.hold)
      where
        M : Part × Result ℕ Refusal → Type 0
        M r = Leaves r.0 cs (writes i q v r.1).sends

        go : (r : Result (Unit {0}) Refusal) → M (write_by p1 r)
        go (Err e) = still
        go (Ok u) = cond_both (leb last_number p1.write) (p1, Err Exhausted) (wrote p1, Ok (p1.write + 1)) M (λ t. still) (λ t. wrote_inv v long (leb-false last_number p1.write t))

  pub forget_inv : Leaves (released p) cs []
  forget_inv = silent (released p) (released_small p small) (release_moves p d d (omega arith) (omega arith)) (none_held ms i q (released p) (cs q) refl)

  pub recall_inv : Leaves (released p) cs (Back i q p.ask ∷ [])
  recall_inv =
      let s = released_small p small in
      let a = after p (released p) d near s in
      let u = filed_up p (released p) d s in
      record {
        small = s;
        formed = ((few, place, omega (arith, near.ask_last)), tt);
        fits = part_moves S w past ms H inv i q (released p) cs file (Back i q p.ask ∷ [])
            (release_moves p d _ u.0 u.1) a.0
            ((refl, refl, tt, record { asked = λ x. omega arith; filed = gone (cases_lt p.ask last_number) a.1 }, tt), tt)
            (alone (Back i q p.ask)) (λ r ne. refl)
            (none_held _ i q (released p) (cs q) refl);
      }
    where
      gone : (p.ask < last_number) ⊎ (last_number ≤ p.ask) → ((p.ask < (released p).ask) ⊎ (p.write < (released p).write) → ((released p).ask ≤ (on_file p d (released p)).ask) × ((released p).write ≤ (on_file p d (released p)).write)) →
          (on_file p d (released p)).ask < last_number → p.ask < (on_file p d (released p)).ask
      gone (inl h) f x = omega (arith, (f (inl (omega arith))).0)
      gone (inr h) f x = absurd (omega (arith, (recall_covered p d near).1))

  -- a loan that is not taken
  pub kept : Leaves p cs []
  kept = silent p (near.ask_last, small) (moved_refl p d) (inv.held i q)

  -- and one that is
  pub takes : (k : Kind) (v : List ℕ) → Memᴰ (Loan i q p.ask k v) ms → Leaves (lent k p) (at_1 q v cs) []
  takes k v mem =
      let u = filed_up p (lent k p) d (near.ask_last, small) in
      record {
        small = (near.ask_last, small);
        formed = tt;
        fits = part_moves S w past ms H inv i q (lent k p) (at_1 q v cs) file []
            (moved_trans (record { asks = λ n h. record { pos = h.pos; small = h.small; asked = h.asked; filed = h.filed }; same = λ n h e. (e, refl, refl); backs = λ n h. record { asked = h.asked; filed = h.filed }; writes = λ n h. record { written = h.written; filed = h.filed }; files = λ h. (omega arith, h) }) (filing_moves (lent k p) d _ u.0 u.1))
            (after p (lent k p) d near (near.ask_last, small)).0 tt nobody
            (λ r ne. simp (ne_eqb r q ne)) (subst (λ (x : List ℕ). Held (ms ++ []) i q (lent k p) x) (sym here) held);
      }
    where
      here : at_1 q v cs q ≡ v
      here = simp (eq-eqb q q refl)

      held : Held (ms ++ []) i q (lent k p) v
      held l a h = let s = same_copy k l p.asked a h in let m : Loan i q p.ask l v ≡ Loan i q p.ask k v = cc in (Memᴰ.append_left [] (Memᴰ.cast m mem), sym s.1)
