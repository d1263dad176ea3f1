-- What each call and message does to a borrower's part lets all that was sent fit still.
use Rattle.std.proofs.Common.{◌≡◌, ℕ, ◌+◌, ◌<◌, ◌≤◌, min, Bool, true, false, cond, eqb, List, None, refl, arith}
use Rattle.std.proofs.lemmas.Bool.{cond_both, eqb-true}
use Rattle.message.specs.Format.{Msg}
use Rattle.borrowing.specs.declared.hold.Part.{Part}
use Rattle.borrowing.specs.declared.on_file.OnFile.{OnFile}
use Rattle.borrowing.specs.Parts.{last_number, stale, released, settled, come_up}
use Rattle.stepped_world.proofs.Inv.{Past, Gone, Wrote, Held, Moved, moved_refl}

-- every used number is overtaken
pub overtake : (p : Part) (d : OnFile) (p' : Part) (d' : OnFile) → ((m : ℕ) → Past p d m → m < p'.ask) → d.ask ≤ d'.ask → ((m : ℕ) → Gone p d m → p'.ask < last_number → m < p'.ask) →
    ((n : ℕ) → Wrote p d n → Wrote p' d' n) → (p.write ≤ d.write → (p.write ≤ p'.write) × (p'.write ≤ d'.write)) → Moved p d p' d'
overtake p d p' d' over file back wrote files =
    record {
      asks = λ m h. record { pos = h.pos; small = h.small; asked = omega (arith, over m h); filed = omega (arith, h.filed) };
      same = λ m h e. absurd (omega (arith, over m h));
      backs = λ m h. record { asked = back m h; filed = λ x. let y : m < d.ask = h.filed (omega arith) in omega arith };
      writes = wrote;
      files = files;
    }

-- a release, with what is on file no less than before
pub release_moves : (p : Part) (d d' : OnFile) → d.ask ≤ d'.ask → d.write ≤ d'.write → Moved p d (released p) d'
release_moves p d d' a b =
    overtake p d (released p) d' (λ m h. omega (arith, h.asked, h.small)) a (λ m h x. omega (arith, h.asked)) (λ n h. record { written = h.written; filed = omega (arith, h.filed) }) (λ h. omega arith)

-- only what is on file goes on
pub filing_moves : (p : Part) (d d' : OnFile) → d.ask ≤ d'.ask → d.write ≤ d'.write → Moved p d p d'
filing_moves p d d' a b =
    record {
      asks = λ m h. record { pos = h.pos; small = h.small; asked = h.asked; filed = omega (arith, h.filed) };
      same = λ m h e. (e, refl, refl);
      backs = λ m h. record { asked = h.asked; filed = λ x. let y : m < d.ask = h.filed (omega arith) in omega arith };
      writes = λ n h. record { written = h.written; filed = omega (arith, h.filed) };
      files = λ h. omega arith;
    }

pub settle_moves : (c s : ℕ) (p : Part) (d : OnFile) → Moved p d (settled c s p) d
settle_moves c s p d = cond_both (stale c s p.hold) (released p) p (λ x. Moved p d x d) (λ e. release_moves p d d (omega arith) (omega arith)) (λ e. moved_refl p d)

-- coming up with numbers that are no less than those on file
pub rise_moves : (p : Part) (d d' : OnFile) → d.ask ≤ d'.ask → d.write ≤ d'.write → p.write ≤ d.write → Moved p d (come_up d') d'
rise_moves p d d' a b below = go (eqb d'.ask 0) refl
  where
    go : (x : Bool) → eqb d'.ask 0 ≡ x → Moved p d (record { ask = cond x 0 (min last_number (d'.ask + 1)); write = d'.write; asked = 0; hold = None }) d'
    go true e = overtake p d _ d' (λ m h. omega (arith, h.pos, h.filed, eqb-true d'.ask 0 e)) a (λ m h x. let y : m < d.ask = h.filed (omega (arith, eqb-true d'.ask 0 e)) in omega (arith, eqb-true d'.ask 0 e)) (λ n h. record { written = omega (arith, h.filed); filed = omega (arith, h.filed) }) (λ h. omega arith)
    go false e = overtake p d _ d' (λ m h. omega (arith, h.small, h.filed)) a (λ m h x. let y : m < d.ask = h.filed (omega arith) in omega arith) (λ n h. record { written = omega (arith, h.filed); filed = omega (arith, h.filed) }) (λ h. omega arith)

pub none_held : (sent : List Msg) (i q : ℕ) (p : Part) (v : List ℕ) → p.hold ≡ None → Held sent i q p v
none_held sent i q p v e k a h = absurd (cc)

pub settle_held : (sent : List Msg) (i q c s : ℕ) (p : Part) (v : List ℕ) → Held sent i q p v → Held sent i q (settled c s p) v
settle_held sent i q c s p v hd = cond_both (stale c s p.hold) (released p) p (λ x. Held sent i q x v) (λ e. none_held sent i q (released p) v refl) (λ e. hd)
