use Rattle.std.proofs.Common.{◌≡◌, ℕ, ◌-◌, ◌≤◌, List, ◌∷◌, ◌++◌, length, take, drop, sym, ap, ◌∙◌, arith}
use Rattle.std.proofs.lemmas.List.{take-append-drop, drop-drop, take_rest, length-take-le, length-drop}
use Rattle.part.specs.Bytes.{headed}
use Rattle.journal.proofs.entry.applied.Goals as goal

-- a head, a part and the bytes behind it
parted : (ys v : List ℕ) (w q n : ℕ) → 1031 ≤ length ys → headed w q n (drop 7 ys) ≡ ys → v ≡ take 1024 (take (length ys - 7) (drop 7 ys))
    → (length v ≡ 1024) × (◌≡◌ {A = List ℕ} (8 ∷ ys) (8 ∷ headed w q n (v ++ drop 1031 ys)))
parted ys v w q n l e f =
    let zs : List ℕ = drop 7 ys in
    let g : v ≡ take 1024 zs = f ∙ ap (take 1024) (take_rest ys 7) in
    let a : zs ≡ v ++ drop 1031 ys =
    sym (take-append-drop 1024 zs) ∙ ap (λ (k : List ℕ). take 1024 zs ++ k) (drop-drop 1024 7 ys) ∙ ap (λ (k : List ℕ). k ++ drop 1031 ys) (sym g) in (
      ap length g ∙ length-take-le 1024 zs (omega (arith, length-drop 7 ys)),
      ap (λ (k : List ℕ). 8 ∷ k) (sym e ∙ ap (headed w q n) a),
    )

pub returns : goal.returns
returns c =
    let h = rw c.in_ok-head.ensures.ok_part at c.read.ensures in
    let k = rw c.in_ok-part.ensures.ok_part at c.first_chunk.ensures.cases in
    let p = parted c.args.body.now c.in_ok-part.part.now _ _ _ (omega arith) h.is k.same in
    (((h.named, p.0), tt), omega (arith, p.0), p.1)
