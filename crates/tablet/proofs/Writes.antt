-- The bytes of a write, as they were put into the buffer.
use Rattle.std.proofs.Common.{◌≡◌, ℕ, ◌≤◌, Bool, true, false, List, ◌++◌, length, take, drop, Some, None, Option, refl, sym, ap, ◌∙◌, arith, subst}
use Rattle.std.specs.Prelude.{if◌then◌else◌, ◌==◌}
use Rattle.std.specs.Option.{unwrap_or}
use Rattle.std.proofs.lemmas.List.{take-append-le, take_all}
use Rattle.lines.specs.Hex.{is_hex, hex_bytes, fronted}
use Rattle.machine.specs.Inputs.{Call, Write}
use Rattle.startup.specs.Lines.{room}
use Rattle.tablet.specs.Calls.{write_of}

front : (k : ℕ) (bs out : List ℕ) → length bs ≡ k → k ≤ length out → take k (fronted bs out) ≡ bs
front k bs out e h =
    let all : take (length out) bs ≡ bs = take_all (length out) bs (omega (arith, e, h)) in
    ap (λ (l : List ℕ). take k (l ++ drop (length bs) out)) all ∙ take-append-le k bs (drop (length bs) out) (omega (arith, e))
    ∙ take_all k bs (omega (arith, e))

pub write_is : (q n : ℕ) (w out new part : List ℕ) → n ≡ 1024 → length out ≡ room → part ≡ take 1024 new
    → Some n ≡ (if is_hex w then Some (length (hex_bytes w)) else None) → new ≡ (if is_hex w then fronted (hex_bytes w) out else out)
    → Some (Write q part) ≡ write_of q w
write_is q n w out new part big long is c a =
    let P : Bool → Type 0 = λ v. Some n ≡ (if v then Some (length (hex_bytes w)) else None) → new ≡ (if v then fronted (hex_bytes w) out else out)
    → Some (Write q part) ≡ (if v then (if length (hex_bytes w) == 1024 then Some (Write q (hex_bytes w)) else None) else None) in
    (elim (is_hex w) as P [
      | true ↦ λ x y.
          let e : length (hex_bytes w) ≡ 1024 = sym (ap (λ o. unwrap_or o 0) x) ∙ big in
          let K : ℕ → Type 0 = λ k. Some (Write q part) ≡ (if k == 1024 then Some (Write q (hex_bytes w)) else None) in
          subst K (sym e) (ap (λ (v : List ℕ). Some (Write q v)) (is ∙ ap (take 1024) y ∙ front 1024 (hex_bytes w) out e (omega (arith, long))))
      | false ↦ λ x y. cc
    ]) c a
