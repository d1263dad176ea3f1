-- What the words of a line say, by what was read of them.
use Rattle.std.proofs.Common.{◌≡◌, ℕ, min, Bool, true, false, List, ◌∷◌, length, take, Some, None, Option, refl, sym, ap, ◌∙◌, arith}
use Rattle.std.specs.Prelude.{if◌then◌else◌}
use Rattle.std.specs.Option.{option_map, unwrap_or}
use Rattle.std.proofs.lemmas.Grind.{common_steps}
use Rattle.lines.specs.Hex.{is_hex, hex_bytes, fronted}
use Rattle.lines.specs.Words.{words}
use Rattle.lines.proofs.Splits.{words_split}
use Rattle.machine.specs.Inputs.{Call, Came, Called}
use Rattle.startup.specs.Lines.{room, came_of, input_in}

front : (n : ℕ) (bs out : List ℕ) → n ≡ length bs → take (min n (length out)) (fronted bs out) ≡ take (length out) bs
front n bs out e = grind (arith, common_steps)

-- a message that was put into the buffer, as far as there is room
pub came : (w out new : List ℕ) (n m : ℕ) → length out ≡ room → Some n ≡ (if is_hex w then Some (length (hex_bytes w)) else None)
    → new ≡ (if is_hex w then fronted (hex_bytes w) out else out) → m ≡ min n room → Some (Came (take m new)) ≡ came_of w
came w out new n m long e h k =
    let P : Bool → Type 0 = λ v. Some n ≡ (if v then Some (length (hex_bytes w)) else None) → new ≡ (if v then fronted (hex_bytes w) out else out)
    → Some (Came (take m new)) ≡ (if v then Some (Came (take room (hex_bytes w))) else None) in
    (elim (is_hex w) as P [
      | true ↦ λ x y. ap (λ (l : List ℕ). Some (Came l)) (
          ap (λ j. take j new) (k ∙ ap (λ j. min n j) (sym long)) ∙ ap (λ (l : List ℕ). take (min n (length out)) l) y
          ∙ front n (hex_bytes w) out (ap (λ o. unwrap_or o 0) x) ∙ ap (λ j. take j (hex_bytes w)) long
          )
      | false ↦ λ x y. cc
    ]) e h

-- words behind a first one say a call
pub called : (calls : List (List ℕ) → Option Call) (v t : List ℕ) → input_in calls (v ∷ words t) ≡ option_map Called (calls (v ∷ words t))
called calls v t = rw (words_split t) refl
