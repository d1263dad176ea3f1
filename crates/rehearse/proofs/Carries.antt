-- Bytes that are too few for a part are those of a message that carries none.
use Rattle.std.proofs.Common.{◌≡◌, ℕ, ◌-◌, ◌<◌, List, length, Some, refl, ap, sym, ◌∙◌, arith}
use Rattle.std.proofs.lemmas.List.{length-drop}
use Rattle.message.specs.Format.{said, carried, WellFormed}
use Rattle.message.specs.Reading.{read}
use Rattle.message.specs.declared.form.Message.{Message}
use Rattle.message.specs.declared.form.Message.TheVariants as code

too_few : (xs : List ℕ) → length xs < 1024 → length (carried xs) ≡ 1024 → ⊥
too_few xs few all = omega (arith, few, all, length-drop (length xs - 1024) xs)

same_said : (m : Message) (xs v : List ℕ) → length xs < 1024 → WellFormed (said (carried xs) m) → said (carried xs) m ≡ said v m
same_said (code.Ask a) xs v few formed = refl
same_said (code.Loan h k) xs v few formed = absurd (too_few xs few formed.1)
same_said (code.Write h) xs v few formed = absurd (too_few xs few formed.1)
same_said (code.In h) xs v few formed = refl
same_said (code.Void h) xs v few formed = refl
same_said (code.Recall w p) xs v few formed = refl
same_said (code.Back h) xs v few formed = refl

-- what is read of them, whatever bytes v stand beside the message
pub reads_beside :
    (m : Message) (xs v : List ℕ) → length xs < 1024 → WellFormed (said (carried xs) m) → Some (said (carried xs) m) ≡ read xs →
    read xs ≡ Some (said v m)
reads_beside m xs v few formed is = sym is ∙ ap Some (same_said m xs v few formed)
