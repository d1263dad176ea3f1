-- What a borrower sends when a message comes carries no part: so it is the same whatever bytes stand beside it.
-- Assumes nothing.
use Rattle.std.proofs.Common.{◌≡◌, ℕ, Bool, true, false, eqb, cond, List, [], ◌∷◌, Some, None, Option, refl, sym, ◌∙◌, subst}
use Rattle.message.specs.declared.form.Message.{Message}
use Rattle.message.specs.declared.form.Message.TheVariants as code
use Rattle.message.specs.Format.{Msg, Ask, Loan, Write, In, Void, Recall, Back}
use Rattle.borrower.specs.declared.hold.Part.{Part}
use Rattle.borrower.specs.declared.hold.OnFile.{OnFile}
use Rattle.borrower.specs.Outcomes.{Effect, sent_by, heard_effect}

-- none of these messages carries a part
abbrev Plain : List Msg → Type 0
Plain [] = Unit {0}
Plain (Ask w q n k l ∷ ms) = Plain ms
Plain (Loan w q n k v ∷ ms) = ⊥
Plain (Write w q n v ∷ ms) = ⊥
Plain (In w q n ∷ ms) = Plain ms
Plain (Void w q n ∷ ms) = Plain ms
Plain (Recall w q ∷ ms) = Plain ms
Plain (Back w q n ∷ ms) = Plain ms

silent : (b : Bool) (x y : Effect) → Plain x.sends → Plain y.sends → Plain (cond b x y).sends
silent true x y h g = h
silent false x y h g = g

heard_plain : (w : ℕ) (o : Option Msg) (ps : ℕ → Part) (fs : ℕ → OnFile) → Plain (heard_effect w o ps fs).sends
heard_plain w None ps fs = tt
heard_plain w (Some (Ask i q n k l)) ps fs = tt
heard_plain w (Some (Loan i q n k v)) ps fs = silent (eqb i w) _ _ tt tt
heard_plain w (Some (Write i q n v)) ps fs = tt
heard_plain w (Some (In i q n)) ps fs = silent (eqb i w) _ _ tt tt
heard_plain w (Some (Void i q n)) ps fs = silent (eqb i w) _ _ tt tt
heard_plain w (Some (Recall i q)) ps fs = silent (eqb i w) _ _ tt tt
heard_plain w (Some (Back i q n)) ps fs = tt

beside : (v : List ℕ) (x : Option Message) → Plain (sent_by [] x) → sent_by v x ≡ sent_by [] x
beside v None h = refl
beside v (Some (code.Ask a)) h = refl
beside v (Some (code.Loan a k)) h = absurd h
beside v (Some (code.Write a)) h = absurd h
beside v (Some (code.In a)) h = refl
beside v (Some (code.Void a)) h = refl
beside v (Some (code.Recall a p)) h = refl
beside v (Some (code.Back a)) h = refl

pub sends_plain : (v : List ℕ) (x : Option Message) (w : ℕ) (o : Option Msg) (ps : ℕ → Part) (fs : ℕ → OnFile) → sent_by [] x ≡ (heard_effect w o ps fs).sends → sent_by v x ≡ (heard_effect w o ps fs).sends
sends_plain v x w o ps fs e = beside v x (subst Plain (sym e) (heard_plain w o ps fs)) ∙ e
