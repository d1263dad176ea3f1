-- What is told of a file owns nothing, and has no bytes. Assumes `Logic`.
use Rattle.std.proofs.Common.{List, [], ◌∷◌, refl}
use seplogic.Ra.Ura.{Ura}
use mir.Val.{Val, vstruct, of_list}
use types.Logic.{Logic}
use types.Kit.{Item, Goal, Step, step, ‵, ◌$◌, fjoin, fpack, feq_i}
use denote.RattleType.{RattleType, Valss}
use denote.Steps.{nothing}
use denote.Struct.Struct.{within}
use denote.Struct.Owning.{shape}
use Rattle.journal.specs.declared.store.told.Told.{Told as Known}
use Rattle.journal.specs.contracts.store.told.Told as told

abbrev pub Told : RattleType
Told = told.the_row

-- the machine's value of it
abbrev pub no_bytes : Val
no_bytes = vstruct (of_list [])

-- it is made of nothing, whatever it says
pub told_in : {M : Type 1} {𝓤 : Ura M} {𝓛 : Logic 𝓤} {K : Type 0} {Γ : List (Item 𝓤)} {G : Goal 𝓤 𝓛.H} → K → (d : Known)
    → Step K 𝓛 (‵ (Told.own_val (d) (no_bytes ∷ [])) ∷ Γ) G Γ G
told_in t d = step (λ s. let v : Val = no_bytes in
    nothing t $ nothing t $ feq_i t (List Val) (v ∷ []) (v ∷ []) refl $ fjoin t $ fpack t (Valss []) (within (shape told.the_type) tt (v ∷ [])) tt $ fjoin t $ s)
