-- `next` owns nothing: what it says that the file has is free, and it reads none of its arguments.
use Rattle.std.proofs.Common.{◌≡◌, [], ◌∷◌, refl, w64}
use mir.Syntax.{named}
use mir.Val.{Val}
use base.Logic.{SProp, emp}
use contract.Monad.{fact, fact_i}
use contract.Running.{tables}
use types.Kit.{‵, raw, ◌⊛◌, ◌$◌, ◌∵◌, !, qed, by, move, drop, split, use0}
use types.Run.{no_more, returns, enter}
use types.ByLocal.{alloc_all, pass_all, free_all, look_at, sets}
use types.Part.{agg}
use denote.RattleType.{owns}
use denote.Builtin.{u8, usize}
use denote.Plain.{uint_vals, uint_Tells}
use denote.Ref.{shr_vals, shr_Tells}
use denote.Slice.{shr_slice_vals, shr_slice_Tells}
use denote.Signature.{types_at, plain}
use denote.Triple.Entry.{alive}
use denote.Triple.Walked.{Stays, stay_none, stay_none_ref, stay_none_slice, Goes-none, Goes-none_ref, Goes-none_slice, walk_of}
use Rattle.std.proofs.raw_atomic.Walks.{proved, leaves}
use Rattle.journal.proofs.Told.{Told, no_bytes, told_in}
use Rattle.journal.specs.contracts.store.told.Told.next.{ended, clauses}
use Rattle.journal.specs.contracts.store.told.Told.next.Key.{name as #self}
use Rattle.journal.proofs.store.told.Told.next.Statement.{statement}
use Rattle.journal.proofs.store.told.Told.next.Code as code

pub next_spec : {M : Type 1} → statement M
next_spec 𝓤 𝓛 𝓜 𝓡 wired =
    let H = 𝓛.H in let 𝓣 = tables 𝓤 H 𝓜 𝓡 𝓡.env in let c = clauses 𝓛 𝓜.mem 𝓡.returns in let fn = code.function in
    let hs : Stays ended.signature.params ended.kept =
    (stay_none_ref (0 ∷ []) tt (plain (λ _. Told)) ended.kept.0, (stay_none_slice (1 ∷ []) tt (plain (λ _. u8)) ended.kept.1.0, (stay_none (λ _. usize) ended.kept.1.1.0, tt))) in
    proved 𝓛 ended hs c 𝓜 𝓡
    (Goes-none_ref 𝓛 2 (0 ∷ []) tt (plain (λ _. Told)) ended.kept.0, (Goes-none_slice 𝓛 2 (1 ∷ []) tt (plain (λ _. u8)) ended.kept.1.0, (Goes-none 𝓛 2 (λ _. usize) ended.kept.1.1.0 (λ κs x f. refl), tt)))
    #self fn (code.unfolded 𝓤 H 𝓜 𝓡 wired)
    (λ κs. (shr_vals, (shr_slice_vals, (uint_vals w64, tt)))) (λ κs. (shr_Tells (named 0) κs.0 Told, (shr_slice_Tells (named 1) κs.1.0 u8, (uint_Tells w64, tt)))) (λ κs qs bounds a d are.
    let w : Val = no_bytes in
    let y : (walk_of 𝓛 ended hs c).Ghost = ((κs, qs, bounds, a, (shr_vals a.0, (shr_slice_vals a.1.0, (uint_vals w64 a.1.1.0, tt)))), d) in
    let Post : Val → SProp 𝓤 = (walk_of 𝓛 ended hs c).post y in
    qed 𝓛 ((raw (alive 𝓛 ended.signature κs qs) ⊛ ‵ (owns (types_at ended.signature.params κs) a y.0.4)) ∷ raw ((c κs a).requires d) ∷ []) ∵
    move ! (1 ∷ []) $ drop ! $ split ! $
    enter ! 𝓣.C 𝓣.Λ fn _ Post $ alloc_all ! (λ l. pass_all ! refl ((tt, tt), ((tt, (tt, (record { fits = are.1.0.0.1.0 }, tt))), ((tt, record { fits = are.1.1.0.1 }), tt))) $
    sets ! (agg ! (no_more !)) refl (tt, tt) $
    told_in ! d $
    use0 𝓛 (raw (fact 𝓤 (d ≡ d))) (fact_i 𝓤 (d ≡ d) (emp 𝓤) refl) $
    returns ! (look_at ! 0 refl) $ free_all ! refl $ move ! (2 ∷ 3 ∷ 1 ∷ 0 ∷ []) $
    by ! (leaves 𝓛 ended hs c y w d (tt, (tt, (tt, tt))) (tt, (tt, (tt, tt))))))
