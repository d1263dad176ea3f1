use Rattle.std.proofs.Common.{ℕ, List, subst}
use Rattle.journal.specs.Records.{recorded, layout}
use Rattle.journal.specs.Stores.{Grown}
use Rattle.part.proofs.Writes.{front_is}
use Rattle.journal.proofs.store.append_record.Goals as goal

pub returns : goal.returns
returns g c =
    let u = c.unwrap-size.ensures in
    let e = rw u at c.encode.ensures in
    let lay : List ℕ = layout (recorded c.args.part.now c.args.«record».now) in
    let P : List ℕ → Type 0 = λ q. Grown (g.S.Store.disk c.args.store.now) q (g.S.Store.disk c.append.new.self) c.append.result in
    record { grown = subst P (front_is c.unwrap-size.result c.encode.new.out lay _ e.0 e.1) c.append.ensures.grown; cause = c.append.ensures.cause }
