-- What holds where a step went well gives more that holds then.
-- Assumes nothing.
use Rattle.std.proofs.Common.{Ok, Err, Result, OnOk}

pub where_done : {T E : Type 0} (r : Result T E) (A B : Type 0) → OnOk r A → (A → B) → OnOk r B
where_done (Ok u) A B a f = f a
where_done (Err e) A B a f = tt
