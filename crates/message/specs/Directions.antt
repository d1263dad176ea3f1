-- The messages of the code, by whom they are to: what each says.
-- Assumes nothing.
use Rattle.std.specs.Prelude.{Some, None, Option}
use Rattle.message.specs.declared.to_keeper.ToKeeper.{ToKeeper}
use Rattle.message.specs.declared.to_keeper.ToKeeper.TheVariants as up
use Rattle.message.specs.declared.to_borrower.ToBorrower.{ToBorrower}
use Rattle.message.specs.declared.to_borrower.ToBorrower.TheVariants as down
use Rattle.message.specs.Format.{Msg, Ask, Loan, Write, In, Void, Recall, Back}

abbrev pub up_msg : ToKeeper → Msg
up_msg (up.Ask h k l) = Ask h.who.id h.place.at h.number k l
up_msg (up.Write h p) = Write h.who.id h.place.at h.number p.now
up_msg (up.Back h) = Back h.who.id h.place.at h.number

abbrev pub down_msg : ToBorrower → Msg
down_msg (down.Loan h k p) = Loan h.who.id h.place.at h.number k p.now
down_msg (down.In h) = In h.who.id h.place.at h.number
down_msg (down.Void h) = Void h.who.id h.place.at h.number
down_msg (down.Recall w p) = Recall w.id p.at

-- a message, where it is one to the keeper, or one to a borrower
abbrev pub for_keeper : Option Msg → Option Msg
for_keeper (Some (Ask i q n k l)) = Some (Ask i q n k l)
for_keeper (Some (Write i q n v)) = Some (Write i q n v)
for_keeper (Some (Back i q n)) = Some (Back i q n)
for_keeper _ = None

abbrev pub for_borrower : Option Msg → Option Msg
for_borrower (Some (Loan i q n k v)) = Some (Loan i q n k v)
for_borrower (Some (In i q n)) = Some (In i q n)
for_borrower (Some (Void i q n)) = Some (Void i q n)
for_borrower (Some (Recall i q)) = Some (Recall i q)
for_borrower _ = None
