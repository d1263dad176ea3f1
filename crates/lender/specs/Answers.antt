-- The refusal of each answer of the keeper.
-- Assumes nothing.
use Rattle.std.specs.Prelude.{Ok, Err, Result}
use Rattle.message.specs.declared.refusal.Refusal.{Refusal}
use Rattle.message.specs.declared.refusal.Refusal.TheVariants as refusal
use Rattle.lender.specs.declared.answer.AskAnswer.{AskAnswer}
use Rattle.lender.specs.declared.answer.AskAnswer.TheVariants as ask
use Rattle.lender.specs.declared.answer.WriteAnswer.{WriteAnswer}
use Rattle.lender.specs.declared.answer.WriteAnswer.TheVariants as write

abbrev pub ask_refusal : AskAnswer → Result (Unit {0}) Refusal
ask_refusal (ask.Granted v) = Ok tt
ask_refusal ask.Quiet = Err refusal.Quiet
ask_refusal (ask.Barred by) = Err refusal.Barred
ask_refusal ask.Exhausted = Err refusal.Exhausted

abbrev pub write_refusal : WriteAnswer → Result (Unit {0}) Refusal
write_refusal write.Applied = Ok tt
write_refusal write.Again = Err refusal.NotApplied
write_refusal write.Void = Err refusal.NotApplied
write_refusal write.Passed = Err refusal.NotApplied
write_refusal write.Quiet = Err refusal.Quiet
