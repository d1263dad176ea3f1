-- What memory has after a message is what it had, with the records of the message replayed.
-- Assumes nothing.
use Rattle.std.proofs.Common.{◌≡◌, ℕ, true, false, List, Some, None, refl}
use Rattle.message.specs.declared.kind.Kind.{Kind}
use Rattle.message.specs.Format.{Ask, Loan, Write, In, Void, Recall, Back}
use Rattle.lender.specs.declared.answer.AskAnswer.{AskAnswer}
use Rattle.lender.specs.declared.answer.AskAnswer.TheVariants as ask
use Rattle.lender.specs.declared.answer.WriteAnswer.{WriteAnswer}
use Rattle.lender.specs.declared.answer.WriteAnswer.TheVariants as write
use Rattle.lender.specs.Rules.{Book, ask_answer, after_ask, ask_records, write_answer, after_write, parts_after, write_records}
use Rattle.lender.specs.Replay.{memory, replay, Kept}

ask_kept : (c i q n : ℕ) (k : Kind) (l : ℕ) (a : AskAnswer) (m : Book) (f : ℕ → List ℕ) → memory (after_ask c i q n k l a m) f ≡ replay (ask_records i q l a) (memory m f)
ask_kept c i q n k l (ask.Granted true) m f = refl
ask_kept c i q n k l (ask.Granted false) m f = refl
ask_kept c i q n k l ask.Quiet m f = refl
ask_kept c i q n k l (ask.Barred by) m f = refl
ask_kept c i q n k l ask.Exhausted m f = refl

write_kept : (i q n : ℕ) (v : List ℕ) (a : WriteAnswer) (m : Book) (f : ℕ → List ℕ) → memory (after_write i q n a m) (parts_after q v a f) ≡ replay (write_records i q n v a) (memory m f)
write_kept i q n v write.Applied m f = refl
write_kept i q n v write.Again m f = refl
write_kept i q n v write.Void m f = refl
write_kept i q n v write.Passed m f = refl
write_kept i q n v write.Quiet m f = refl

pub kept : Kept
kept c None m f = refl
kept c (Some (Ask i q n k l)) m f = ask_kept c i q n k l (ask_answer c i q k l m) m f
kept c (Some (Loan i q n k v)) m f = refl
kept c (Some (Write i q n v)) m f = write_kept i q n v (write_answer c i q n m) m f
kept c (Some (In i q n)) m f = refl
kept c (Some (Void i q n)) m f = refl
kept c (Some (Recall i q)) m f = refl
kept c (Some (Back i q n)) m f = refl
