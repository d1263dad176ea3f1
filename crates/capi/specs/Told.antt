-- What the host is told of the outcome of a call: the number that it gives, and what it leaves of what was lent to it.
-- Assumes nothing.
use Rattle.std.specs.Prelude.{ℕ, Ok, Err, Result}
use Rattle.capi.specs.declared.misuse.Misuse.{Misuse}
use Rattle.capi.specs.declared.reply.Answer.{Answer}
use Rattle.capi.specs.declared.reply.Reply.{Reply}
use Rattle.capi.specs.Numbers.{misuse_number}

abbrev pub told_number : Result ℕ Misuse → ℕ
told_number (Ok n) = n
told_number (Err e) = misuse_number e

abbrev pub told_size : Result ℕ Misuse → ℕ
told_size (Ok n) = 0
told_size (Err e) = misuse_number e

abbrev pub told_answer : Result Answer Misuse → ℕ
told_answer (Ok a) = a.number
told_answer (Err e) = misuse_number e

-- a call that was not made leaves both as they were
abbrev pub size_after : Result ℕ Misuse → (was : ℕ) → ℕ
size_after (Ok n) w = n
size_after (Err e) w = w

abbrev pub reply_after : Result Answer Misuse → (was : Reply) → Reply
reply_after (Ok a) r = a.reply
reply_after (Err e) r = r
