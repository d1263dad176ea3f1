-- What the host has of a call: there is an outcome, of which this is so, and it is told by a number and what is lent to the call.
use Rattle.std.specs.Prelude.{◌≡◌, ℕ, Result}
use Rattle.capi.specs.declared.misuse.Misuse.{Misuse}
use Rattle.capi.specs.declared.reply.Answer.{Answer}
use Rattle.capi.specs.declared.reply.Reply.{Reply}
use Rattle.capi.specs.Told.{told_number, told_size, told_answer, size_after, reply_after}

-- of a call that opens
pub record Opened (P : Result ℕ Misuse → Type 0) (whole_was whole_is number : ℕ) : Type 0 where
  pub outcome : Result ℕ Misuse
  pub is : P outcome
  pub told : number ≡ told_size outcome
  pub whole : whole_is ≡ size_after outcome whole_was

-- of one that answers by its number alone
pub record Numbered (P : Result ℕ Misuse → Type 0) (number : ℕ) : Type 0 where
  pub outcome : Result ℕ Misuse
  pub is : P outcome
  pub told : number ≡ told_number outcome

-- of one that has a reply
pub record Replied (P : Result Answer Misuse → Type 0) (reply_was reply_is : Reply) (number : ℕ) : Type 0 where
  pub outcome : Result Answer Misuse
  pub is : P outcome
  pub told : number ≡ told_answer outcome
  pub reply : reply_is ≡ reply_after outcome reply_was
