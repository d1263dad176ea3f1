-- What a handle holds.
use Rattle.std.specs.Prelude.{Some, None, Err, Option, Result}
use Rattle.capi.specs.declared.content.Machine.{Machine}
use Rattle.capi.specs.declared.misuse.Misuse.{Misuse}
use Rattle.capi.specs.declared.misuse.Misuse.TheVariants as why
use Rattle.capi.specs.declared.reply.Answer.{Answer}
use Rattle.capi.specs.declared.handle.Handle.{Handle}

abbrev pub held : Handle → Option Machine
held h = h.slot.value

-- after a call it goes on holding its machine, but where there was no memory for what came of the call
abbrev pub kept_after : Result Answer Misuse → Machine → Option Machine
kept_after (Err why.NoMemory) m = None
kept_after r m = Some m
