-- What a writer is told of its write.
use Rattle.std.specs.Prelude.{◌/◌, ◌%◌, List, [], ◌∷◌}
use Rattle.machine.specs.Effects.{Note, In, Void}
use Rattle.capi.specs.declared.reply.Word.{Word}

-- nothing
abbrev pub no_word : Word
no_word = record { kind = 0; file = 0; part = 0; number = 0 }

-- by a notice: that the write is in by 4, and that it is void by 5
abbrev pub word_by : Note → Word
word_by (In q n) = record { kind = 4; file = q / 256; part = q % 256; number = n }
word_by (Void q n) = record { kind = 5; file = q / 256; part = q % 256; number = n }

-- by the first of some notices, if there is one
abbrev pub word_in : List Note → Word
word_in [] = no_word
word_in (x ∷ xs) = word_by x
