-- What comes to a machine, in numbers.
use Rattle.std.specs.Prelude.{ℕ, List}
use Rattle.message.specs.declared.kind.Kind.{Kind}
use Rattle.machine.specs.declared.input.Call as code
use Rattle.machine.specs.declared.input.Call.TheVariants as call
use Rattle.machine.specs.declared.input.Input as given
use Rattle.machine.specs.declared.input.Input.TheVariants as input

-- a call of a borrower, about the part at a place
pub data Call : Type 0 where
  Ask : (place : ℕ) → Kind → Call
  Show : (place : ℕ) → Call
  Write : (place : ℕ) → (bytes : List ℕ) → Call
  Forget : (place : ℕ) → Call

abbrev pub call_of : code.Call → Call
call_of (call.Ask p k) = Ask p.at k
call_of (call.Show p) = Show p.at
call_of (call.Write p v) = Write p.at v.now
call_of (call.Forget p) = Forget p.at

-- bytes that came, a call, or nothing but a reading of the clock
pub data Input : Type 0 where
  Came : (bytes : List ℕ) → Input
  Called : Call → Input
  Reading : Input

abbrev pub input_of : given.Input → Input
input_of (input.Came bs) = Came bs.now
input_of (input.Called c) = Called (call_of c)
input_of input.Reading = Reading
