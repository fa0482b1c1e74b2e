-- Which bytes are opcodes. Assumes nothing.
use Rattle.std.specs.Prelude.{ℕ, Bool, true, false}
use Rattle.std.proofs.Math.Option.{Option, none, some}
use Rattle.layout.specs.OpCode.{opcode_of}

-- whether there is something
unfoldable pub is_some : {A : Type 0} → Option A → Bool
is_some none = false
is_some (some a) = true

-- whether a byte stands for an opcode of source 000's list
unfoldable pub listed : ℕ → Bool
listed n = is_some (opcode_of n)
