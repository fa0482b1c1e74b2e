-- `OpCode::all` meets its contract: the constants are the bytes of the definitions' list. Assumes nothing.
use mathlib.Core.Path.{refl}
use Rattle.layout.specs.Lists.{each}
use Rattle.layout.specs.OpCode.{opcodes, small_op_codes, byte, small_byte}
use Rattle.opcode.proofs.OpCode.all.Goals as goal

pub returns : goal.returns
unfolding each opcodes small_op_codes byte small_byte
returns c = refl
