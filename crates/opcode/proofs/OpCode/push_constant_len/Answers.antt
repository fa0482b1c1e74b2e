-- `OpCode::push_constant_len` meets its contract, on both sides of 256. Assumes nothing.
use borrow.Author.Tests.{lt-ltb, le-ltb}
use Rattle.layout.specs.Lists.{pick}
use Rattle.layout.specs.Lengths.{push_length}
use Rattle.opcode.proofs.OpCode.push_constant_len.Goals as goal

pub returns-then-n-lt256 : goal.returns-then-n-lt256
unfolding push_length pick
returns-then-n-lt256 c = rw (lt-ltb _ _ c.if-n-lt256.true)

pub returns-else-n-lt256 : goal.returns-else-n-lt256
unfolding push_length pick
returns-else-n-lt256 c = rw (le-ltb _ _ c.if-n-lt256.false)
