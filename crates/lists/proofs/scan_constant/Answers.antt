use Rattle.std.proofs.Common.{arith}
use Rattle.opcode.specs.PayloadLengths.{push_constant_short}
use Rattle.operands.proofs.Reading as reading
use Rattle.operands.proofs.Scans.{cut}
use Rattle.lists.proofs.Values as values
use Rattle.lists.proofs.scan_constant.Goals as goal

pub returns-in_err-n : goal.returns-in_err-n
returns-in_err-n c = cut _ _ _ _ _ c.from_residual.ensures.1 c.in_err-n.ensures.err (reading.u16_out _ _)

pub after-requires : goal.after-requires
after-requires c = (omega arith, omega (arith, c.requires.room, c.push_constant_len.ensures, push_constant_short c.in_ok-n.n))

pub returns : goal.returns
returns c = values.constant_in _ _ _ _ _ c.in_ok-n.ensures.ok c.push_constant_len.ensures c.after.ensures
