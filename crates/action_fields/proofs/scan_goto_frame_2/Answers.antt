use Rattle.std.proofs.Common.{arith}
use Rattle.opcode.specs.PayloadLengths.{goto_frame_2_short}
use Rattle.operands.proofs.Scans.{cut}
use Rattle.action_fields.proofs.Steps as steps
use Rattle.action_fields.proofs.scan_goto_frame_2.Goals as goal

pub returns-in_err-bias : goal.returns-in_err-bias
returns-in_err-bias c = cut _ _ _ _ _ c.from_residual.ensures.1 c.in_err-bias.ensures.err (steps.goto_out _ _ 0)

pub after-requires : goal.after-requires
after-requires c = (omega arith, omega (arith, c.requires.room, c.goto_frame_2_len.ensures, goto_frame_2_short c.in_ok-bias.bias))

pub returns : goal.returns
returns c = steps.goto_in _ _ _ _ _ c.in_ok-bias.ensures.ok c.goto_frame_2_len.ensures c.after.ensures c.scan_flag.ensures
