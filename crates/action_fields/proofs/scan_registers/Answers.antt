use Rattle.std.proofs.Common.{arith, ◌∙◌}
use Rattle.operands.proofs.Scans.{cut}
use Rattle.action_fields.proofs.Steps as steps
use Rattle.action_fields.proofs.scan_registers.Goals as goal

pub returns-in_err-whole : goal.returns-in_err-whole
returns-in_err-whole c = cut _ _ _ _ _ c.from_residual.ensures.1 c.in_err-whole.ensures.err (steps.registers_out _ _ 0)

pub returns-in_err-read_u16 : goal.returns-in_err-read_u16
returns-in_err-read_u16 c = cut _ _ _ _ _ c.from_residual-in_err-read_u16.ensures.1 c.in_err-read_u16.ensures.err (steps.flags_out _ _ 0 c.in_ok-whole.ensures.ok)

pub returns-then-branch-gt511 : goal.returns-then-branch-gt511
returns-then-branch-gt511 c = c.stops.ensures ∙ steps.flags_big _ _ _ c.in_ok-whole.ensures.ok _ c.in_ok-read_u16.ensures.ok (omega arith)

pub returns : goal.returns
returns c = steps.flags_in _ _ _ c.in_ok-whole.ensures.ok _ c.in_ok-read_u16.ensures.ok (omega arith) c.after.ensures
