use Rattle.operands.proofs.Scans.{cut}
use Rattle.action_fields.proofs.Steps as steps
use Rattle.action_fields.proofs.scan_wait_for_frame.Goals as goal

pub returns-in_err-whole : goal.returns-in_err-whole
returns-in_err-whole c = cut _ _ _ _ _ c.from_residual.ensures.1 c.in_err-whole.ensures.err (steps.wait_out _ _ 0)

pub returns : goal.returns
returns c = steps.wait_in _ _ _ c.in_ok-whole.ensures.ok c.after.ensures c.scan_bytes.ensures
