use Rattle.operands.proofs.Reading as reading
use Rattle.operands.proofs.Scans.{ends, cut}
use Rattle.operands.proofs.scan_bytes.Goals as goal

pub returns-in_err-whole : goal.returns-in_err-whole
returns-in_err-whole c = cut _ _ _ _ _ c.from_residual.ensures.1 c.in_err-whole.ensures.err (reading.bytes_out _ _ _)

pub returns : goal.returns
returns c = ends _ _ (reading.bytes_in _ _ _ c.in_ok-whole.ensures.ok) c.after.ensures.0 c.after.ensures.1
