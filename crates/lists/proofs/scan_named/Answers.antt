use Rattle.operands.proofs.Scans.{cut}
use Rattle.lists.proofs.Values as values
use Rattle.lists.proofs.scan_named.Goals as goal

pub returns-in_err-whole : goal.returns-in_err-whole
returns-in_err-whole c = cut _ _ _ _ _ c.from_residual.ensures.1 c.in_err-whole.ensures.err (values.named_out _ _ _ _ 0)

pub returns : goal.returns
returns c = values.named_in _ _ _ _ _ c.in_ok-whole.ensures.ok c.after.ensures c.scan_string.ensures
