use Rattle.std.proofs.Common.{arith, ◌∙◌}
use Rattle.operands.proofs.Reading as reading
use Rattle.operands.proofs.Scans.{cut}
use Rattle.operands.proofs.scan_plain.Goals as goal

pub returns-in_err-whole : goal.returns-in_err-whole
returns-in_err-whole c = cut _ _ _ _ _ c.from_residual.ensures.1 c.in_err-whole.ensures.err (reading.plain_out _ _ _)

pub returns-then-z-from : goal.returns-then-z-from
returns-then-z-from c = c.stops.ensures ∙ reading.scan_nul _ _ _ _ _ c.in_ok-whole.ensures.ok c.first_nul-z.ensures c.if-z-from.true

pub returns : goal.returns
returns c = reading.scan_text _ _ _ _ _ c.in_ok-whole.ensures.ok c.first_nul-z.ensures c.if-z-from.false c.after.ensures.0 (omega arith)
