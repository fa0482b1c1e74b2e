use Rattle.std.proofs.Common.{arith, ◌∙◌}
use Rattle.positions.specs.Scanned.{fault_of}
use Rattle.operands.proofs.Reading as reading
use Rattle.operands.proofs.Scans.{ends, cut, stops}
use Rattle.operands.proofs.scan_label.Goals as goal

pub returns-in_err-read_u16 : goal.returns-in_err-read_u16
returns-in_err-read_u16 c o = cut _ _ _ _ _ c.from_residual.ensures.1 c.in_err-read_u16.ensures.err (reading.label_out _ _ _ 0)

pub returns-then-branch : goal.returns-then-branch
unfolding fault_of
returns-then-branch c o =
    let n = c.in_ok-read_u16.ensures.ok in
    c.stops.ensures ∙ stops _ _ (reading.label_big _ _ _ 0 n.0 (omega (arith, n.1)))

pub returns : goal.returns
returns c o =
    let n = c.in_ok-read_u16.ensures.ok in
    ends _ _ (reading.label_in _ _ _ 0 n.0 (omega (arith, n.1)) (omega arith)) c.after.ensures.0 c.after.ensures.1
