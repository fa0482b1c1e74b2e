use Rattle.std.proofs.Common.{arith, ◌∙◌}
use Rattle.positions.specs.Scanned.{fault_of}
use Rattle.operands.proofs.Reading as reading
use Rattle.operands.proofs.Scans.{ends, cut, stops}
use Rattle.operands.proofs.scan_flag.Goals as goal

pub returns-in_err-read_u8 : goal.returns-in_err-read_u8
returns-in_err-read_u8 c = cut _ _ _ _ _ c.from_residual.ensures.1 c.in_err-read_u8.ensures.err (reading.flag_out _ _)

pub returns-then-branch-gt1 : goal.returns-then-branch-gt1
unfolding fault_of
returns-then-branch-gt1 c =
    let n = c.in_ok-read_u8.ensures.ok in
    c.stops.ensures ∙ stops _ _ (reading.flag_big _ _ n.0 (omega (arith, n.1)))

pub returns : goal.returns
returns c =
    let n = c.in_ok-read_u8.ensures.ok in
    ends _ _ (reading.flag_in _ _ n.0 (omega (arith, n.1))) c.after.ensures.0 c.after.ensures.1
