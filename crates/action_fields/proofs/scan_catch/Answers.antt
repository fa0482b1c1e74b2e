use Rattle.std.proofs.Common.{arith, rules, ◌∙◌}
use Rattle.operands.proofs.Scans.{cut}
use Rattle.action_fields.proofs.Steps as steps
use Rattle.action_fields.proofs.scan_catch.Goals as goal

pub returns-in_err-shape : goal.returns-in_err-shape
returns-in_err-shape c = cut _ _ _ _ _ c.from_residual.ensures.1 c.in_err-shape.ensures.err (steps.caught_out _ _ _ 0)

pub returns-in-0 : goal.returns-in-0
returns-in-0 c = steps.caught_none _ _ _ _ _ c.in_ok-shape.ensures.ok c.in-0.is (omega (arith, c.after-end.ensures), omega (arith, c.after-end.ensures, c.try_len-2.ensures))

pub returns-in-1 : goal.returns-in-1
returns-in-1 c = steps.caught_name _ _ _ _ _ c.in_ok-shape.ensures.ok c.in-1.is (omega (arith, c.after-target.ensures), omega (arith, c.after-target.ensures, c.try_len.ensures)) c.scan_string.ensures

pub returns-in-5 : goal.returns-in-5
returns-in-5 c = steps.caught_register _ _ _ _ _ c.in_ok-shape.ensures.ok c.in-5.is (omega (arith, c.after-end.ensures), omega (arith, c.after-end.ensures, c.try_len-2.ensures)) c.scan_bytes.ensures

pub returns-in_default : goal.returns-in_default
returns-in_default c =
    c.stops.ensures ∙ steps.caught_bad _ _ _ _ _ c.in_ok-shape.ensures.ok (steps.no_shape _ (search rules) (search rules) (search rules))
