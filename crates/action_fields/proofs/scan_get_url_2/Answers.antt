use Rattle.std.proofs.Common.{arith, ◌∙◌}
use Rattle.operands.proofs.Scans.{stops_then}
use Rattle.action_fields.specs.Fields.{read_get_url2}
use Rattle.action_fields.proofs.Steps as steps
use Rattle.action_fields.proofs.scan_get_url_2.Goals as goal

pub returns-in_err-target : goal.returns-in_err-target
unfolding read_get_url2
returns-in_err-target c = stops_then _ _ _ _ _ _ c.scan_flag.ensures c.in_err-target.was c.from_residual.ensures.1

pub scan_flag-requires-2 : goal.scan_flag-requires-2
scan_flag-requires-2 c = (steps.flag_after _ _ c.requires c.scan_flag.ensures c.in_ok-target.was).0.inside

pub returns-in_err-method : goal.returns-in_err-method
unfolding read_get_url2
returns-in_err-method c =
    steps.then_ends _ _ _ _ _ _ c.scan_flag.ensures c.in_ok-target.was
    (λ v g h. stops_then _ _ _ _ _ _ c.scan_flag-2.ensures c.in_err-method.was c.from_residual-in_err-method.ensures.1)

pub after-requires : goal.after-requires
after-requires c =
    let y = steps.flag_after _ _ c.requires c.scan_flag.ensures c.in_ok-target.was in
    let z = steps.flag_after _ _ y.0 c.scan_flag-2.ensures c.in_ok-method.was in
    (omega arith, omega (arith, z.0.room))

pub scan_bytes-requires : goal.scan_bytes-requires
scan_bytes-requires c =
    let y = steps.flag_after _ _ c.requires c.scan_flag.ensures c.in_ok-target.was in
    let z = steps.flag_after _ _ y.0 c.scan_flag-2.ensures c.in_ok-method.was in
    omega (arith, z.0.inside)

pub returns : goal.returns
unfolding read_get_url2
returns c =
    let y = steps.flag_after _ _ c.requires c.scan_flag.ensures c.in_ok-target.was in
    let z = steps.flag_after _ _ y.0 c.scan_flag-2.ensures c.in_ok-method.was in
    steps.then_ends _ _ _ _ _ _ c.scan_flag.ensures c.in_ok-target.was
    (λ v g h. steps.then_ends _ _ _ _ _ _ c.scan_flag-2.ensures c.in_ok-method.was
    (λ t i j. steps.url_2_in _ _ _ _ _ _ (z.1 ∙ y.1) c.after.ensures c.scan_bytes.ensures))
