use Rattle.std.proofs.Common.{arith}
use Rattle.editions.proofs.Listed.{terms_short}
use Rattle.operands.proofs.Scans.{stops_then}
use Rattle.lists.proofs.Lists as lists
use Rattle.action_fields.specs.Fields.{read_function2}
use Rattle.action_fields.proofs.Steps as steps
use Rattle.action_fields.proofs.scan_define_function_2.Goals as goal

pub returns-in_err-params : goal.returns-in_err-params
unfolding read_function2
returns-in_err-params c = stops_then _ _ _ _ _ _ c.scan_string.ensures c.in_err-params.was c.from_residual.ensures.1

pub after-requires : goal.after-requires
after-requires c =
    let t = lists.text_room _ _ _ c.scan_string.ensures c.in_ok-params.was (terms_short c.args.m.now.terms _ _) c.requires in
    (omega arith, omega (arith, t, c.define_function_2_len.ensures))

pub scan_strings-requires : goal.scan_strings-requires
scan_strings-requires c =
    (lists.text_after _ _ _ c.scan_string.ensures c.in_ok-params.was (terms_short c.args.m.now.terms _ _) c.requires 7 (omega arith) _ (omega arith, omega (arith, c.after.ensures.1, c.define_function_2_len.ensures, c.string_len.ensures)), omega arith)

pub returns-in_err-registers : goal.returns-in_err-registers
unfolding read_function2
returns-in_err-registers c =
    steps.then_ends _ _ _ _ _ _ c.scan_string.ensures c.in_ok-params.was
    (λ s g h. stops_then _ _ _ _ _ _ (steps.params_scan _ _ 0 s 0 _ _ c.after.ensures.0 c.scan_strings.ensures) c.in_err-registers.was c.from_residual-in_err-registers.ensures.1)

pub scan_registers-requires : goal.scan_registers-requires
scan_registers-requires c =
    let y = lists.text_after _ _ _ c.scan_string.ensures c.in_ok-params.was (terms_short c.args.m.now.terms _ _) c.requires 7 (omega arith) c.after.result (omega arith, omega (arith, c.after.ensures.1, c.define_function_2_len.ensures, c.string_len.ensures)) in
    lists.list_after _ _ _ _ y (lists.named_grows _ _ c.requires.bytes (terms_short c.args.m.now.terms _ _) 1) c.scan_strings.ensures c.in_ok-registers.was

pub returns : goal.returns
unfolding read_function2
returns c =
    steps.then_ends _ _ _ _ _ _ c.scan_string.ensures c.in_ok-params.was
    (λ s g h. steps.then_ends _ _ _ _ _ _ (steps.params_scan _ _ 0 s 0 _ _ c.after.ensures.0 c.scan_strings.ensures) c.in_ok-registers.was
    (λ ps i j. steps.function_2_in _ _ _ _ _ _ _ h (omega (arith, j, c.after.ensures.1, c.define_function_2_len.ensures, c.string_len.ensures)) c.scan_registers.ensures))
