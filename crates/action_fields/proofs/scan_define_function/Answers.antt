use Rattle.std.proofs.Common.{arith}
use Rattle.editions.proofs.Listed.{terms_short}
use Rattle.operands.proofs.Scans.{stops_then}
use Rattle.lists.proofs.Lists as lists
use Rattle.action_fields.specs.Fields.{read_function}
use Rattle.action_fields.proofs.Steps as steps
use Rattle.action_fields.proofs.scan_define_function.Goals as goal

pub returns-in_err-params : goal.returns-in_err-params
unfolding read_function
returns-in_err-params c = stops_then _ _ _ _ _ _ c.scan_string.ensures c.in_err-params.was c.from_residual.ensures.1

pub after-requires : goal.after-requires
after-requires c =
    let t = lists.text_room _ _ _ c.scan_string.ensures c.in_ok-params.was (terms_short c.args.m.now.terms _ _) c.requires in
    (omega arith, omega (arith, t, c.define_function_len.ensures))

pub scan_strings-requires : goal.scan_strings-requires
scan_strings-requires c =
    (lists.text_after _ _ _ c.scan_string.ensures c.in_ok-params.was (terms_short c.args.m.now.terms _ _) c.requires 4 (omega arith) _ (omega arith, omega (arith, c.after.ensures.1, c.define_function_len.ensures, c.string_len.ensures)), omega arith)

pub returns : goal.returns
unfolding read_function
returns c =
    steps.then_ends _ _ _ _ _ _ c.scan_string.ensures c.in_ok-params.was
    (λ s g h. steps.function_in _ _ _ s _ _ _ h (c.after.ensures.0, omega (arith, c.after.ensures.1, c.define_function_len.ensures, c.string_len.ensures)) c.scan_strings.ensures)
