use Rattle.std.proofs.Common.{ℕ, sym, ap, ◌∙◌, arith}
use Rattle.positions.specs.Scanned.{ends_at}
use Rattle.editions.proofs.Listed.{terms_short}
use Rattle.operands.proofs.Scans.{stops_then}
use Rattle.lists.proofs.Lists as lists
use Rattle.action_fields.specs.Fields.{read_get_url}
use Rattle.action_fields.proofs.Steps as steps
use Rattle.action_fields.proofs.scan_get_url.Goals as goal

pub returns-in_err-target : goal.returns-in_err-target
unfolding read_get_url
returns-in_err-target c = stops_then _ _ _ _ _ _ c.scan_string.ensures c.in_err-target.was c.from_residual.ensures.1

pub scan_string-requires-2 : goal.scan_string-requires-2
scan_string-requires-2 c = lists.text_after _ _ _ c.scan_string.ensures c.in_ok-target.was (terms_short c.args.m.now.terms _ _) c.requires 0 (omega arith) _ (omega arith, omega arith)

pub returns-in_err-end : goal.returns-in_err-end
unfolding read_get_url
returns-in_err-end c =
    steps.then_ends _ _ _ _ _ _ c.scan_string.ensures c.in_ok-target.was
    (λ s g h. stops_then _ _ _ _ _ _ c.scan_string-2.ensures c.in_err-end.was c.from_residual-in_err-end.ensures.1)

pub text_len-requires : goal.text_len-requires
text_len-requires c = steps.text_some _ _ _ _ c.scan_string.ensures c.in_ok-target.was

pub text_len-requires-2 : goal.text_len-requires-2
text_len-requires-2 c = steps.text_some _ _ _ _ c.scan_string-2.ensures c.in_ok-end.was

pub get_url_len-len-requires : goal.get_url_len-len-requires
get_url_len-len-requires c =
    let y = lists.text_after _ _ _ c.scan_string.ensures c.in_ok-target.was (terms_short c.args.m.now.terms _ _) c.requires 0 (omega arith) c.in_ok-target.target (omega arith, omega arith) in
    let z = lists.text_room _ _ _ c.scan_string-2.ensures c.in_ok-end.was (terms_short c.args.m.now.terms _ _) y in
    (omega (arith, y.room, c.text_len.ensures), omega (arith, z, c.text_len-2.ensures))

pub overflow_add-result : goal.overflow_add-result
overflow_add-result c =
    let y = lists.text_after _ _ _ c.scan_string.ensures c.in_ok-target.was (terms_short c.args.m.now.terms _ _) c.requires 0 (omega arith) c.in_ok-target.target (omega arith, omega arith) in
    let z = lists.text_room _ _ _ c.scan_string-2.ensures c.in_ok-end.was (terms_short c.args.m.now.terms _ _) y in
    omega (arith, z, c.get_url_len-len.ensures, c.text_len.ensures, c.text_len-2.ensures)

pub returns : goal.returns
unfolding read_get_url
returns c =
    let a = steps.text_some _ _ _ _ c.scan_string.ensures c.in_ok-target.was in
    let b = steps.text_some _ _ _ _ c.scan_string-2.ensures c.in_ok-end.was in
    ap (λ (n : ℕ). ends_at c.in_ok-end.end.at (record { 0 = n })) (omega (arith, a, b, c.get_url_len-len.ensures, c.text_len.ensures, c.text_len-2.ensures))
    ∙ sym c.in_ok-end.was
    ∙ steps.then_ends _ _ _ _ _ _ c.scan_string.ensures c.in_ok-target.was
    (λ s g h. steps.url_in _ _ _ s _ _ h c.scan_string-2.ensures)
