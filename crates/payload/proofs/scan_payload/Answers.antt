-- `payload::scan_payload` meets its contract. Assumes nothing.
use mathlib.Core.Path.{◌≡◌}
use native.Mathlib.Omega.{arith}
use Rattle.std.proofs.Common.{rules}
use Rattle.layout.specs.Read.{read_bytes, read_counted, read_value}
use Rattle.layout.specs.Lengths.{total}
use Rattle.lists.specs.Elements.{named_size, read_named, value_size}
use Rattle.editions.proofs.Listed.{terms_short}
use Rattle.measure.specs.Walk.{laid_by}
use Rattle.measure.specs.declared.Laid.TheVariants as laid
use Rattle.measure.proofs.Layings.{ends_from}
use Rattle.operands.proofs.Scans.{from_spot}
use Rattle.payload.proofs.Arms as arms
use Rattle.payload.proofs.scan_payload.Goals as goal

pub note_payload-requires : goal.note_payload-requires
note_payload-requires c = ends_from _ _ _ _ _ c.scan_get_url.ensures (omega arith)

pub note_payload-requires-in-136 : goal.note_payload-requires-in-136
note_payload-requires-in-136 c = ends_from _ _ _ _ _ c.scan_constant_pool.ensures (omega (arith, c.after-list.ensures.1))

pub note_payload-requires-in-139 : goal.note_payload-requires-in-139
note_payload-requires-in-139 c = ends_from _ _ _ _ _ c.scan_string.ensures (omega arith)

pub note_payload-requires-in-142 : goal.note_payload-requires-in-142
note_payload-requires-in-142 c = ends_from _ _ _ _ _ c.scan_define_function_2.ensures (omega arith)

pub note_payload-requires-in-150 : goal.note_payload-requires-in-150
note_payload-requires-in-150 c = ends_from _ _ _ _ _ c.scan_push.ensures (omega (arith, c.after-list-in-150.ensures.1))

pub note_payload-requires-in-155 : goal.note_payload-requires-in-155
note_payload-requires-in-155 c = ends_from _ _ _ _ _ c.scan_define_function.ensures (omega arith)

pub returns-in-129 : goal.returns-in-129
returns-in-129 c =
    let laid : c.map.result ≡ laid_by laid.Flat c.scan_bytes.result = search rules in
    arms.arm_goto_frame _ _ _ _ _ _ _ _ _ c.in-129.is (from_spot (λ _. 0) (read_bytes _ 2) (omega (arith, c.after-word.ensures.0)) c.after-word.ensures.1 c.scan_bytes.ensures) laid

pub returns-in-131 : goal.returns-in-131
returns-in-131 c =
    let laid : c.map-in-131.result ≡ laid_by laid.Flat c.note_payload.result = search rules in
    arms.arm_get_url _ _ _ _ _ _ _ _ _ c.in-131.is c.scan_get_url.ensures c.note_payload.ensures laid

pub returns-in-135 : goal.returns-in-135
returns-in-135 c =
    let laid : c.map-in-135.result ≡ laid_by laid.Flat c.scan_bytes-in-135.result = search rules in
    arms.arm_byte _ _ _ _ _ _ _ _ _ c.in-135.is (from_spot (λ _. 0) (read_bytes _ 1) (omega (arith, c.after-byte.ensures.0)) c.after-byte.ensures.1 c.scan_bytes-in-135.ensures) laid

pub returns-in-136 : goal.returns-in-136
returns-in-136 c =
    let laid : c.map-in-136.result ≡ laid_by laid.Flat c.note_payload-in-136.result = search rules in
    arms.arm_constant_pool _ _ _ _ _ _ _ _ _ _ c.in-136.is (omega (arith, c.after-list.ensures.1, c.constant_pool_len.ensures)) (from_spot (total (named_size 0)) (read_counted _ (read_named _ _ 0)) (omega (arith, c.after-list.ensures.0)) c.after-list.ensures.1 c.scan_constant_pool.ensures) c.note_payload-in-136.ensures laid

pub returns-in-138 : goal.returns-in-138
returns-in-138 c =
    let laid : c.map-in-138.result ≡ laid_by laid.Flat c.scan_wait_for_frame.result = search rules in
    arms.arm_wait_for_frame _ _ _ _ _ _ _ _ _ c.in-138.is c.scan_wait_for_frame.ensures laid

pub returns-in-139 : goal.returns-in-139
returns-in-139 c =
    let laid : c.map-in-139.result ≡ laid_by laid.Flat c.note_payload-in-139.result = search rules in
    arms.arm_string _ _ _ _ _ _ _ _ _ (arms.beside 139 (omega arith) (omega arith)) c.scan_string.ensures c.note_payload-in-139.ensures laid

pub returns-in-142 : goal.returns-in-142
returns-in-142 c =
    let laid : c.map-in-142.result ≡ laid_by laid.Function c.note_payload-in-142.result = search rules in
    arms.arm_define_function_2 _ _ _ _ _ _ _ _ _ c.requires.2.bytes (terms_short c.args.m.now.terms _ _) (omega arith) c.in-142.is c.scan_define_function_2.ensures c.note_payload-in-142.ensures laid

pub returns-in-150 : goal.returns-in-150
returns-in-150 c =
    let laid : c.map-in-150.result ≡ laid_by laid.Flat c.note_payload-in-150.result = search rules in
    arms.arm_push _ _ _ _ _ _ _ _ _ _ c.in-150.is (omega (arith, c.after-list-in-150.ensures.1, c.push_len.ensures)) (from_spot (total value_size) (read_counted _ (read_value _ _)) (omega (arith, c.after-list-in-150.ensures.0)) c.after-list-in-150.ensures.1 c.scan_push.ensures) c.note_payload-in-150.ensures laid

pub returns-in-154 : goal.returns-in-154
returns-in-154 c =
    let laid : c.map-in-154.result ≡ laid_by laid.Flat c.scan_get_url_2.result = search rules in
    arms.arm_get_url_2 _ _ _ _ _ _ _ _ _ c.in-154.is c.scan_get_url_2.ensures laid

pub returns-in-155 : goal.returns-in-155
returns-in-155 c =
    let laid : c.map-in-155.result ≡ laid_by laid.Function c.note_payload-in-155.result = search rules in
    arms.arm_define_function _ _ _ _ _ _ _ _ _ c.requires.2.bytes (terms_short c.args.m.now.terms _ _) (omega arith) c.in-155.is c.scan_define_function.ensures c.note_payload-in-155.ensures laid

pub returns-in-159 : goal.returns-in-159
returns-in-159 c =
    let laid : c.map-in-159.result ≡ laid_by laid.Flat c.scan_goto_frame_2.result = search rules in
    arms.arm_goto_frame_2 _ _ _ _ _ _ _ _ _ c.in-159.is c.scan_goto_frame_2.ensures laid

pub returns-in-143 : goal.returns-in-143
returns-in-143 c = arms.arm_try _ _ _ _ _ _ _ c.requires.2.bytes (terms_short c.args.m.now.terms _ _) (omega arith) _ _ c.in-143.is c.scan_try.ensures

pub returns-in-148 : goal.returns-in-148
returns-in-148 c = arms.arm_with _ _ _ _ _ _ _ (omega (arith, c.after-word.ensures.0)) c.in-148.is (omega arith) c.after-word.ensures.1

pub returns-in-153 : goal.returns-in-153
returns-in-153 c = arms.arm_branch _ _ _ _ _ _ _ _ (omega arith) c.in-153.is (c.scan_branch.ensures _)

pub returns-in-158 : goal.returns-in-158
returns-in-158 c = arms.arm_call _ _ _ _ _ _ _ (omega (arith, c.after.ensures.0)) c.in-158.is (omega (arith, c.after.ensures.1))

pub returns-in_default : goal.returns-in_default
returns-in_default c = arms.arm_unknown _ _ _ _ _ _ _ (arms.unlisted _ c.requires.0 (omega arith) (search rules))

pub returns-in_default-2 : goal.returns-in_default-2
returns-in_default-2 c = arms.arm_unknown _ _ _ _ _ _ _ (arms.unlisted _ c.requires.0 (omega arith) (search rules))
