-- `action_at` meets its contract, opcode by opcode. Assumes nothing.
use native.Mathlib.Omega.{arith}
use Rattle.pcode.proofs.Actions.{is_goto_frame, is_get_url, is_store_register, is_constant_pool, is_wait_for_frame, is_set_target, is_goto_label, is_wait_for_frame2, is_define_function2, is_try, is_with, is_push, is_jump, is_get_url2, is_define_function, is_if, is_goto_frame2, action_shown, action_room, opcode_room, other_shown}
use Rattle.pcode.proofs.action_at.Goals as goal

pub overflow_add-p : goal.overflow_add-p
overflow_add-p c = omega (arith, opcode_room c.requires)

pub bounds-m-at : goal.bounds-m-at
bounds-m-at c = omega (arith, opcode_room c.requires)

pub u16_at-requires : goal.u16_at-requires
u16_at-requires c = action_room is_goto_frame c.in-129.is c.requires

pub get_url_at-requires : goal.get_url_at-requires
get_url_at-requires c = action_room is_get_url c.in-131.is c.requires

pub bounds-m-p : goal.bounds-m-p
bounds-m-p c = omega (arith, action_room is_store_register c.in-135.is c.requires)

pub u16_at-requires-in-136 : goal.u16_at-requires-in-136
u16_at-requires-in-136 c = action_room is_constant_pool c.in-136.is c.requires

pub u16_at-requires-in-138 : goal.u16_at-requires-in-138
u16_at-requires-in-138 c = omega (arith, action_room is_wait_for_frame c.in-138.is c.requires)

pub bounds-m-p-in-138 : goal.bounds-m-p-in-138
bounds-m-p-in-138 c = omega (arith, action_room is_wait_for_frame c.in-138.is c.requires)

pub span_at-requires : goal.span_at-requires
span_at-requires c = omega (arith, action_room is_set_target c.in-139.is c.requires)

pub span_at-requires-in-140 : goal.span_at-requires-in-140
span_at-requires-in-140 c = omega (arith, action_room is_goto_label c.in-140.is c.requires)

pub bounds-m-p-in-141 : goal.bounds-m-p-in-141
bounds-m-p-in-141 c = omega (arith, action_room is_wait_for_frame2 c.in-141.is c.requires)

pub function_at-requires : goal.function_at-requires
function_at-requires c = action_room is_define_function2 c.in-142.is c.requires

pub try_at-requires : goal.try_at-requires
try_at-requires c = action_room is_try c.in-143.is c.requires

pub u16_at-requires-in-150 : goal.u16_at-requires-in-150
u16_at-requires-in-150 c = action_room is_push c.in-150.is c.requires

pub u16_at-requires-in-153 : goal.u16_at-requires-in-153
u16_at-requires-in-153 c = action_room is_jump c.in-153.is c.requires

pub bounds-m-p-in-154 : goal.bounds-m-p-in-154
bounds-m-p-in-154 c = omega (arith, action_room is_get_url2 c.in-154.is c.requires)

pub bounds-m-p-in-154-2 : goal.bounds-m-p-in-154-2
bounds-m-p-in-154-2 c = omega (arith, action_room is_get_url2 c.in-154.is c.requires)

pub bounds-m-p-in-154-3 : goal.bounds-m-p-in-154-3
bounds-m-p-in-154-3 c = omega (arith, action_room is_get_url2 c.in-154.is c.requires)

pub function_at-requires-in-155 : goal.function_at-requires-in-155
function_at-requires-in-155 c = action_room is_define_function c.in-155.is c.requires

pub u16_at-requires-in-157 : goal.u16_at-requires-in-157
u16_at-requires-in-157 c = action_room is_if c.in-157.is c.requires

pub u16_at-requires-in-159 : goal.u16_at-requires-in-159
u16_at-requires-in-159 c = omega (arith, action_room is_goto_frame2 c.in-159.is c.requires)

pub bounds-m-p-in-159 : goal.bounds-m-p-in-159
bounds-m-p-in-159 c = omega (arith, action_room is_goto_frame2 c.in-159.is c.requires)

pub returns-in-129 : goal.returns-in-129
returns-in-129 c = rw c.u16_at.ensures.0 (action_shown is_goto_frame c.in-129.is)

pub returns-in-131 : goal.returns-in-131
returns-in-131 c = rw c.get_url_at.ensures (action_shown is_get_url c.in-131.is)

pub returns-in-135 : goal.returns-in-135
returns-in-135 c = action_shown is_store_register c.in-135.is

pub returns-in-136 : goal.returns-in-136
returns-in-136 c = rw c.u16_at-in-136.ensures.0 (action_shown is_constant_pool c.in-136.is)

pub returns-in-138 : goal.returns-in-138
returns-in-138 c = rw c.u16_at-in-138.ensures.0 (action_shown is_wait_for_frame c.in-138.is)

pub returns-in-139 : goal.returns-in-139
returns-in-139 c = rw c.span_at.ensures (action_shown is_set_target c.in-139.is)

pub returns-in-140 : goal.returns-in-140
returns-in-140 c = rw c.span_at-in-140.ensures (action_shown is_goto_label c.in-140.is)

pub returns-in-141 : goal.returns-in-141
returns-in-141 c = action_shown is_wait_for_frame2 c.in-141.is

pub returns-in-142 : goal.returns-in-142
returns-in-142 c = rw c.function_at.ensures (action_shown is_define_function2 c.in-142.is)

pub returns-in-143 : goal.returns-in-143
returns-in-143 c = rw c.try_at.ensures (action_shown is_try c.in-143.is)

pub returns-in-148 : goal.returns-in-148
returns-in-148 c = action_shown is_with c.in-148.is

pub returns-in-150 : goal.returns-in-150
returns-in-150 c = rw c.u16_at-in-150.ensures.0 (action_shown is_push c.in-150.is)

pub returns-in-153 : goal.returns-in-153
returns-in-153 c = rw c.u16_at-in-153.ensures.0 (action_shown is_jump c.in-153.is)

pub returns-in-154 : goal.returns-in-154
returns-in-154 c = action_shown is_get_url2 c.in-154.is

pub returns-in-155 : goal.returns-in-155
returns-in-155 c = rw c.function_at-in-155.ensures (action_shown is_define_function c.in-155.is)

pub returns-in-157 : goal.returns-in-157
returns-in-157 c = rw c.u16_at-in-157.ensures.0 (action_shown is_if c.in-157.is)

pub returns-in-159 : goal.returns-in-159
returns-in-159 c = rw c.u16_at-in-159.ensures.0 (action_shown is_goto_frame2 c.in-159.is)

pub returns-in_default : goal.returns-in_default
returns-in_default c = other_shown c.in_default.in_default-own.rest
