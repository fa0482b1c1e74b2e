-- `push_value_at` meets its contract, kind by kind. Assumes nothing.
use Rattle.std.proofs.Common.{arith}
use Rattle.opcode.specs.Kinds.{meant}
use Rattle.pcode.proofs.Values.{value_shown, value_room, kind_room, kind_stands}
use Rattle.pcode.proofs.push_value_at.Goals as goal

pub bounds-m-at : goal.bounds-m-at
bounds-m-at c = omega (arith, kind_room c.requires)

pub unreachable-requires : goal.unreachable-requires
unreachable-requires c = kind_stands c.requires c.in_default.ensures

pub overflow_add-p : goal.overflow_add-p
overflow_add-p c = omega (arith, kind_room c.requires)

pub span_at-string-requires : goal.span_at-string-requires
unfolding meant
span_at-string-requires c = omega (arith, value_room c.in-Some.ensures c.in-String.is c.requires)

pub bounds-m-p : goal.bounds-m-p
unfolding meant
bounds-m-p c = omega (arith, value_room c.in-Some.ensures c.in-Register.is c.requires)

pub overflow_add-value : goal.overflow_add-value
unfolding meant
overflow_add-value c = omega (arith, value_room c.in-Some.ensures c.in-Register.is c.requires)

pub bounds-m-p-in-Boolean : goal.bounds-m-p-in-Boolean
unfolding meant
bounds-m-p-in-Boolean c = omega (arith, value_room c.in-Some.ensures c.in-Boolean.is c.requires)

pub overflow_add-value-in-Boolean : goal.overflow_add-value-in-Boolean
unfolding meant
overflow_add-value-in-Boolean c = omega (arith, value_room c.in-Some.ensures c.in-Boolean.is c.requires)

pub u64_at-requires : goal.u64_at-requires
unfolding meant
u64_at-requires c = omega (arith, value_room c.in-Some.ensures c.in-Float.is c.requires)

pub overflow_add-value-in-Float : goal.overflow_add-value-in-Float
unfolding meant
overflow_add-value-in-Float c = omega (arith, value_room c.in-Some.ensures c.in-Float.is c.requires)

pub u32_at-requires : goal.u32_at-requires
unfolding meant
u32_at-requires c = omega (arith, value_room c.in-Some.ensures c.in-Integer.is c.requires)

pub overflow_add-value-in-Integer : goal.overflow_add-value-in-Integer
unfolding meant
overflow_add-value-in-Integer c = omega (arith, value_room c.in-Some.ensures c.in-Integer.is c.requires)

pub u16_at-requires : goal.u16_at-requires
unfolding meant
u16_at-requires c = omega (arith, value_room c.in-Some.ensures c.in-Constant.is c.requires)

pub overflow_add-value-in-Constant : goal.overflow_add-value-in-Constant
unfolding meant
overflow_add-value-in-Constant c = omega (arith, value_room c.in-Some.ensures c.in-Constant.is c.requires)

pub returns-in-String : goal.returns-in-String
unfolding meant
returns-in-String c = rw c.span_at-string.ensures (value_shown c.in-Some.ensures c.in-String.is)

pub returns-in-Null : goal.returns-in-Null
unfolding meant
returns-in-Null c = value_shown c.in-Some.ensures c.in-Null.is

pub returns-in-Undefined : goal.returns-in-Undefined
unfolding meant
returns-in-Undefined c = value_shown c.in-Some.ensures c.in-Undefined.is

pub returns-in-Register : goal.returns-in-Register
unfolding meant
returns-in-Register c = value_shown c.in-Some.ensures c.in-Register.is

pub returns-in-Boolean : goal.returns-in-Boolean
unfolding meant
returns-in-Boolean c = value_shown c.in-Some.ensures c.in-Boolean.is

pub returns-in-Float : goal.returns-in-Float
unfolding meant
returns-in-Float c = rw c.u64_at.ensures (value_shown c.in-Some.ensures c.in-Float.is)

pub returns-in-Integer : goal.returns-in-Integer
unfolding meant
returns-in-Integer c = rw c.u32_at.ensures (value_shown c.in-Some.ensures c.in-Integer.is)

pub returns-in-Constant : goal.returns-in-Constant
unfolding meant
returns-in-Constant c = rw c.u16_at.ensures.0 (value_shown c.in-Some.ensures c.in-Constant.is)
