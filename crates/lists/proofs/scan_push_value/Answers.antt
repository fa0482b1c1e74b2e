-- `scan_push_value` meets its contract, kind by kind. Assumes nothing.
use Rattle.std.proofs.Common.{arith, refl}
use mathlib.Core.Path.{◌∙◌}
use Rattle.layout.specs.Tree.{String, Register, Boolean, Float, Integer, Constant}
use Rattle.layout.specs.Read.{read_value_of, read_bytes, read_u8, read_u16, read_u32, read_u64, read_flag, read_string}
use Rattle.layout.specs.Strings.{map_value}
use Rattle.layout.specs.Lengths.{push_length, string_length}
use Rattle.editions.specs.Allowed.{read_by}
use Rattle.opcode.specs.Kinds.{meant}
use Rattle.operands.specs.Operands.{string_size}
use Rattle.operands.proofs.Scans.{cut, number_as}
use Rattle.lists.specs.Elements.{constant_size, value_size}
use Rattle.lists.proofs.Values as values
use Rattle.lists.proofs.scan_push_value.Goals as goal

pub returns-in_err-byte : goal.returns-in_err-byte
returns-in_err-byte c = cut _ _ _ _ _ c.from_residual.ensures.1 c.in_err-byte.ensures.err (values.value_out _ _ _ 0)

pub returns-in-None : goal.returns-in-None
returns-in-None c = c.stops.ensures ∙ values.value_unknown _ _ _ _ _ c.in_ok-byte.ensures.ok c.in-None.ensures

pub returns-in-Some-String : goal.returns-in-Some-String
unfolding meant read_value_of value_size map_value push_length string_size string_length
returns-in-Some-String c =
    let m = c.args.m.now in
    values.value_field _ _ _ _ _ c.in_ok-byte.ensures.ok c.in-Some-String.ensures c.in-Some-String.field-0-is 1 String string_size (read_string (read_by m) m.b.now) refl (λ s. omega arith) c.after.ensures c.scan_string.ensures

pub returns-in-Some-Null : goal.returns-in-Some-Null
unfolding meant read_value_of value_size map_value push_length
returns-in-Some-Null c = values.value_alone _ _ _ _ _ c.in_ok-byte.ensures.ok c.in-Some-Null.ensures c.in-Some-Null.field-0-is refl refl c.after-in-Some-Null.ensures

pub returns-in-Some-Undefined : goal.returns-in-Some-Undefined
unfolding meant read_value_of value_size map_value push_length
returns-in-Some-Undefined c = values.value_alone _ _ _ _ _ c.in_ok-byte.ensures.ok c.in-Some-Undefined.ensures c.in-Some-Undefined.field-0-is refl refl c.after-in-Some-Undefined.ensures

pub returns-in-Some-Register : goal.returns-in-Some-Register
unfolding meant read_value_of value_size map_value push_length read_bytes read_u8
returns-in-Some-Register c =
    values.value_field _ _ _ _ _ c.in_ok-byte.ensures.ok c.in-Some-Register.ensures c.in-Some-Register.field-0-is 2 Register (λ _. 0) (read_u8 c.args.m.now.b.now) refl (λ s. omega arith) c.after-in-Some-Register.ensures (c.scan_bytes.ensures ∙ number_as _ _ _ _ _ _)

pub returns-in-Some-Boolean : goal.returns-in-Some-Boolean
unfolding meant read_value_of value_size map_value push_length
returns-in-Some-Boolean c =
    values.value_field _ _ _ _ _ c.in_ok-byte.ensures.ok c.in-Some-Boolean.ensures c.in-Some-Boolean.field-0-is 2 Boolean (λ _. 0) (read_flag c.args.m.now.b.now) refl (λ s. omega arith) c.after-in-Some-Boolean.ensures c.scan_flag.ensures

pub returns-in-Some-Float : goal.returns-in-Some-Float
unfolding meant read_value_of value_size map_value push_length read_bytes read_u64
returns-in-Some-Float c =
    values.value_field _ _ _ _ _ c.in_ok-byte.ensures.ok c.in-Some-Float.ensures c.in-Some-Float.field-0-is 9 Float (λ _. 0) (read_u64 c.args.m.now.b.now) refl (λ s. omega arith) c.after-in-Some-Float.ensures (c.scan_bytes-in-Some-Float.ensures ∙ number_as _ _ _ _ _ _)

pub returns-in-Some-Integer : goal.returns-in-Some-Integer
unfolding meant read_value_of value_size map_value push_length read_bytes read_u32
returns-in-Some-Integer c =
    values.value_field _ _ _ _ _ c.in_ok-byte.ensures.ok c.in-Some-Integer.ensures c.in-Some-Integer.field-0-is 5 Integer (λ _. 0) (read_u32 c.args.m.now.b.now) refl (λ s. omega arith) c.after-in-Some-Integer.ensures (c.scan_bytes-in-Some-Integer.ensures ∙ number_as _ _ _ _ _ _)

pub returns-in-Some-Constant : goal.returns-in-Some-Constant
unfolding meant read_value_of value_size map_value push_length constant_size
returns-in-Some-Constant c =
    values.value_field _ _ _ _ _ c.in_ok-byte.ensures.ok c.in-Some-Constant.ensures c.in-Some-Constant.field-0-is 0 Constant constant_size (read_u16 c.args.m.now.b.now) refl (λ s. omega arith) c.after-in-Some-Constant.ensures c.scan_constant.ensures
