-- `write_define_function_2` meets its contract: the parameters, the fields before them and then the header before these are one run. Assumes nothing.
use native.Mathlib.Omega.{arith}
use Rattle.layout.specs.Numbers.{le16}
use Rattle.encode_owners.proofs.Wholes.{length_front, function2_space, function2_room, function2_put}
use Rattle.encode_owners.proofs.write_define_function_2.Goals as goal

pub store-fields-requires : goal.store-fields-requires
store-fields-requires c = rw c.string_of.ensures (omega (arith, function2_space c.args.m.now c.args.f c.requires.2))

pub overflow_add-start : goal.overflow_add-start
overflow_add-start c =
    let h = rw c.string_of.ensures at c.store-fields.ensures.end in
    omega (arith, function2_space c.args.m.now c.args.f c.requires.2, c.requires.2.sums)

pub write_list-e-requires : goal.write_list-e-requires
write_list-e-requires c = function2_room c.args.m.now c.args.f c.requires.2 (rw c.string_of.ensures at c.store-fields.ensures.end) c.store-fields.auto.out

pub store-requires : goal.store-requires
unfolding le16
store-requires c =
    let h = rw c.string_of.ensures at c.store-fields.ensures.end in
    omega (arith, function2_space c.args.m.now c.args.f c.requires.2, c.write_list-e.auto.out, c.store-fields.auto.out)

pub store-end-requires : goal.store-end-requires
unfolding le16
store-end-requires c =
    let h = rw c.string_of.ensures at c.store-fields.ensures.end in
    omega (arith, function2_space c.args.m.now c.args.f c.requires.2, c.write_list-e.ensures.end, c.store.auto.out, c.write_list-e.auto.out, c.store-fields.auto.out)

pub define_function_2_len-len-requires : goal.define_function_2_len-len-requires
define_function_2_len-len-requires c =
    let l = length_front c.args.m.now c.args.f.name c.args.f.count c.requires.0 in
    let s = function2_space c.args.m.now c.args.f c.requires.2 in
    let h = rw c.string_of.ensures at c.store-fields.ensures.end in
    (omega (arith, c.requires.2.sums), omega (arith, c.write_list-e.ensures.end, c.requires.2.sums))

pub write_action_header-requires : goal.write_action_header-requires
write_action_header-requires c =
    omega (arith, function2_space c.args.m.now c.args.f c.requires.2, c.store-end.auto.out, c.store.auto.out, c.write_list-e.auto.out, c.store-fields.auto.out)

pub returns : goal.returns
unfolding le16
returns c =
    let s = c.store-fields.ensures in
    let e = c.string_of.ensures in
    let h = rw e at s.end in
    let l = length_front c.args.m.now c.args.f.name c.args.f.count c.requires.0 in
    let k = c.define_function_2_len-len.ensures in
    function2_put c.args.m.now c.args.f c.requires.2 h (rw e at s.wrote) c.write_list-e.ensures c.u16_at.ensures.0 c.store.ensures.wrote c.store-end.ensures.wrote c.store-end.ensures.end (omega (arith, c.write_list-e.ensures.end, c.store-end.ensures.end)) c.write_action_header.ensures.1
