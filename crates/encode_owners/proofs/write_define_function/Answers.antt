-- `write_define_function` meets its contract: the fields, the parameters and then the header before them are one run. Assumes nothing.
use native.Mathlib.Omega.{arith}
use Rattle.layout.specs.Numbers.{le16}
use Rattle.encode_owners.proofs.Wholes.{length_front, function_space, function_room, function_put}
use Rattle.encode_owners.proofs.write_define_function.Goals as goal

pub store-start-requires : goal.store-start-requires
store-start-requires c = rw c.string_of.ensures (omega (arith, function_space c.args.m.now c.args.f c.requires.1))

pub write_list-e-requires : goal.write_list-e-requires
write_list-e-requires c = function_room c.args.m.now c.args.f c.requires.1 (rw c.string_of.ensures at c.store-start.ensures.end) c.store-start.auto.out

pub store-end-requires : goal.store-end-requires
unfolding le16
store-end-requires c =
    let h = rw c.string_of.ensures at c.store-start.ensures.end in
    omega (arith, function_space c.args.m.now c.args.f c.requires.1, c.write_list-e.ensures.end, c.write_list-e.auto.out, c.store-start.auto.out)

pub define_function_len-len-requires : goal.define_function_len-len-requires
define_function_len-len-requires c =
    let l = length_front c.args.m.now c.args.f.name c.args.f.count c.requires.0 in
    let s = function_space c.args.m.now c.args.f c.requires.1 in
    let h = rw c.string_of.ensures at c.store-start.ensures.end in
    (omega (arith, c.requires.1.sums), omega (arith, c.write_list-e.ensures.end, c.requires.1.sums))

pub write_action_header-requires : goal.write_action_header-requires
write_action_header-requires c =
    omega (arith, function_space c.args.m.now c.args.f c.requires.1, c.store-end.auto.out, c.write_list-e.auto.out, c.store-start.auto.out)

pub returns : goal.returns
unfolding le16
returns c =
    let s = c.store-start.ensures in
    let e = c.string_of.ensures in
    let h = rw e at s.end in
    let l = length_front c.args.m.now c.args.f.name c.args.f.count c.requires.0 in
    let k = c.define_function_len-len.ensures in
    function_put c.args.m.now c.args.f c.requires.1 h (rw e at s.wrote) c.write_list-e.ensures c.store-end.ensures.wrote c.store-end.ensures.end (omega (arith, c.write_list-e.ensures.end, c.store-end.ensures.end)) c.write_action_header.ensures.1
