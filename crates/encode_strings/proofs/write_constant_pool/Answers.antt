-- `write_constant_pool` meets its contract: the count, the strings and then the header before them are one run. Assumes nothing.
use native.Mathlib.Omega.{arith}
use Rattle.layout.proofs.Lengths.{length_le16}
use Rattle.encode_values.specs.Pieces.{strings_at}
use Rattle.encode_strings.proofs.Wholes.{pool_space, pool_room, pool_put}
use Rattle.encode_strings.proofs.write_constant_pool.Goals as goal

pub store-start-requires : goal.store-start-requires
store-start-requires c = omega (arith, pool_space c.args.n (strings_at c.args.m.now c.args.n c.args.from.at) c.requires)

pub write_list-end-requires : goal.write_list-end-requires
write_list-end-requires c = pool_room _ _ c.requires c.store-start.ensures.end c.store-start.auto.out

pub constant_pool_len-len-requires : goal.constant_pool_len-len-requires
constant_pool_len-len-requires c =
    omega (arith, pool_space c.args.n (strings_at c.args.m.now c.args.n c.args.from.at) c.requires, c.store-start.ensures.end, c.write_list-end.ensures.end, c.requires.sums)

pub write_action_header-requires : goal.write_action_header-requires
write_action_header-requires c =
    omega (arith, pool_space c.args.n (strings_at c.args.m.now c.args.n c.args.from.at) c.requires, c.store-start.auto.out, c.write_list-end.auto.out)

pub returns : goal.returns
returns c =
    let s = c.store-start.ensures in
    let e = c.write_list-end.ensures in
    pool_put _ _ c.requires s.end s.wrote e (omega (arith, s.end, e.end, length_le16 c.args.n, c.constant_pool_len-len.ensures)) c.write_action_header.ensures.1
