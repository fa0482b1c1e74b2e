-- `write_try` meets its contract: the shape, the lengths, the target and then the header before them are one run. Assumes nothing.
use native.Mathlib.Omega.{arith}
use Rattle.layout.specs.Numbers.{le16}
use Rattle.encode_owners.specs.Payloads.{target_bytes}
use Rattle.encode_owners.proofs.Wholes.{try_space, try_put}
use Rattle.encode_owners.proofs.write_try.Goals as goal

pub store-target-requires : goal.store-target-requires
unfolding le16
store-target-requires c = omega (arith, try_space c.args.shape (target_bytes c.args.m.now c.args.t) c.requires.1)

pub write_catch_target-end-requires : goal.write_catch_target-end-requires
unfolding le16
write_catch_target-end-requires c =
    let h = try_space c.args.shape (target_bytes c.args.m.now c.args.t) c.requires.1 in
    let e = c.store-target.ensures.end in
    let l = c.store-target.auto.out in
    (c.requires.0, record { known = tt; room = omega (arith, l); sums = omega (arith, l, c.requires.1.sums) })

pub try_len-len-requires : goal.try_len-len-requires
unfolding le16
try_len-len-requires c =
    let h = try_space c.args.shape (target_bytes c.args.m.now c.args.t) c.requires.1 in
    let e = c.store-target.ensures.end in
    omega (arith, c.write_catch_target-end.ensures.end, c.requires.1.sums)

pub write_action_header-requires : goal.write_action_header-requires
write_action_header-requires c =
    omega (arith, try_space c.args.shape (target_bytes c.args.m.now c.args.t) c.requires.1, c.store-target.auto.out, c.write_catch_target-end.auto.out)

pub returns : goal.returns
unfolding le16
returns c =
    let e = c.store-target.ensures.end in
    try_put c.args.shape _ (omega arith) c.store-target.ensures.wrote c.write_catch_target-end.ensures (omega (arith, e, c.write_catch_target-end.ensures.end, c.try_len-len.ensures)) c.write_action_header.ensures.1
