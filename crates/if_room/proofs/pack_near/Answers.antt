-- `pack_near` meets its contract: the front of the output that is lent to the writer is as long as the block. Assumes nothing.
use native.Mathlib.Omega.{arith}
use Rattle.editions.proofs.Listed.{terms_short}
use Rattle.if_room.proofs.Nears as nears
use Rattle.if_room.proofs.pack_near.Goals as goal

pub overflow_add-len : goal.overflow_add-len
overflow_add-len c =
    omega (arith, nears.len_small _ _ _ _ c.requires (terms_short c.args.m.now.terms c.args.m.now.words.now c.args.m.now.index.now))

pub returns-then-out-len : goal.returns-then-out-len
returns-then-out-len c = nears.near_no_room _ _ _ _ c.requires _ c.if-out-len.true

pub returns : goal.returns
returns c =
    nears.near_done _ _ _ _ c.requires _ c.if-out-len.false _ _ c.write_main-reached.ensures
