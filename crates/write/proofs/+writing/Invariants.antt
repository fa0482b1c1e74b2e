-- What is asked of the cycle: its measures, and what is still to be written of a body. A body calls its actions with one level less,
-- and within a level an action its bodies, a Try's bodies a body that may be absent, that one a block, and a block a body.
-- Assumes nothing.
use Prim.Native.Nat.{◌+◌, ◌-◌, ◌*◌}
use Rattle.write.proofs.Loop.{Writing}
use Rattle.write.proofs.+writing.Given as goal

abbrev pub decreases-write_action : goal.decreases-write_action
decreases-write_action l = l.depth * 5 + 4

abbrev pub decreases-write_actions : goal.decreases-write_actions
decreases-write_actions l = l.depth * 5

abbrev pub decreases-write_block : goal.decreases-write_block
decreases-write_block l = l.depth * 5 + 1

abbrev pub decreases-write_block_if : goal.decreases-write_block_if
decreases-write_block_if l = l.depth * 5 + 2

abbrev pub decreases-write_try_blocks : goal.decreases-write_try_blocks
decreases-write_try_blocks l = l.depth * 5 + 3

abbrev pub invariant-write_actions-loop : goal.invariant-write_actions-loop
invariant-write_actions-loop l = Writing l.m l.fn.from.at l.depth l.fn.from.pos.0 l.tab l.initial.out (l.count - l.counter) l.spot.at l.spot.pos.0 l.out
