-- Recording what is left gives what recording all gives (`Standing`), the same two slices are lent, and each turn raises `next`.
-- Assumes nothing.
use Prim.Native.Nat.{◌-◌}
use Rattle.labels.specs.Table.{held, SameTables, entries_in, none_left, index_of, position_of}
use Rattle.labels.proofs.Recording.{Standing, number_of}
use Rattle.labels.proofs.record_each.Given as goal

abbrev pub invariant-loop-next : goal.invariant-loop-next
invariant-loop-next l = Standing (entries_in l.entries) l.fn.first (index_of l.i) (position_of l.pos l.home) (held l.initial.tables) (held l.tables) l.next × SameTables l.initial.tables l.tables

abbrev pub decreases-loop-next : goal.decreases-loop-next
decreases-loop-next l = none_left - number_of l.next
