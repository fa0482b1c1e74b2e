-- The elements that are left give with those written what all give. Assumes nothing.
use Rattle.std.proofs.Common.{◌-◌}
use Rattle.encode_values.proofs.Lists.{Going}
use Rattle.encode_values.proofs.write_list.Given as goal

abbrev pub invariant-loop : goal.invariant-loop
invariant-loop g l = Going (g.met.E.Elements.joins l.m) (g.E.Elements.list l.m l.n l.fn.from.at) l.fn.from.pos.0 l.fn.out (l.n - l.counter) l.to.at l.to.pos.0 l.out
