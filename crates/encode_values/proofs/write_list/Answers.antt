-- The elements that are left give with those written what all give. Assumes nothing.
use Rattle.std.proofs.Common.{◌+◌, ◌-◌, arith}
use Rattle.encode_values.proofs.Lists.{going_start, going_element, going_on, going_end}
use Rattle.encode_values.proofs.write_list.Goals as goal

pub loop-init : goal.loop-init
loop-init g c = going_start (g.met.E.Elements.joins c.args.m.now) (omega arith) c.requires

pub write_one-to-requires : goal.write_one-to-requires
write_one-to-requires g c = going_element _ c.loop.invariant (c.args.n - (c.loop.counter + 1)) (omega arith)

pub loop-preserved : goal.loop-preserved
loop-preserved g c = going_on _ c.loop.invariant (c.args.n - (c.loop.counter + 1)) (omega arith) c.write_one-to.ensures

pub returns : goal.returns
returns g c = going_end _ c.loop.invariant (omega arith)
