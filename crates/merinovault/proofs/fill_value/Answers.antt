use Rattle.std.proofs.Common.{arith}
use Rattle.merinovault.proofs.Values.{value_long, value_filled}
use Rattle.merinovault.proofs.fill_value.Goals as goal

pub store-requires : goal.store-requires
store-requires c = omega (arith, value_long c.args.bits c.args.action, c.requires)

pub returns : goal.returns
returns c = value_filled _ _ _ _ c.requires c.store.ensures.wrote
