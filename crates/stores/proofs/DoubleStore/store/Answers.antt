-- `store` of a double meets its contract. Assumes nothing.
use Rattle.std.proofs.Common.{arith, rules}
use Rattle.layout.specs.Numbers.{le16, le32}
use Rattle.layout.specs.Payload.{double_bytes}
use Rattle.stores.proofs.DoubleStore.store.Goals as goal

pub store-requires : goal.store-requires
unfolding double_bytes le32 le16
store-requires c = omega arith

pub returns-clause-end : goal.returns-clause-end
unfolding double_bytes le32 le16
returns-clause-end c = omega (arith, c.store.ensures.end)

pub returns-clause-wrote : goal.returns-clause-wrote
unfolding double_bytes
returns-clause-wrote c = search rules
