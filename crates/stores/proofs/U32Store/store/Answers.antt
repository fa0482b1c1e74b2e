-- `store` of a u32 meets its contract: its halves are its bytes. Assumes nothing.
use Rattle.std.proofs.Common.{arith}
use Rattle.layout.specs.Numbers.{le32, le16}
use Rattle.stores.proofs.Stores.{le32_halves}
use Rattle.stores.proofs.U32Store.store.Goals as goal

pub store-requires : goal.store-requires
unfolding le32 le16
store-requires c = omega arith

pub returns-clause-end : goal.returns-clause-end
unfolding le32 le16
returns-clause-end c = omega (arith, c.store.ensures.end)

pub returns-clause-wrote : goal.returns-clause-wrote
returns-clause-wrote c = rw (le32_halves c.args.self (omega arith)) at c.store.ensures.wrote
