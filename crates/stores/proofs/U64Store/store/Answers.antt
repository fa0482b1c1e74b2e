-- `store` of a u64 meets its contract: its halves are its bytes. Assumes nothing.
use Rattle.std.proofs.Common.{arith}
use Rattle.layout.specs.Numbers.{le64, le32, le16}
use Rattle.stores.proofs.Stores.{le64_halves}
use Rattle.stores.proofs.U64Store.store.Goals as goal

pub store-requires : goal.store-requires
unfolding le64 le32 le16
store-requires c = omega arith

pub returns-clause-end : goal.returns-clause-end
unfolding le64 le32 le16
returns-clause-end c = omega (arith, c.store.ensures.end)

pub returns-clause-wrote : goal.returns-clause-wrote
returns-clause-wrote c = rw (le64_halves c.args.self (omega arith)) at c.store.ensures.wrote
