-- `store` of a string meets its contract. Assumes nothing.
use Rattle.std.proofs.Common.{arith, rules, length-append}
use Rattle.layout.specs.Payload.{zero_ended}
use Rattle.stores.proofs.ZeroEndedStore.store.Goals as goal

pub store-requires : goal.store-requires
unfolding zero_ended
store-requires c = let h = simp length-append at c.requires in simp length-append (omega arith)

pub returns-clause-end : goal.returns-clause-end
unfolding zero_ended
returns-clause-end c = rw c.store.ensures.end (simp length-append (omega arith))

pub returns-clause-wrote : goal.returns-clause-wrote
unfolding zero_ended
returns-clause-wrote c = search rules
