-- `store` of a slice meets its contract. Assumes nothing.
use Rattle.std.proofs.Common.{rules}
use Rattle.stores.proofs.Stores.{copy_more}
use Rattle.stores.proofs.RefSliceU8Store.store.Goals as goal

pub loop-i-preserved : goal.loop-i-preserved
loop-i-preserved c = let a = c.args in copy_more a.out.now a.self.now a.at c.loop-i.i (search rules) c.loop-i.invariant
