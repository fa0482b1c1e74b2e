-- `store` of the low sixteen bits meets its contract: two bytes side by side are a run. Assumes nothing.
use Rattle.std.proofs.Common.{arith, add-one, length-set, ap}
use Rattle.std.proofs.lemmas.List.Edits.{sets}
use Rattle.layout.specs.Numbers.{le16}
use Rattle.stores.proofs.Stores.{le16_low}
use Rattle.stores.proofs.Low16Store.store.Goals as goal

pub bounds-out-at : goal.bounds-out-at
unfolding le16
bounds-out-at c = omega arith

pub bounds-out-at-2 : goal.bounds-out-at-2
unfolding le16
bounds-out-at-2 c = simp length-set (omega arith)

pub returns-clause-end : goal.returns-clause-end
unfolding le16
returns-clause-end c = omega arith

pub returns-clause-wrote : goal.returns-clause-wrote
unfolding le16
returns-clause-wrote c = rw (c.to_le_bytes.ensures, add-one) (ap (λ vs. sets c.args.out.now c.args.at vs) (le16_low c.args.self.0))
