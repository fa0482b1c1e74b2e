-- `store` of a pair meets its contract: a run and the one behind it are one run. Assumes nothing.
use Rattle.stores.proofs.Stores.{sets-append}
use Rattle.stores.proofs.Tuple2Store.store.Goals as goal

pub returns-clause-wrote : goal.returns-clause-wrote
returns-clause-wrote g c =
    let v = c.args.self in
    rw (c.store.ensures.wrote, c.store-behind.ensures.end, c.store-behind.ensures.wrote)
    (sets-append c.args.out.now c.args.at (g.A.Store.bytes v.0) (g.B.Store.bytes v.1))
