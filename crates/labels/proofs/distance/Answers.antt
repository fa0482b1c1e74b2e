-- `labels::distance` meets its contract. Assumes nothing.
use native.Mathlib.Omega.{arith}
use Rattle.labels.proofs.Distances.{distance_none, distance_some}
use Rattle.labels.proofs.distance.Goals as goal

pub returns-then-slot-eq0 : goal.returns-then-slot-eq0
returns-then-slot-eq0 c = distance_none _ _ c.if-slot-eq0.true

pub returns : goal.returns
returns c = distance_some _ _ c.if-slot-eq0.false (omega arith) (omega arith)
