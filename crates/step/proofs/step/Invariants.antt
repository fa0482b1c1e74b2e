-- `step` meets its contract: where the loop ends, and wherever it goes on, what is left to do answers what the whole does.
-- Assumes nothing.
use Rattle.step.proofs.Walks as walks
use lib.ListN.{length}
use Prim.Native.Nat.{◌-◌}
use Rattle.step.proofs.step.Given as goal

abbrev pub invariant-loop-at : goal.invariant-loop-at
invariant-loop-at l = walks.Going l.block l.at l.count l.ended

abbrev pub decreases-loop-at : goal.decreases-loop-at
decreases-loop-at l = length l.block - l.at
