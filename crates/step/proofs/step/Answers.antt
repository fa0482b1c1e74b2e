-- `step` meets its contract: where the loop ends, and wherever it goes on, what is left to do answers what the whole does.
-- Assumes nothing.
use Rattle.step.proofs.Walks as walks
use native.Mathlib.Omega.{arith}
use Rattle.step.proofs.step.Goals as goal

pub loop-at-init : goal.loop-at-init
loop-at-init c = walks.going_start _

pub loop-at-smaller : goal.loop-at-smaller
loop-at-smaller c = omega (arith, walks.going_forward _ _ _ _ c.loop-at.invariant c.if-block-at.false _ c.in-Some.ensures)

pub loop-at-preserved : goal.loop-at-preserved
loop-at-preserved c = walks.going_on _ _ _ _ c.loop-at.invariant c.if-block-at.false _ c.in-Some.ensures

pub returns-in_default : goal.returns-in_default
returns-in_default c = walks.going_cut _ _ _ _ c.loop-at.invariant c.if-block-at.false c.in_default.ensures

pub returns-then-ended : goal.returns-then-ended
returns-then-ended c = walks.going_clean _ _ _ _ c.loop-at.invariant c.if-block-at.true c.if-ended.true

pub returns-else-ended : goal.returns-else-ended
returns-else-ended c = walks.going_endless _ _ _ _ c.loop-at.invariant c.if-block-at.true c.if-ended.false
