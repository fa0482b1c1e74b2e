-- The functions of the cycle meet their contracts. Assumes nothing.
use native.Mathlib.Omega.{arith}
use mathlib.Core.Path.{refl}
use Rattle.laws.specs.Books.{WordsShort}
use Rattle.editions.specs.declared.MainBody.{MainBody}
use Rattle.editions.specs.Allowed.{read_by}
use Rattle.editions.proofs.Listed.{terms_short}
use Rattle.judge.proofs.Actions as laws
use Rattle.judge.proofs.Loops as loops
use Rattle.judge.proofs.+judging.Goals as goal

short : (m : MainBody) → WordsShort (read_by m)
short m = terms_short m.terms m.words.now m.index.now

pub judge_action-bounds-m-from : goal.judge_action-bounds-m-from
judge_action-bounds-m-from t c = laws.opcode_inside _ c.requires

pub judge_action-returns-then-op-lt128 : goal.judge_action-returns-then-op-lt128
judge_action-returns-then-op-lt128 t c = laws.small_passed _ c.requires _ c.if-op-lt128.true

pub judge_bodies-loop-init : goal.judge_bodies-loop-init
judge_bodies-loop-init t c = laws.bodies_start _ _ _ c.requires

pub judge_bodies-judge_body-requires : goal.judge_bodies-judge_body-requires
judge_bodies-judge_body-requires t c = (omega arith, loops.loop_one _ _ c.loop-test.true c.loop.invariant)

pub judge_bodies-returns-in_err-cursor : goal.judge_bodies-returns-in_err-cursor
judge_bodies-returns-in_err-cursor t c = loops.loop_bad _ _ c.loop-test.true c.loop.invariant _ _ c.from_residual.ensures.1 c.in_err-cursor.ensures

pub judge_bodies-loop-preserved : goal.judge_bodies-loop-preserved
judge_bodies-loop-preserved t c = loops.loop_more _ _ c.loop-test.true c.loop.invariant (laws.body_onward _ (short c.args.m.now) _ _) (laws.body_passes _ _ _) _ c.in_ok-cursor.ensures

pub judge_bodies-returns : goal.judge_bodies-returns
judge_bodies-returns t c = loops.loop_end _ _ c.loop-test.false c.loop.invariant

pub judge_body-u16_at-requires : goal.judge_body-u16_at-requires
judge_body-u16_at-requires t c = omega (arith, laws.front_inside _ c.requires)

pub judge_body-u16_at-count-requires : goal.judge_body-u16_at-count-requires
judge_body-u16_at-count-requires t c = omega (arith, laws.front_inside _ c.requires, c.u16_at.ensures.0)

pub judge_body-loop-init : goal.judge_body-loop-init
judge_body-loop-init t c = laws.body_start _ c.requires _ _ _ _ c.u16_at.ensures.0 refl c.u16_at-count.ensures.0

pub judge_body-overflow_sub-depth : goal.judge_body-overflow_sub-depth
judge_body-overflow_sub-depth t c = laws.is_deep _ c.requires

pub judge_body-judge_action-requires : goal.judge_body-judge_action-requires
judge_body-judge_action-requires t c = (omega (arith, laws.is_deep _ c.requires), loops.loop_one _ _ c.loop-test.true c.loop.invariant)

pub judge_body-returns-in_err-cursor : goal.judge_body-returns-in_err-cursor
judge_body-returns-in_err-cursor t c = loops.loop_bad _ _ c.loop-test.true c.loop.invariant _ _ c.from_residual.ensures.1 c.in_err-cursor.ensures

pub judge_body-loop-preserved : goal.judge_body-loop-preserved
judge_body-loop-preserved t c = loops.loop_more _ _ c.loop-test.true c.loop.invariant (laws.action_onward _ (short c.args.m.now) _ _) (laws.action_passes _ _ _) _ c.in_ok-cursor.ensures

pub judge_body-returns : goal.judge_body-returns
judge_body-returns t c = loops.loop_end _ _ c.loop-test.false c.loop.invariant

pub judge_large-unreachable-requires : goal.judge_large-unreachable-requires
judge_large-unreachable-requires t c = laws.never_stops _ c.requires.2 c.requires.1 _ _ c.in-Err.ensures

pub judge_large-judge_branch-requires : goal.judge_large-judge_branch-requires
judge_large-judge_branch-requires t c =
    let j = c.requires.2 in
    let q = laws.branch_asks _ j c.requires.1 _ _ (rw c.in-Ok-Branch.field-0-is at c.in-Ok-Branch.ensures) in
    (omega (arith, q.0, j.fitting.slots), λ e. omega (arith, q.0, j.fitting.lent e), j.fitting.small, omega (arith, q.1))

pub judge_large-judge_bodies-requires : goal.judge_large-judge_bodies-requires
judge_large-judge_bodies-requires t c = (omega arith, rw c.next_after-in-Ok-Bodies.ensures (laws.bodies_asks _ c.requires.2 c.requires.1 _ _ (rw c.in-Ok-Bodies.field-0-is at c.in-Ok-Bodies.ensures)))

pub judge_large-judge_bodies-requires-in-Ok-Function : goal.judge_large-judge_bodies-requires-in-Ok-Function
judge_large-judge_bodies-requires-in-Ok-Function t c = (omega arith, rw c.next_after-in-Ok-Function.ensures (laws.function_asks _ c.requires.2 c.requires.1 _ _ (rw c.in-Ok-Function.field-0-is at c.in-Ok-Function.ensures)))

pub judge_large-returns-in-Ok-Flat : goal.judge_large-returns-in-Ok-Flat
judge_large-returns-in-Ok-Flat t c = rw c.next_after.ensures (laws.flat_passed _ c.requires.2 c.requires.1 _ _ _ (rw c.in-Ok-Flat.field-0-is at c.in-Ok-Flat.ensures))

pub judge_large-returns-in_ok-judge_branch-in-Ok-Branch : goal.judge_large-returns-in_ok-judge_branch-in-Ok-Branch
judge_large-returns-in_ok-judge_branch-in-Ok-Branch t c = rw c.next_after-in-Ok-Branch.ensures (laws.branch_passed _ c.requires.2 c.requires.1 _ _ _ (rw c.in-Ok-Branch.field-0-is at c.in-Ok-Branch.ensures) c.in_ok-judge_branch-in-Ok-Branch.ensures)

pub judge_large-returns-in_err-judge_branch-in-Ok-Branch : goal.judge_large-returns-in_err-judge_branch-in-Ok-Branch
judge_large-returns-in_err-judge_branch-in-Ok-Branch t c = laws.branch_refused _ c.requires.2 c.requires.1 _ _ _ (rw c.in-Ok-Branch.field-0-is at c.in-Ok-Branch.ensures) _ _ c.from_residual.ensures.1 c.in_err-judge_branch-in-Ok-Branch.ensures

pub judge_large-returns-in-Ok-Bodies : goal.judge_large-returns-in-Ok-Bodies
judge_large-returns-in-Ok-Bodies t c = laws.bodies_found _ c.requires.2 c.requires.1 _ _ _ _ (rw c.in-Ok-Bodies.field-0-is at c.in-Ok-Bodies.ensures) (rw c.next_after-in-Ok-Bodies.ensures at c.judge_bodies.ensures)

pub judge_large-returns-in-Ok-Function : goal.judge_large-returns-in-Ok-Function
judge_large-returns-in-Ok-Function t c = laws.function_found _ c.requires.2 c.requires.1 _ _ _ _ (rw c.in-Ok-Function.field-0-is at c.in-Ok-Function.ensures) (rw c.next_after-in-Ok-Function.ensures at c.judge_bodies-in-Ok-Function.ensures)
