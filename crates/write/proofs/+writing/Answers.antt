-- The five functions of the cycle meet their contracts. Assumes nothing.
use mathlib.Core.Path.{ap, ◌∙◌}
use mathlib.Core.Bool.{not}
use native.Mathlib.Omega.{arith}
use Prim.Native.Nat.{ℕ, ◌+◌, ◌*◌}
use Rattle.layout.specs.Numbers.{u16_at}
use Rattle.layout.specs.Read.{has_catch, has_finally}
use Rattle.write.proofs.Loop as loop
use Rattle.write.proofs.Steps as steps
use Rattle.write.proofs.Actions as acts
use Rattle.write.proofs.+writing.Goals as goal

-- ---- an action

pub write_action-write_head-e-requires : goal.write_action-write_head-e-requires
write_action-write_head-e-requires t c = acts.head_room _ _ c.action_at-a.ensures.shows c.requires

pub write_action-overflow_sub-last : goal.write_action-overflow_sub-last
write_action-overflow_sub-last t c =
    omega (arith, (acts.one_room _ _ c.action_at-a.ensures.shows c.write_head-e.ensures (cc) c.requires c.write_head-e.auto.out).1)

pub write_action-write_block-requires : goal.write_action-write_block-requires
write_action-write_block-requires t c =
    (omega arith, acts.one_room _ _ c.action_at-a.ensures.shows c.write_head-e.ensures (cc) c.requires c.write_head-e.auto.out)

pub write_action-write_try_blocks-requires : goal.write_action-write_try_blocks-requires
write_action-write_try_blocks-requires t c =
    (omega arith, acts.tried_room _ _ c.action_at-a.ensures.shows c.write_head-e.ensures c.in-Some-OfTry.shape _ (omega arith) (cc) c.requires c.write_head-e.auto.out)

pub write_action-returns-in-None : goal.write_action-returns-in-None
write_action-returns-in-None t c =
    acts.none_wrote _ _ c.action_at-a.ensures.shows c.write_head-e.ensures (cc)

pub write_action-returns-in-Some-One : goal.write_action-returns-in-Some-One
write_action-returns-in-Some-One t c =
    acts.one_wrote _ _ c.action_at-a.ensures.shows c.write_head-e.ensures (cc) _ _ c.write_block.ensures

pub write_action-returns-in-Some-OfTry : goal.write_action-returns-in-Some-OfTry
write_action-returns-in-Some-OfTry t c =
    acts.tried_wrote _ _ c.action_at-a.ensures.shows c.write_head-e.ensures c.in-Some-OfTry.shape _ (omega arith) (cc) _ _ c.write_try_blocks.ensures

-- ---- the actions of a body

pub write_actions-overflow_add-front : goal.write_actions-overflow_add-front
write_actions-overflow_add-front t c = omega (arith, (loop.fronted _ _ _ _ _ _ c.requires.reads).first)

pub write_actions-u16_at-requires : goal.write_actions-u16_at-requires
write_actions-u16_at-requires t c = (loop.fronted _ _ _ _ _ _ c.requires.reads).first

pub write_actions-overflow_add-front-2 : goal.write_actions-overflow_add-front-2
write_actions-overflow_add-front-2 t c = omega (arith, (loop.fronted _ _ _ _ _ _ c.requires.reads).second, c.u16_at.ensures.0)

pub write_actions-u16_at-count-requires : goal.write_actions-u16_at-count-requires
write_actions-u16_at-count-requires t c = omega (arith, (loop.fronted _ _ _ _ _ _ c.requires.reads).second, c.u16_at.ensures.0)

pub write_actions-overflow_add-spot : goal.write_actions-overflow_add-spot
write_actions-overflow_add-spot t c = omega (arith, (loop.fronted _ _ _ _ _ _ c.requires.reads).second, c.u16_at.ensures.0)

pub write_actions-loop-init : goal.write_actions-loop-init
write_actions-loop-init t c =
    let n = c.u16_at.ensures.0 in
    loop.writing_first _ _ _ _ _ _ c.requires _ _ (c.u16_at-count.ensures.0 ∙ ap (λ (k : ℕ). u16_at c.args.m.now.b.now (c.args.from.at + 2 + 4 * k)) n) (omega (arith, n))

pub write_actions-write_action-spot-requires : goal.write_actions-write_action-spot-requires
write_actions-write_action-spot-requires t c =
    (omega (arith, c.loop.invariant.deep), loop.writing_room _ _ _ _ _ _ _ _ _ _ (omega arith) c.loop.invariant c.requires)

pub write_actions-loop-preserved : goal.write_actions-loop-preserved
write_actions-loop-preserved t c = loop.writing_more _ _ _ _ _ _ _ _ _ _ _ _ (omega arith) c.loop.invariant c.write_action-spot.ensures

pub write_actions-returns : goal.write_actions-returns
write_actions-returns t c = loop.writing_end _ _ _ _ _ _ _ _ _ _ (omega arith) c.loop.invariant

-- ---- a body and its length

pub write_block-returns : goal.write_block-returns
write_block-returns t c = steps.block_wrote _ _ _ _ _ _ _ _ _ c.write_actions-end.ensures c.write_block_length_at.ensures

pub write_block_if-returns-then-not-present : goal.write_block_if-returns-then-not-present
write_block_if-returns-then-not-present t c = steps.if_absent _ _ _ _ _ _ _ (ap not c.if-not-present.true)

pub write_block_if-write_block-requires : goal.write_block_if-write_block-requires
write_block_if-write_block-requires t c =
    (omega arith, (steps.if_room _ _ _ _ _ _ (ap not c.if-not-present.false) c.requires.0, c.requires.1))

pub write_block_if-returns : goal.write_block_if-returns
write_block_if-returns t c = steps.if_wrote _ _ _ _ _ _ _ (ap not c.if-not-present.false) c.write_block.ensures

-- ---- the bodies of a Try

pub write_try_blocks-write_block-t-requires : goal.write_try_blocks-write_block-t-requires
write_try_blocks-write_block-t-requires t c = (omega arith, (steps.try_first _ _ _ _ _ _ c.requires.0, omega arith))

pub write_try_blocks-write_block_if-c-requires : goal.write_try_blocks-write_block_if-c-requires
unfolding has_catch
write_try_blocks-write_block_if-c-requires t c =
    let r = c.requires.0 in
    let l = c.write_block-t.auto.out in
    (omega arith, (steps.try_second _ _ _ _ _ _ r c.write_block-t.ensures.ends _ l, omega (arith, steps.try_after _ _ _ _ _ _ r c.write_block-t.ensures.ends)))

pub write_try_blocks-write_block_if-requires : goal.write_try_blocks-write_block_if-requires
unfolding has_catch has_finally
write_try_blocks-write_block_if-requires t c =
    let p = c.requires in
    let r = p.0 in
    let l = c.write_block-t.auto.out in
    let m = c.write_block_if-c.auto.out in (
      omega arith,
      (
        steps.try_third _ _ _ _ _ _ r c.write_block-t.ensures.ends c.write_block_if-c.ensures.ends _ (m ∙ l),
        omega (arith, p.1, steps.try_after _ _ _ _ _ _ r c.write_block-t.ensures.ends, steps.try_after_both _ _ _ _ _ _ r c.write_block-t.ensures.ends c.write_block_if-c.ensures.ends),
      ),
    )

pub write_try_blocks-returns : goal.write_try_blocks-returns
unfolding has_catch has_finally
write_try_blocks-returns t c = steps.try_wrote _ _ _ _ _ _ _ c.write_block-t.ensures c.write_block_if-c.ensures c.write_block_if.ensures
