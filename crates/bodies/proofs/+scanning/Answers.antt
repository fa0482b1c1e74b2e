use mathlib.Core.Path.{refl, sym, ap, ◌∙◌}
use Rattle.std.specs.Prelude.{Ok}
use native.Mathlib.Omega.{arith}
use Rattle.positions.specs.Scanned.{fault_of}
use Rattle.layout.specs.Tree.{body_count}
use Rattle.laws.specs.Resolved.{body_length, body_events}
use Rattle.editions.proofs.Listed.{terms_short}
use Rattle.operands.proofs.Scans.{ends_is, passed}
use Rattle.front.specs.Front.{Fronted}
use Rattle.bodies.proofs.Walks as walk
use Rattle.bodies.proofs.+scanning.Goals as goal

pub scan_action-returns-then-m-from-clause-ran : goal.scan_action-returns-then-m-from-clause-ran
unfolding fault_of
scan_action-returns-then-m-from-clause-ran t c = rw c.halted.ensures (walk.did_out _ _ _ _ _ _ _ _ _ c.if-m-from.true)

pub scan_action-returns-then-not-is_listed-clause-ran : goal.scan_action-returns-then-not-is_listed-clause-ran
unfolding fault_of
scan_action-returns-then-not-is_listed-clause-ran t c = rw c.halted-then-not-is_listed.ensures (walk.did_unknown _ _ _ _ _ _ _ _ _ c.if-m-from.false (sym c.is_listed.ensures ∙ c.if-not-is_listed.true))

pub scan_action-returns-clause-ran : goal.scan_action-returns-clause-ran
scan_action-returns-clause-ran t c = rw c.next_after.ensures (walk.did_small _ _ _ _ _ _ _ _ _ c.if-m-from.false c.if-op-ge128.false (sym c.is_listed.ensures ∙ c.if-not-is_listed.false))

pub scan_body-returns-then-depth-eq0-clause-ran : goal.scan_body-returns-then-depth-eq0-clause-ran
unfolding fault_of
scan_body-returns-then-depth-eq0-clause-ran t c = rw c.halted.ensures (walk.ran_fault _ (walk.outcome_no body_length body_count body_events _ _ (walk.body_deep _ _ _ _ c.if-depth-eq0.true)))

pub scan_body-scan_actions-requires : goal.scan_body-scan_actions-requires
scan_body-scan_actions-requires t c =
    let s = ends_is (λ _. 0) _ _ (c.scan_front.ensures _) c.in-Ok.is in
    let f : Fronted _ _ _ _ = record { front = s.0; reads = s.1 } in
    let k = walk.facts _ _ _ _ 0 c.requires.roomy.inside f in
    (omega arith, (c.requires, f, k.place, k.inside))

pub scan_body-returns-in-Err-clause-ran : goal.scan_body-returns-in-Err-clause-ran
scan_body-returns-in-Err-clause-ran t c = rw c.halted-in-Err.ensures (walk.body_stops _ _ _ _ _ _ _ refl _ _ _ _ c.if-depth-eq0.false (c.scan_front.ensures _) c.in-Err.is)

pub scan_large-returns-in-Err-clause-ran : goal.scan_large-returns-in-Err-clause-ran
scan_large-returns-in-Err-clause-ran t c = let p = c.requires in rw c.halted.ensures (walk.did_stops _ _ _ _ _ _ _ _ _ p.1 _ _ (walk.laid_at _ _ p.2 c.scan_payload.ensures) _ c.in-Err.is)

pub scan_large-returns-in-Ok-Flat-clause-ran : goal.scan_large-returns-in-Ok-Flat-clause-ran
scan_large-returns-in-Ok-Flat-clause-ran t c = let p = c.requires in rw c.next_after.ensures (walk.did_flat _ _ _ _ _ _ _ _ _ p.1 _ _ (walk.laid_at _ _ p.2 c.scan_payload.ensures) _ (c.in-Ok-Flat.is ∙ ap Ok c.in-Ok-Flat.field-0-is))

pub scan_large-returns-in-Ok-Branch-clause-ran : goal.scan_large-returns-in-Ok-Branch-clause-ran
scan_large-returns-in-Ok-Branch-clause-ran t c = let p = c.requires in rw c.next_after-in-Ok-Branch.ensures (walk.did_branch _ _ _ _ _ _ _ _ _ p.1 _ _ (walk.laid_at _ _ p.2 c.scan_payload.ensures) _ _ (c.in-Ok-Branch.is ∙ ap Ok c.in-Ok-Branch.field-0-is))

pub scan_large-returns-in-Ok-Bodies-clause-ran : goal.scan_large-returns-in-Ok-Bodies-clause-ran
scan_large-returns-in-Ok-Bodies-clause-ran t c = let p = c.requires in walk.owned_ran _ _ _ _ _ _ _ _ _ p.1 (walk.did_bodies (walk.laid_at _ _ p.2 c.scan_payload.ensures) (c.in-Ok-Bodies.is ∙ ap Ok c.in-Ok-Bodies.field-0-is)) c.scan_bodies.ensures.ran

pub scan_large-returns-in-Ok-Function-clause-ran : goal.scan_large-returns-in-Ok-Function-clause-ran
scan_large-returns-in-Ok-Function-clause-ran t c = let p = c.requires in walk.owned_ran _ _ _ _ _ _ _ _ _ p.1 (walk.did_function (walk.laid_at _ _ p.2 c.scan_payload.ensures) (c.in-Ok-Function.is ∙ ap Ok c.in-Ok-Function.field-0-is)) c.scan_bodies-in-Ok-Function.ensures.ran

pub scan_actions-loop-i-init : goal.scan_actions-loop-i-init
scan_actions-loop-i-init t c = (walk.going_start _ _ _ _ _ _ _ _ _ _ (walk.facts _ _ _ _ _ c.requires.0.roomy.inside c.requires.1) c.requires.0 c.u16_at-count.ensures.0 c.due_entry-due.ensures, walk.same_start)

pub scan_actions-record_labels-due-requires : goal.scan_actions-record_labels-due-requires
scan_actions-record_labels-due-requires t c = walk.going_due c.loop-i.invariant.0 (walk.facts _ _ _ _ _ c.requires.0.roomy.inside c.requires.1) (omega (arith, c.u16_at-count.ensures.1))

pub scan_actions-scan_action-requires : goal.scan_actions-scan_action-requires
scan_actions-scan_action-requires t c = (omega arith, record { roomy = c.loop-i.invariant.0.roomy; before = c.loop-i.invariant.0.before; slots = walk.going_slots c.loop-i.invariant.0 c.record_labels-due.ensures.recorded.table })

pub scan_actions-returns-in_err-here-clause-ran : goal.scan_actions-returns-in_err-here-clause-ran
scan_actions-returns-in_err-here-clause-ran t c =
    rw (passed c.from_residual.result c.from_residual.ensures.1) (walk.going_bad c.loop-i.invariant.0 c.record_labels-due.ensures.recorded.table c.loop-i-test.true c.scan_action.ensures.ran c.in_err-here.was)

pub scan_actions-returns-in_err-here-clause-kept : goal.scan_actions-returns-in_err-here-clause-kept
scan_actions-returns-in_err-here-clause-kept t c = walk.kept_on (walk.going_kept c.loop-i.invariant.0 c.record_labels-due.ensures.recorded.table) c.scan_action.ensures.kept

pub scan_actions-loop-i-preserved : goal.scan_actions-loop-i-preserved
scan_actions-loop-i-preserved t c = (
  walk.going_more c.loop-i.invariant.0 c.record_labels-due.ensures.recorded.table c.loop-i-test.true c.scan_action.ensures.ran (terms_short c.args.m.now.terms _ _) c.in_ok-here.was c.record_labels-due.ensures.recorded.is_due c.scan_action.ensures.kept,
  walk.same_marked c.loop-i.invariant.1 c.record_labels-due.ensures.same_references c.scan_action.ensures.same_references,
)

pub scan_actions-record_labels-requires : goal.scan_actions-record_labels-requires
scan_actions-record_labels-requires t c =
    walk.going_due (walk.going_last c.loop-i.invariant.0 (omega arith)) (walk.facts _ _ _ _ _ c.requires.0.roomy.inside c.requires.1) (omega (arith, c.u16_at-count.ensures.1))

pub scan_actions-returns-clause-ran : goal.scan_actions-returns-clause-ran
scan_actions-returns-clause-ran t c = walk.going_end (walk.going_last c.loop-i.invariant.0 (omega arith)) c.record_labels.ensures.recorded.table (omega arith)

pub scan_actions-returns-clause-kept : goal.scan_actions-returns-clause-kept
scan_actions-returns-clause-kept t c = walk.going_kept (walk.going_last c.loop-i.invariant.0 (omega arith)) c.record_labels.ensures.recorded.table

pub scan_bodies-loop-init : goal.scan_bodies-loop-init
scan_bodies-loop-init t c = (walk.bodying_start _ _ _ (omega arith) c.next_after-here.ensures c.requires, walk.same_start)

pub scan_bodies-returns-in_err-next-clause-ran : goal.scan_bodies-returns-in_err-next-clause-ran
scan_bodies-returns-in_err-next-clause-ran t c = rw (passed c.from_residual.result c.from_residual.ensures.1) (walk.bodying_bad c.loop.invariant.0 (omega arith) c.scan_body.ensures.ran c.in_err-next.was)

pub scan_bodies-overflow_sub-len : goal.scan_bodies-overflow_sub-len
scan_bodies-overflow_sub-len t c = walk.bodying_onward c.loop.invariant.0 (omega arith) c.scan_body.ensures.ran c.in_ok-next.was

pub scan_bodies-loop-preserved : goal.scan_bodies-loop-preserved
scan_bodies-loop-preserved t c = (
  walk.bodying_more c.loop.invariant.0 (omega arith) c.scan_body.ensures.ran (terms_short c.args.m.now.terms _ _) c.in_ok-next.was c.note_long.ensures (omega arith) c.scan_body.ensures.kept,
  walk.same_on c.loop.invariant.1 c.scan_body.ensures.same_references,
)

pub scan_bodies-returns-clause-ran : goal.scan_bodies-returns-clause-ran
scan_bodies-returns-clause-ran t c = walk.bodying_end c.loop.invariant.0 (omega arith) c.or-notes.ensures
