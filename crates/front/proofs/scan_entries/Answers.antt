use Rattle.std.proofs.Common.{arith, ◌∙◌}
use Rattle.operands.proofs.Scans.{cut}
use Rattle.front.proofs.Fronts.{entries_cut, entries_big, entries_low, entries_half, entries_more, entries_end}
use Rattle.front.proofs.scan_entries.Goals as goal
use Rattle.front.proofs.scan_entries.Goals.{then-label-least-via-then-label-least, then-label-least-via-else-label-least+then-m-label}

pub returns-in_err-label : goal.returns-in_err-label
returns-in_err-label c o =
    cut _ _ _ _ _ c.from_residual.ensures.1 c.in_err-label.ensures.err (entries_cut _ _ _ _ _ 0 (omega arith)) ∙ c.loop.invariant.0 o

pub returns-then-label-least : goal.returns-then-label-least
returns-then-label-least c o =
    let n = c.in_ok-label.ensures.ok in
    c.stops.ensures
    ∙ elim c.then-label-least.branch [
      | then-label-least-via-then-label-least w ↦ entries_low _ _ _ _ _ _ (omega arith) _ n w.if-label-least.true
      | then-label-least-via-else-label-least+then-m-label w ↦ entries_big _ _ _ _ _ _ (omega arith) _ n w.if-m-label.true
    ]
    ∙ c.loop.invariant.0 o

pub returns-in_err-whole : goal.returns-in_err-whole
returns-in_err-whole c o =
    let n = c.in_ok-label.ensures.ok in
    cut _ _ _ _ _ c.from_residual-in_err-whole.ensures.1 c.in_err-whole.ensures.err (entries_half _ _ _ _ _ 0 (omega arith) _ n (omega arith) (omega arith)) ∙ c.loop.invariant.0 o

pub loop-preserved : goal.loop-preserved
loop-preserved c =
    let n = c.in_ok-label.ensures.ok in
    let w = c.in_ok-whole.ensures.ok in
    ((λ o. entries_more _ _ _ _ _ _ (omega arith) _ n (omega arith) (omega arith) _ _ w (omega arith) (omega arith) ∙ c.loop.invariant.0 o), omega (arith, w))

pub returns : goal.returns
returns c o = entries_end _ _ _ _ _ _ (omega arith) (omega arith) (omega arith) ∙ c.loop.invariant.0 o
