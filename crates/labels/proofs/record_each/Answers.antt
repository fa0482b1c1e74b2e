-- `labels::record_each` meets its contract. Assumes nothing.
use mathlib.Core.Path.{refl, sym, ◌∙◌}
use native.Mathlib.Omega.{arith}
use Rattle.labels.proofs.Recording as laws
use Rattle.labels.proofs.record_each.Goals as goal

pub loop-next-init : goal.loop-next-init
loop-next-init c = (laws.start c.requires, record { tab = refl; homes = refl })

pub returns-then-index-i-clause-recorded : goal.returns-then-index-i-clause-recorded
returns-then-index-i-clause-recorded c = rw (← c.in-Some.is) (laws.later_due c.loop-next.invariant.0 c.in-Some.is (λ e. c.if-index-i.true (c.index.ensures ∙ e)))

pub bounds-tables-label : goal.bounds-tables-label
bounds-tables-label c = rw c.label-label.ensures (laws.within c.loop-next.invariant.0 c.in-Some.is)

pub overflow_add-entry : goal.overflow_add-entry
overflow_add-entry c = omega (arith, laws.some_due c.loop-next.invariant.0 c.in-Some.is)

pub loop-next-smaller : goal.loop-next-smaller
loop-next-smaller c = laws.rises c.loop-next.invariant.0 c.in-Some.is c.due_entry-next.ensures

pub loop-next-preserved : goal.loop-next-preserved
loop-next-preserved c =
    let l = c.loop-next.invariant in
    rw (c.record_home.ensures, c.label-label.ensures) (laws.more l.0 c.in-Some.is (sym c.index.ensures ∙ c.if-index-i.false) c.due_entry-next.ensures, record { tab = l.1.tab; homes = l.1.homes })

pub returns-clause-recorded : goal.returns-clause-recorded
returns-clause-recorded c = laws.none_due c.loop-next.invariant.0 c.in_default.is
