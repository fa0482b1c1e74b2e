-- `labels::due_entry` meets its contract. Assumes nothing.
use mathlib.Core.Path.{◌≡◌, ◌∙◌}
use native.Mathlib.Omega.{arith}
use Rattle.std.proofs.Common.{rules}
use Rattle.labels.specs.Table.{entries_in, unless_under}
use Rattle.labels.proofs.Recording as laws
use Rattle.labels.proofs.due_entry.Goals as goal
use Rattle.labels.proofs.due_entry.Goals.{else-number-from, then-number-from}

pub loop-entry-init : goal.loop-entry-init
loop-entry-init c =
    let chunks = c.chunks_exact-entry-items.ensures in
    let all = laws.due_most (entries_in c.args.entries.now) c.args.from in
    rw (c.into_iter-entry-iterator.ensures.into_iter_gives, chunks.rest) (record { size = chunks.size; both = omega (arith, all); most = omega arith })

pub loop-entry-preserved : goal.loop-entry-preserved
loop-entry-preserved c =
    let l = c.loop-entry in
    let counted : c.if-number-from.counted ≡ unless_under c.args.from c.u32_at-number.result =
    elim c.if-number-from.branch [ then-number-from w ↦ w.counted-is ∙ laws.unless_under_lem _ _ w.if-number-from.true | else-number-from w ↦ w.counted-is ∙ laws.unless_over _ _ w.if-number-from.false ]
    in
    laws.counting l.invariant c.in-Some.entry c.in-Some.ensures.steps c.u32_at-number.ensures counted (search rules)

pub returns-then-least : goal.returns-then-least
returns-then-least c = laws.none_is _ (omega (arith, laws.counted c.loop-entry.invariant c.in-None.ensures.steps, c.if-least.true))

pub returns : goal.returns
returns c = laws.some_is _ _ (laws.counted c.loop-entry.invariant c.in-None.ensures.steps) c.if-least.false
