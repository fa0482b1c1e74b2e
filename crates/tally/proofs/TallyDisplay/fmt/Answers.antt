-- The lines are written one after the other.
use Rattle.std.proofs.Output.{has_written_append, writes_in_calls_nil}
use Rattle.tally.specs.Text.{number_lines}
use Rattle.std.proofs.Common.{◌≡◌, add-one, arith, refl, eq-eqb, ne_eqb}
use Rattle.tally.proofs.TallyDisplay.fmt.Goals.{then-count-ne0+in_ok-writeln, else-count-ne0}
use Rattle.tally.proofs.TallyDisplay.fmt.Goals as goal

pub loop-number-preserved : goal.loop-number-preserved
unfolding number_lines
loop-number-preserved g c =
    λ p.
    let so_far = c.loop-number.invariant p in
    rw add-one
    (
    has_written_append _ _ _ _ _ _ so_far
    (
    elim c.if-count-ne0.branch [
      | then-count-ne0+in_ok-writeln w ↦ rw (w.f-is, ne_eqb _ 0 w.if-count-ne0.true) (w.in_ok-writeln.ensures.writes so_far.plain refl)
      | else-count-ne0 w ↦ rw (w.f-is, eq-eqb _ 0 w.if-count-ne0.false) (record { wrote = writes_in_calls_nil _ _; plain = so_far.plain })
    ]))

pub returns-clause-writes : goal.returns-clause-writes
returns-clause-writes g c =
    λ p ok.
    let e : c.loop-number.number-counter ≡ 19 = omega arith in
    let so_far = rw e at (c.loop-number.invariant p) in
    rw (← c.unwrap_or-first.ensures) (has_written_append _ _ _ _ _ _ so_far (c.writeln-2.ensures.writes so_far.plain ok))
