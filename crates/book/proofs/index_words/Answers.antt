use Rattle.std.proofs.Common.{refl, arith}
use Rattle.book.proofs.Indexes.{indexing_start, slot_within, indexing_next, indexing_fails, indexing_done}
use Rattle.book.proofs.index_words.Goals as goal
use Rattle.book.proofs.index_words.Goals.{else-loop-i-test, then-loop-i-test+in_ok-p+else-step-count}

pub loop-i-init : goal.loop-i-init
loop-i-init c = indexing_start _ _ _ _ refl c.requires.2

pub bounds-index-slot : goal.bounds-index-slot
bounds-index-slot c = slot_within _ _ c.loop-i.invariant (omega arith) c.requires.1

pub loop-i-preserved : goal.loop-i-preserved
loop-i-preserved c = indexing_next _ _ c.loop-i.invariant (omega arith) c.requires.1 _ _ c.step_of-step.ensures.0 c.min.ensures _ _ (omega arith) refl c.in_ok-p.ensures

pub returns-in_err-p : goal.returns-in_err-p
returns-in_err-p c = rw c.from_residual.ensures (indexing_fails _ _ c.loop-i.invariant (omega arith) c.requires.1 _ _ c.step_of-step.ensures.0 c.min.ensures _ c.in_err-p.ensures)

pub returns : goal.returns
returns c =
    elim c.loop-i-test.branch [
      | else-loop-i-test w ↦ rw w.index-is (indexing_done _ _ c.loop-i.invariant (omega arith) (rw w.p-is at c.then_some.ensures))
      | then-loop-i-test+in_ok-p+else-step-count w ↦
          let done = indexing_next _ _ c.loop-i.invariant (omega arith) c.requires.1 _ _ c.step_of-step.ensures.0 w.min.ensures _ _ refl refl w.in_ok-p.ensures in
          rw w.index-is (indexing_done _ _ done (omega arith) (rw w.p-is at c.then_some.ensures))
    ]
