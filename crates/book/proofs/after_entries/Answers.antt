use Rattle.std.proofs.Common.{arith}
use Rattle.book.proofs.Entries.{going_next, going_fails, going_done}
use Rattle.book.proofs.after_entries.Goals as goal

pub returns-in_err-p : goal.returns-in_err-p
returns-in_err-p c = rw c.from_residual.ensures (going_fails _ _ _ c.loop.invariant (omega arith) c.in_err-p.ensures)

pub loop-preserved : goal.loop-preserved
loop-preserved c = going_next _ _ _ _ (omega arith) c.loop.invariant (omega arith) c.in_ok-p.ensures

pub returns : goal.returns
returns c = going_done _ _ _ c.loop.invariant (omega arith)
