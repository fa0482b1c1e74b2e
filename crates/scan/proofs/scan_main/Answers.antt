use native.Mathlib.Omega.{arith}
use Rattle.editions.proofs.Listed.{terms_short}
use Rattle.positions.specs.Scanned.{fault_of}
use Rattle.operands.proofs.Scans.{passed}
use Rattle.scan.proofs.Mains.{main_stops, main_left, main_whole}
use Rattle.scan.proofs.scan_main.Goals as goal

pub returns-in_err-end-clause-scanned : goal.returns-in_err-end-clause-scanned
returns-in_err-end-clause-scanned c = rw (passed c.from_residual.result c.from_residual.ensures.1) (main_stops _ _ c.args.notes.now c.scan_body.new.notes c.byte_count-count.ensures.1 c.requires.1 _ c.scan_body.ensures.ran _ c.in_err-end.was)

pub returns-then-end-count-clause-scanned : goal.returns-then-end-count-clause-scanned
unfolding fault_of
returns-then-end-count-clause-scanned c = main_left _ _ c.args.notes.now c.scan_body.new.notes c.byte_count-count.ensures.1 c.requires.1 _ c.scan_body.ensures.ran _ c.in_ok-end.was (omega arith)

pub returns-clause-scanned : goal.returns-clause-scanned
returns-clause-scanned c = main_whole _ _ c.args.notes.now c.scan_body.new.notes c.byte_count-count.ensures.1 c.requires.1 _ c.scan_body.ensures.ran _ c.in_ok-end.was (terms_short c.args.m.now.terms _ _) (omega arith)
