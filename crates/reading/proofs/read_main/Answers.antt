-- `reading::read_main` meets its contract: the walk stops at a fault, or leaves what packing goes on with. Assumes nothing.
use native.Mathlib.Omega.{arith}
use Rattle.editions.proofs.Listed.{terms_short}
use Rattle.scan.proofs.Mains.{main_place}
use Rattle.reading.proofs.Mains as mains
use Rattle.reading.proofs.read_main.Goals as goal

pub overflow_add-result : goal.overflow_add-result
overflow_add-result c = omega (arith, c.requires.0, c.requires.1, main_place _ _ _ _ c.scan_main.ensures.bytes (terms_short c.args.m.now.terms _ _) c.scan_main.ensures.scanned _ c.in-Err.is)

pub returns-in-Err-clause-read : goal.returns-in-Err-clause-read
returns-in-Err-clause-read c = mains.main_stops _ _ _ _ c.scan_main.ensures.scanned _ _ _ c.in-Err.is c.fault_action.ensures

pub returns-in-Ok-clause-read : goal.returns-in-Ok-clause-read
returns-in-Ok-clause-read c = mains.main_whole _ _ _ _ c.scan_main.ensures.scanned _ _ c.in-Ok.is c.scan_main.ensures.bytes c.requires.0 (omega (arith, c.requires.2.slots.enough, c.scan_main.ensures.kept.positions))
