use mathlib.Core.Option.{none}
use Rattle.operands.proofs.Scans.{cut}
use Rattle.front.proofs.Fronts.{front_cut, front_stops, front_place, front_ends}
use Rattle.front.proofs.scan_front.Goals as goal

pub returns-in_err-n : goal.returns-in_err-n
returns-in_err-n c o = cut _ _ _ _ _ c.from_residual.ensures.1 c.in_err-n.ensures.err (front_cut _ _ _ 0)

pub returns-in_err-count : goal.returns-in_err-count
returns-in_err-count c o = front_stops _ _ _ _ _ c.in_ok-n.ensures.ok _ c.after.ensures (c.scan_entries.ensures o) c.in_err-count.was c.from_residual-in_err-count.ensures.1

pub scan_bytes-requires : goal.scan_bytes-requires
scan_bytes-requires c = front_place _ _ _ _ _ c.in_ok-n.ensures.ok _ c.after.ensures (c.scan_entries.ensures none) c.in_ok-count.was

pub returns : goal.returns
returns c o = front_ends _ _ _ _ _ c.in_ok-n.ensures.ok _ c.after.ensures (c.scan_entries.ensures o) c.in_ok-count.was c.scan_bytes.ensures
