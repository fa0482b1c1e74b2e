-- `payload::scan_branch` meets its contract. Assumes nothing.
use mathlib.Core.Option.{none}
use native.Mathlib.Omega.{arith}
use Rattle.layout.specs.Read.{read_label}
use Rattle.operands.proofs.Scans.{from_spot}
use Rattle.payload.proofs.Branches.{branch_stops, branch_inside, branch_ends}
use Rattle.payload.proofs.scan_branch.Goals as goal

pub returns-in_err-end : goal.returns-in_err-end
returns-in_err-end c o =
    branch_stops _ _ _ _ (from_spot (λ _. 0) (read_label _ _ 0) (omega (arith, c.after.ensures.0)) c.after.ensures.1 (c.scan_label.ensures o)) c.in_err-end.was c.from_residual.ensures.1

pub u16_at-requires : goal.u16_at-requires
u16_at-requires c =
    branch_inside _ _ _ _ (from_spot (λ _. 0) (read_label _ _ 0) (omega (arith, c.after.ensures.0)) c.after.ensures.1 (c.scan_label.ensures none)) c.requires.inside c.in_ok-end.was

pub returns : goal.returns
returns c o =
    branch_ends _ _ _ _ (from_spot (λ _. 0) (read_label _ _ 0) (omega (arith, c.after.ensures.0)) c.after.ensures.1 (c.scan_label.ensures o)) c.requires.inside c.in_ok-end.was _ c.u16_at.ensures.0
