-- `payload::scan_try` meets its contract. Assumes nothing.
use mathlib.Core.Path.{sym, ◌∙◌}
use native.Mathlib.Omega.{arith}
use Rattle.action_fields.specs.Fields.{bodies_after}
use Rattle.measure.proofs.Layings.{ends_from, caught_inside, tried}
use Rattle.payload.proofs.scan_try.Goals as goal

pub note_payload-requires : goal.note_payload-requires
note_payload-requires c = ends_from _ _ _ _ _ c.scan_catch.ensures (omega arith)

pub bounds-m-start : goal.bounds-m-start
bounds-m-start c = caught_inside _ _ _ _ _ _ c.scan_catch.ensures (sym c.note_payload.ensures.0 ∙ c.in_ok-end.was)

pub returns : goal.returns
unfolding bodies_after
returns c = tried _ _ _ _ _ c.scan_catch.ensures c.note_payload.ensures c.in_ok-end.was
