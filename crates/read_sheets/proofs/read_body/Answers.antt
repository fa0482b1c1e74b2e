-- The tables are lent empty, with slots for the label numbers of every edition. Assumes nothing.
use mathlib.Core.Path.{refl}
use native.Mathlib.Omega.{arith}
use Rattle.scan.proofs.Mains.{zeros_cleared, zeros_slots}
use Rattle.read_sheets.proofs.read_body.Goals as goal

pub read_main-requires : goal.read_main-requires
read_main-requires c =
    let asked = c.requires in
    (asked.0, asked.1, record { slots = zeros_slots _ 4096 asked.2 (omega arith); no_records = zeros_cleared 4096; no_homes = zeros_cleared 0; nothing = refl })
