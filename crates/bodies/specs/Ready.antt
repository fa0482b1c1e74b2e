-- What the walk of bodies and actions asks, and what it keeps. Assumes nothing.
use Rattle.std.specs.Prelude.{◌≡◌, ℕ, ◌+◌, ◌≤◌, List, length}
use Rattle.layout.specs.Read.{Terms}
use Rattle.labels.specs.Table.{Slots, Tables}
use Rattle.positions.specs.declared.Spot.{Spot}
use Rattle.positions.specs.declared.ActionNumber.{ActionNumber}
use Rattle.positions.specs.declared.Cursor.{Cursor}
use Rattle.positions.specs.Scanned.{Roomy}
use Rattle.measure.specs.declared.Notes.{Notes}

-- behind an action's payload; its number is followed by that of the first action in its bodies
abbrev pub next_after : Spot → ActionNumber → Cursor
next_after after owner = record { at = after.at; pos = after.pos; number = record { 0 = owner.0 + 1 } }

-- room for every position, no more actions before than bytes, and a slot for each label that the terms allow
pub record Ready (terms : Terms) (b : List ℕ) (from : Cursor) (notes : Notes) : Type 0 where
  pub roomy : Roomy b from.at from.pos
  pub before : from.number.0 ≤ from.at
  pub slots : Slots terms notes.labels.now.tab.now

-- the label tables keep their lengths
pub record LengthsKept (old new : Tables) : Type 0 where
  pub positions : length new.positions ≡ length old.positions
  pub homes : length new.homes ≡ length old.homes
