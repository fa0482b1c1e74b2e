-- What a scan of a field or of a list promises: where reading ends and the position that writing would then have reached, or
-- the fault and its place, as the definitions read there. Assumes nothing.
use Rattle.std.specs.Prelude.{ℕ, ◌+◌, ◌-◌, ◌*◌, ◌≤◌, List, length, Result, Ok, Err}
use Rattle.layout.specs.Answers as answers
use Rattle.layout.specs.Read.{Read, got, bad}
use Rattle.laws.specs.Fits.{Bytes}
use Rattle.positions.specs.declared.BytePosition.{BytePosition}
use Rattle.positions.specs.declared.Fault.{Fault}
use Rattle.positions.specs.declared.Fault.TheVariants as fault
use Rattle.positions.specs.declared.Spot.{Spot}
use Rattle.positions.specs.declared.ActionNumber.{ActionNumber}
use Rattle.positions.specs.declared.Cursor.{Cursor}
use Rattle.positions.specs.declared.Halt.{Halt}
use Rattle.positions.specs.declared.Stop as code

-- the code's name of a fault, and back
unfoldable pub fault_of : answers.Fault → Fault
fault_of answers.CutShort = fault.CutShort
fault_of answers.UnknownCode = fault.UnknownCode
fault_of answers.BadField = fault.BadField
fault_of answers.TooDeep = fault.TooDeep
fault_of answers.LeftOver = fault.LeftOver

unfoldable pub meant : Fault → answers.Fault
meant fault.CutShort = answers.CutShort
meant fault.UnknownCode = answers.UnknownCode
meant fault.BadField = answers.BadField
meant fault.TooDeep = answers.TooDeep
meant fault.LeftOver = answers.LeftOver

-- reading ended at a place, and writing would have reached a position
abbrev pub ends_at : ℕ → BytePosition → Result Spot code.Stop
ends_at q w = Ok (record { at = q; pos = w })

-- reading met a fault at a place
abbrev pub stops_at : ℕ → Fault → Result Spot code.Stop
stops_at q f = Err (record { fault = f; place = q })

-- what was read is written in `size` bytes from position `pos` on
unfoldable pub scanned : {A : Type 0} → (A → ℕ) → ℕ → Read A → Result Spot code.Stop
scanned size pos (got a next) = ends_at next.at (record { 0 = pos + size a })
scanned size pos (bad f p) = stops_at p.at (fault_of f)

-- a walk over actions ended at a place and a position, before the action with a number
abbrev pub walks_to : ℕ → BytePosition → ActionNumber → Result Cursor Halt
walks_to q w k = Ok (record { at = q; pos = w; number = k })

-- it met a fault at a place, before or in the action with a number
abbrev pub halts_at : Fault → ℕ → ActionNumber → Result Cursor Halt
halts_at f q k = Err (record { fault = f; place = q; number = k })

-- a scan may start at a place of b and a position: no sum overflows while each byte read is written in at most 196,608
pub record Roomy (b : List ℕ) (at : ℕ) (pos : BytePosition) : Type 0 where
  pub bytes : Bytes b
  pub inside : at ≤ length b
  pub room : pos.0 + 196608 * (length b - at) ≤ 1099511627776
