-- What reading the main body of a sheet comes to, and that a packer answers the same where it is refused. Assumes nothing.
use Rattle.std.specs.Prelude.{◌≡◌, ℕ, ◌+◌, List, Result, Ok, Err}
use Rattle.std.proofs.Common.{arith}
use Rattle.std.proofs.Math.Option.{Option, none, some}
use Rattle.layout.specs.Answers.{Refusal, ReadingFault, Refused}
use Rattle.layout.specs.Tree.{ActionsOf}
use Rattle.layout.specs.Read.{Text, Terms, deepest, Read, got, bad, read_main}
use Rattle.layout.specs.Judge.{Mode}
use Rattle.layout.specs.Pack.{fault_action, pack_read}
use Rattle.positions.specs.Scanned.{meant}
use Rattle.positions.specs.declared.BytePosition.{BytePosition}
use Rattle.positions.specs.declared.Halt.{Halt}
use Rattle.measure.specs.declared.Notes.{Notes}
use Rattle.scan.specs.Mains.{MainWhole}

-- by the definitions: the refusal with a number from 3 to 7, or none. "A place counts from the input's byte 0": the main body starts
-- at `start`
unfoldable pub fault_in : ℕ → Read (ActionsOf Text ℕ) → Option Refusal
fault_in start (got t p) = none
fault_in start (bad f s) = some (ReadingFault f (start + s.at) (fault_action f s.begun))

-- by the code
unfoldable pub said : Result BytePosition Halt → Option Refusal
said (Ok w) = none
said (Err h) = some (ReadingFault (meant h.fault) h.place h.number.0)

-- the answer to a main body that starts at `start` in its sheet, with what is left in the notes where it reads whole
pub data MainRead (terms : Terms) (b : List ℕ) (start : ℕ) (notes : Notes) : Result BytePosition Halt → Type 0 where
  whole : {w : BytePosition} → MainWhole terms b w notes → MainRead terms b start notes (Ok w)
  refused : {r : Result BytePosition Halt} {x : Refusal} → said r ≡ some x → fault_in start (read_main terms b deepest) ≡ some x → MainRead terms b start notes r

-- what is refused here is refused so by the packer, whatever its mode and room
pub read_refused : (m : Mode) (start : ℕ) (x : Read (ActionsOf Text ℕ)) (r : Refusal) (room : ℕ) → fault_in start x ≡ some r → pack_read m start x room ≡ Refused r
unfolding fault_in pack_read
read_refused m start (got t p) r room k =
    let z : ◌≡◌ {A = ℕ} 0 1 = cc in
    absurd (omega arith)
read_refused m start (bad f p) r room k = cc
