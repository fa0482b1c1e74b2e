-- What the walk of a whole main body asks and promises. Assumes nothing.
use Rattle.std.specs.Prelude.{◌≡◌, ℕ, List, Result, Some, None}
use Rattle.std.specs.Prelude as code
use Rattle.std.proofs.Math.Option.{Option, none, some}
use Rattle.layout.specs.Answers.{Refusal, ActionLenOverflow, BlockLenOverflow}
use Rattle.layout.specs.Answers as answers
use Rattle.layout.specs.Tree.{ActionsOf}
use Rattle.layout.specs.Read.{Text, Terms, Place, Stop, Read, got, bad}
use Rattle.layout.specs.Strings.{map_body}
use Rattle.layout.specs.Write.{events, body_size}
use Rattle.layout.specs.Judge.{too_long}
use Rattle.layout.specs.Pack.{spelling}
use Rattle.labels.specs.Table.{Cleared, TableHolds, HomesHold, Slots}
use Rattle.labels.specs.Mains.{MainMeasured}
use Rattle.positions.specs.declared.BytePosition.{BytePosition}
use Rattle.positions.specs.Scanned.{fault_of, walks_to, halts_at}
use Rattle.positions.specs.declared.ActionNumber.{ActionNumber}
use Rattle.positions.specs.declared.Cursor.{Cursor}
use Rattle.positions.specs.declared.Halt.{Halt}
use Rattle.measure.specs.declared.Limit.TheVariants.{ActionLen, BlockLen}
use Rattle.measure.specs.declared.Overflow.{Overflow}
use Rattle.measure.specs.declared.Notes.{Notes}
use Rattle.measure.specs.Refusals.{refusal_of}
use Rattle.measure.specs.Walk.{overflow}

-- what the caller lends: empty tables, in the first a slot for each label that the terms allow, and nothing noted
pub record Empty (terms : Terms) (notes : Notes) : Type 0 where
  pub slots : Slots terms notes.labels.now.tab.now
  pub no_records : Cleared notes.labels.now.tab.now
  pub no_homes : Cleared notes.labels.now.homes.now
  pub nothing : notes.over ≡ None

-- the refusal of the first length that was noted
unfoldable pub refusal_in : code.Option Overflow → Option Refusal
refusal_in None = none
refusal_in (Some o) = some (refusal_of o)

-- what was noted is the first of 8 and 9
pub data Holds : Option Refusal → code.Option Overflow → Type 0 where
  nothing_long : Holds none None
  payload_long : {n k : ℕ} → Holds (some (ActionLenOverflow n k)) (Some (overflow ActionLen n k))
  body_long : {n k : ℕ} → Holds (some (BlockLenOverflow n k)) (Some (overflow BlockLen n k))

-- the answer to a main body: where it reads whole, its size, every label's final record, and the first of 8 and 9
pub data MainScanned (notes : Notes) : Read (ActionsOf Text ℕ) → Result Cursor Halt → Type 0 where
  whole : {x : ActionsOf Text ℕ} {p : Place} {w : BytePosition} {k : ActionNumber} → w.0 ≡ body_size (map_body spelling x) → TableHolds notes.labels.now.tab.now (events (map_body spelling x))
      → HomesHold notes.labels.now.homes.now (events (map_body spelling x)) → Holds (too_long (events (map_body spelling x))) notes.over → MainScanned notes (got x p) (walks_to p.at w k)
  stopped : {f : answers.Fault} {s : Stop} {k : ActionNumber} → k.0 ≡ s.begun → MainScanned notes (bad f s) (halts_at (fault_of f) s.at k)

-- what such an answer leaves of a main body that reads whole: all that packing goes on with
pub record MainWhole (terms : Terms) (b : List ℕ) (end : BytePosition) (notes : Notes) : Type 0 where
  pub measured : MainMeasured terms b end notes.labels.now.tab.now
  pub homed : HomesHold notes.labels.now.homes.now (events measured.tree)
  pub long : Holds (too_long (events measured.tree)) notes.over
