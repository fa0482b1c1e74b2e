-- A main body that was read and measured, with its label table. Assumes nothing.
use Rattle.std.specs.Prelude.{◌≡◌, ℕ, ◌≤◌, List, length}
use Rattle.layout.specs.Tree.{Actions}
use Rattle.layout.specs.Read.{Terms}
use Rattle.layout.specs.Write.{events, body_size}
use Rattle.laws.specs.Fits.{Bytes}
use Rattle.laws.specs.Packed.{ReadsMain}
use Rattle.labels.specs.Table.{TableHolds}
use Rattle.positions.specs.declared.BytePosition.{BytePosition}

-- it reads whole by these terms, its writing ends at position `end`, and the table holds its labels
pub record MainMeasured (terms : Terms) (b : List ℕ) (end : BytePosition) (tab : List ℕ) : Type 0 where
  pub bytes : Bytes b
  pub tree : Actions
  pub reads : ReadsMain terms b tree
  pub is_end : end.0 ≡ body_size tree
  pub holds : TableHolds tab (events tree)
  pub slots : terms.label_bound ≤ length tab
  pub limited : length b ≤ 1048576
