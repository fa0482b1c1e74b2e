-- What is written of a branch. Assumes nothing.
use Rattle.std.specs.Prelude.{ℕ, List}
use Rattle.layout.specs.Write.{distance_bits}
use Rattle.labels.specs.Table.{record_at}

-- the sixteen bits of a branch, by the label table
unfoldable pub table_bits : List ℕ → ℕ → ℕ → ℕ
table_bits tab l after = distance_bits (record_at tab l) after
