-- The front of a body, as it is read. Assumes nothing.
use Rattle.std.specs.Prelude.{◌≡◌, ℕ, List}
use Rattle.layout.specs.Tree.{Entry}
use Rattle.layout.specs.Read.{Terms, placed, Reader, got, give, read_u16, read_entries, ◌>>=◌}

-- "u16 label entry count; each entry ..; u16 action count"
pub record Front : Type 0 where
  pub entries : List Entry
  pub count : ℕ

unfoldable pub read_front : Terms → List ℕ → Reader Front
read_front terms b = do
  m ← read_u16 b
  es ← read_entries terms b m 0
  n ← read_u16 b
  give (record { entries = es; count = n })

-- a front stands at a place and ends at another
pub record Fronted (terms : Terms) (b : List ℕ) (at end : ℕ) : Type 0 where
  pub front : Front
  pub reads : read_front terms b (placed at) ≡ got front (placed end)
