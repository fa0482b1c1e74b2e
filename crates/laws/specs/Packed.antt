-- What a Done answer says: the sheet reads whole, nothing in its tree is too long or too far, there is room, and the block
-- is the tree's. Assumes nothing.
use Rattle.std.specs.Prelude.{◌≡◌, List, drop}
use Prim.Native.Nat.{ℕ, ◌+◌, ◌-◌, ◌≤◌}
use Rattle.std.proofs.Math.Option.{Option, none, some}
use Rattle.std.proofs.Math.ListN.{length, take}
use Rattle.layout.specs.Tree.{Actions, ActionsOf}
use Rattle.layout.specs.Read.{Text, Terms, deepest, Place, got, read_main}
use Rattle.layout.specs.Strings.{map_body}
use Rattle.layout.specs.Write.{Event, events, block_bytes, block_size}
use Rattle.layout.specs.Judge.{too_long, too_far}
use Rattle.layout.specs.Cut.{Edition, sheet_limit, trailer_distance, trailer_edition}
use Rattle.layout.specs.Pack.{spelling, ReadsAs}

-- ---- a tree that is written

-- what the tests in order leave
pub record Written (t : Actions) (room : ℕ) (q : List ℕ) : Type 0 where
  pub is_short : too_long (events t) ≡ none
  pub nearby : too_far (events t) (events t) ≡ none
  pub has_room : block_size t ≤ room
  pub is_block : block_bytes t ≡ q

-- ---- a main body that reads whole

-- its tree by these terms, with the strings resolved
pub record ReadsMain (terms : Terms) (b : List ℕ) (t : Actions) : Type 0 where
  pub read : ActionsOf Text ℕ
  pub next : Place
  pub is_read : read_main terms b deepest ≡ got read next
  pub is_tree : map_body spelling read ≡ t

-- ---- a sheet that is packed

-- a Done sheet reads whole, whatever the mode
pub record Packed (s book : List ℕ) (room : ℕ) (q : List ℕ) : Type 0 where
  pub tree : Actions
  pub reads : ReadsAs s book tree
  pub written : Written tree room q

-- ---- the main body

-- D, by the trailer
unfoldable pub sheet_distance : List ℕ → ℕ
sheet_distance s = trailer_distance (drop (length s - 8) s)

-- its edition, by the trailer
unfoldable pub sheet_edition : List ℕ → Option Edition
sheet_edition s = trailer_edition (drop (length s - 8) s)

-- the main body is the D bytes before the trailer
pub record IsMain (s : List ℕ) (i : Edition) (start : ℕ) (b : List ℕ) : Type 0 where
  pub is_edition : sheet_edition s ≡ some i
  pub is_distance : length b ≡ sheet_distance s
  pub is_long : length s ≡ start + length b + 8
  pub is_part : b ≡ take (length b) (drop start s)
  pub is_limited : length s ≤ sheet_limit

-- ---- nothing is too long

abbrev pub Short : List Event → Type 0
Short es = too_long es ≡ none
