-- Where strings may name words, four bytes of a sheet can stand for 65,535 of the book. What is written is at most 65,536 times what
-- would be with its strings left out, and so at most 196,608 bytes for each byte read. Assumes nothing.
use Rattle.std.specs.Prelude.{ℕ, length}
use mathlib.Core.List.{List, [], ◌∷◌}
use Rattle.std.proofs.Math.Dec.{ltb}
use Rattle.layout.specs.Lists.{pick}
use Rattle.layout.specs.Read.{Text}
use Rattle.layout.specs.Pack.{spelling}

-- ---- strings left out

-- nothing for a string of at most 65,535 bytes; else a byte that no clean string has
unfoldable pub left_out : Text → List ℕ
left_out t = pick (ltb (length (spelling t)) 65536) [] (0 ∷ [])
