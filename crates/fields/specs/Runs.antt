-- A part of a list of bytes, and the first zero byte in it. Assumes nothing.
use Rattle.std.specs.Prelude.{ℕ, ◌+◌, List, take, drop}
use Rattle.std.proofs.Math.Option.{Option, none, some}
use Rattle.layout.specs.Read.{first_zero}

-- n bytes from index i on
abbrev pub part : List ℕ → ℕ → ℕ → List ℕ
part l i n = take n (drop i l)

-- z places after i, or n places where there is no z
unfoldable pub nul_or : ℕ → ℕ → Option ℕ → ℕ
nul_or i n none = i + n
nul_or i n (some z) = i + z

-- the place of the first zero byte among n from index i on, or the place after them
unfoldable pub first_nul : List ℕ → ℕ → ℕ → ℕ
first_nul l i n = nul_or i n (first_zero 0 (part l i n))
