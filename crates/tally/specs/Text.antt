-- The text of a tally, byte by byte, in ASCII: 10 is a line feed and 32 a space. Assumes nothing.
use Rattle.std.specs.Prelude.{ℕ, zero, suc, ◌==◌, if◌then◌else◌, List, [], ◌∷◌, ◌++◌, slice_index, Option, codes}
use Rattle.std.specs.Fmt.{decimal}
use Rattle.std.specs.Option.{unwrap_or}

-- the line of a number, with how many answers have it, if any has
abbrev pub number_line : ℕ → ℕ → List ℕ
number_line number count = if count == 0 then [] else (decimal number ++ (32 ∷ (decimal count ++ (10 ∷ []))))

-- the lines of the numbers below one
unfoldable pub number_lines : List ℕ → ℕ → List ℕ
number_lines counts zero = []
number_lines counts (suc number) = number_lines counts number ++ number_line number (slice_index counts number)

-- the line of the answers that differ: how many, and the first, or 0
abbrev pub differ_line : ℕ → Option ℕ → List ℕ
differ_line differ first = codes "differ " ++ (decimal differ ++ (codes ", first " ++ (decimal (unwrap_or first 0) ++ (10 ∷ []))))
