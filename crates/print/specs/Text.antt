-- The text that the block program prints, byte by byte, in ASCII: 10 is a line feed, 32 a space. Assumes nothing.
use Rattle.std.specs.Prelude.{ℕ, List, [], ◌∷◌, ◌++◌, length, ℤ, ltb}
use Rattle.layout.specs.Lists.{pick}
use Rattle.layout.specs.Answers.{Answer, Done, Refused, InputFull, number, value, length_of}
use Rattle.layout.specs.Judge.{plain_mode}
use Rattle.layout.specs.Book.{empty_book}
use Rattle.layout.specs.Pack.{pack}
use Rattle.print_text.specs.Pieces.{decimal, signed, hex_lines}

-- "number, space, value, line feed"
unfoldable pub line : ℕ → ℤ → List ℕ
line n v = decimal n ++ (32 ∷ (signed v ++ (10 ∷ [])))

-- "on Done, then the block"
unfoldable pub block_of : Answer (List ℕ) → List ℕ
block_of (Done q) = hex_lines q
block_of (Refused r) = []

-- an answer's line, and its block
unfoldable pub printed : Answer (List ℕ) → List ℕ
printed a = line (number a) (value length_of a) ++ block_of a

-- "It reads standard input into 65,536 bytes; if that fills", 12; "otherwise it packs into 65,536 bytes"; it lends the book without an
-- entry
unfoldable pub answered : List ℕ → Answer (List ℕ)
answered input = pick (ltb (length input) 65536) (pack plain_mode input empty_book 65536) (Refused InputFull)

-- what the program prints
unfoldable pub block_text : List ℕ → List ℕ
block_text input = printed (answered input)
