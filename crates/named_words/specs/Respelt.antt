-- One main body, read in two ways: by the words of two books of one count, where only the bytes of named entries differ; and by
-- edition 3 and by edition 2, where no entry is named, or up to the first entry number. Assumes nothing.
use Rattle.std.specs.Prelude.{◌≡◌, ℕ, ◌+◌, ◌≤◌, length, get_or}
use mathlib.Core.List.{List, []}
use Rattle.layout.specs.Numbers.{u16_at}
use Rattle.layout.specs.Read.{Text, plain, in_book, Words}
use Rattle.layout.specs.Pack.{spelling}

-- ---- by the words of two books of one count

-- a text as these words spell it: an entry's number stays, and has the bytes that it has there
unfoldable pub respell : Words → Text → Text
respell words (plain s) = plain s
respell words (in_book i s) = in_book i (get_or words i [])

-- ---- where no word may be named

-- a text by its bytes alone
unfoldable pub plainly : Text → Text
plainly t = plain (spelling t)

-- ---- up to the first entry number

-- the place right behind 65,535 in b, where an entry number is due, if that is a string's length
pub data Numbered (b : List ℕ) : ℕ → Type 0 where
  numbered : (p : ℕ) → p + 2 ≤ length b → u16_at b p ≡ 65535 → Numbered b (p + 2)
