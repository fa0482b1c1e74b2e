-- The word book, lent with a sheet: "entries of u16 length and bytes, then an 8-byte trailer". Assumes nothing.
use Rattle.std.specs.Prelude.{ℕ, ◌-◌, Bool, true, false, ◌&&◌, List, [], ◌∷◌, length, get_or, take, drop, leb, eqb}
use Rattle.std.proofs.Math.Option.{Option, none, some}
use Rattle.layout.specs.Numbers.{u16_at, u32_at}
use Rattle.layout.specs.Read.{Words, placed, Read, got, bad, Reader, chain, repeat, if_nothing_left, read_u16, read_spelling, ◌>>=◌}

-- "u16 length and bytes", which "hold no NUL"; here 65,535 is a plain length
unfoldable pub read_entry : List ℕ → Reader (List ℕ)
read_entry e = do
  n ← read_u16 e
  read_spelling e n

unfoldable pub if_read : Read Words → Option Words
if_read (got ws p) = some ws
if_read (bad f p) = none

-- n entries that "fill the space from there to the trailer exactly", which is e
unfoldable pub words_in : List ℕ → ℕ → Option Words
words_in e n = if_read (chain (repeat (read_entry e) n (placed 0)) λ ws p. if_nothing_left (eqb p.at (length e)) ws p)

-- "u32 distance back to the first entry, u16 entry count, bytes 42 31"
unfoldable pub book_distance : List ℕ → ℕ
book_distance t = u32_at t 0

unfoldable pub book_count : List ℕ → ℕ
book_count t = u16_at t 4

unfoldable pub is_book_marked : List ℕ → Bool
is_book_marked t = eqb (get_or t 6 0) 0x42 && eqb (get_or t 7 0) 0x31

-- "bytes before them are passed over"
unfoldable pub book_if : Bool → List ℕ → ℕ → ℕ → ℕ → Option Words
book_if true book n d count = words_in (take d (drop (n - d) book)) count
book_if false book n d count = none

-- n bytes stand before the trailer
unfoldable pub book_at : List ℕ → ℕ → Option Words
book_at book n = book_if (is_book_marked (drop n book) && leb (book_distance (drop n book)) n) book n (book_distance (drop n book)) (book_count (drop n book))

unfoldable pub book_if_trailer : Bool → List ℕ → Option Words
book_if_trailer true book = book_at book (length book - 8)
book_if_trailer false book = none

-- the words of a book, if it is well formed
unfoldable pub book_of : List ℕ → Option Words
book_of book = book_if_trailer (leb 8 (length book)) book

-- the book without an entry: "the block program lends `00 00 00 00 00 00 42 31`"
unfoldable pub empty_book : List ℕ
empty_book = 0x00 ∷ 0x00 ∷ 0x00 ∷ 0x00 ∷ 0x00 ∷ 0x00 ∷ 0x42 ∷ 0x31 ∷ []
