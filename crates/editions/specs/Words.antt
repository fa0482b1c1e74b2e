-- Where the words of a book stand: e are the bytes of its entries, and an index holds the places of some of them. Every function here
-- is total, so that nothing need be asked of an index where a word is looked up; `book` makes sure that it is right. Assumes nothing.
use Rattle.std.specs.Prelude.{ℕ, zero, suc, ◌+◌, ◌/◌, ◌%◌, Bool, true, false, ◌&&◌, List, [], ◌∷◌, length, get_or, take, drop, leb, ltb, Some, None}
use Rattle.std.specs.Prelude as code
use Rattle.std.proofs.Math.Option.{Option, none, some}
use Rattle.layout.specs.Lists.{pick}
use Rattle.layout.specs.Numbers.{u16_at}
use Rattle.layout.specs.Read.{Words}

-- the most places that an index has
abbrev pub places : ℕ
places = 4096

-- an index holds the place of every word, of every second, fourth, eighth or sixteenth: as many as it has places for
unfoldable pub step_of : ℕ → ℕ
step_of count = pick (leb count 4096) 1 (pick (leb count 8192) 2 (pick (leb count 16384) 4 (pick (leb count 32768) 8 16)))

-- the length that stands at a place, or 0
unfoldable pub length_at : List ℕ → ℕ → ℕ
length_at e p = pick (leb (p + 2) (length e)) (u16_at e p) 0

-- the place after n words from p on
unfoldable pub place_after : List ℕ → ℕ → ℕ → ℕ
place_after e zero p = p
place_after e (suc n) p = place_after e n (p + 2 + length_at e p)

-- the place of word i of so many
unfoldable pub place_of : List ℕ → List ℕ → ℕ → ℕ → ℕ
place_of e index count i = place_after e (i % step_of count) (get_or index (i / step_of count) 0)

-- whether a word stands whole at a place; its length is a u16
unfoldable pub is_whole : List ℕ → ℕ → Bool
is_whole e p = leb (p + 2 + length_at e p) (length e) && ltb (length_at e p) 65536

-- how long the word at a place is, and its bytes; where none stands whole it is empty
unfoldable pub word_length : List ℕ → ℕ → ℕ
word_length e p = pick (is_whole e p) (length_at e p) 0

unfoldable pub word_at : List ℕ → ℕ → List ℕ
word_at e p = take (word_length e p) (drop (p + 2) e)

-- word i of so many, by the index
unfoldable pub word_of : List ℕ → List ℕ → ℕ → ℕ → List ℕ
word_of e index count i = word_at e (place_of e index count i)

-- f i, f (i + 1) and so on, n of them
unfoldable pub listed_from : {A : Type 0} → (ℕ → A) → ℕ → ℕ → List A
listed_from f i zero = []
listed_from f i (suc n) = f i ∷ listed_from f (suc i) n

-- all of so many words, by the index
unfoldable pub words_by : List ℕ → List ℕ → ℕ → Words
words_by e index count = listed_from (word_of e index count) 0 count

-- the words, if they may be named
unfoldable pub words_if : code.Option ℕ → List ℕ → List ℕ → Option Words
words_if (Some count) e index = some (words_by e index count)
words_if None e index = none
