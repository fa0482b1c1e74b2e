-- What looking a word up promises. Assumes nothing.
use Rattle.std.specs.Prelude.{◌≡◌, ℕ, ◌+◌, ◌≤◌, ◌<◌, List, length}
use Rattle.fields.specs.Runs.{part}
use Rattle.layout.specs.Lists.{pick}
use Rattle.editions.specs.Words.{length_at, place_of, is_whole, word_of}
use Rattle.words.specs.declared.Word.{Word}

-- where the bytes of the word at a place stand; one that does not stand whole is empty
unfoldable pub stands_at : List ℕ → ℕ → Word
stands_at e p = pick (is_whole e p) (record { at = p + 2; len = length_at e p }) (record { at = 0; len = 0 })

-- where those of word i stand, by an index
unfoldable pub found_at : List ℕ → List ℕ → ℕ → ℕ → Word
found_at e index count i = stands_at e (place_of e index count i)

-- r is where the bytes of word i stand among the bytes e of a book's entries, by an index
pub record Found (e index : List ℕ) (count i : ℕ) (r : Word) : Type 0 where
  pub is : r ≡ found_at e index count i
  pub within : r.at + r.len ≤ length e
  pub is_word : part e r.at r.len ≡ word_of e index count i
  pub is_long : r.len ≡ length (word_of e index count i)
  pub short : r.len < 65536
