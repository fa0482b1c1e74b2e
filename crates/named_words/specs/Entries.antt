-- "A packing answer depends only on the sheet, the mode, the output's length, whether the book is well formed, its entry count, and
-- the entries that the sheet names"; in editions 1 and 2 it does not depend on the book. Assumes nothing.
use Rattle.std.specs.Prelude.{◌≡◌, ℕ, length, get_or}
use Rattle.std.proofs.Math.Option.{none, some}
use mathlib.Core.List.{List, []}
use Rattle.layout.specs.Lists.{All}
use Rattle.layout.specs.Read.{Words}
use Rattle.layout.specs.Book.{book_of}
use Rattle.named_words.specs.Named.{named}

-- ---- only the entries that are named count

-- the books have the same entries at these numbers
abbrev pub SameAt : Words → Words → List ℕ → Type 0
SameAt words words' numbers = All (λ i. get_or words i [] ≡ get_or words' i []) numbers

-- the books are both ill formed; or both well formed, of one count, with the same entries at every number that the sheet s names
pub data SameFor (s book book' : List ℕ) : Type 0 where
  ill_formed : book_of book ≡ none → book_of book' ≡ none → SameFor s book book'
  well_formed : {words words' : Words} → book_of book ≡ some words → book_of book' ≡ some words' → length words' ≡ length words → SameAt words words' (named s words)
      → SameFor s book book'
