-- What the check of a book promises: of one entry, of some, of all, and of the book. Assumes nothing.
use Rattle.std.specs.Prelude.{◌≡◌, ℕ, zero, suc, ◌+◌, ◌≤◌, ◌<◌, List, [], ◌∷◌, length, Option, Some, None}
use Rattle.std.proofs.Math.Option.{none, some}
use Rattle.layout.specs.Read.{Words, placed, Read, got, bad, repeat}
use Rattle.layout.specs.Book.{read_entry, words_in, book_of}
use Rattle.editions.specs.Words.{length_at, place_after, word_at, words_by}
use Rattle.cut.specs.Trailers.{part_back}
use Rattle.book.specs.declared.Book.{Book}

-- a reading that was refused
pub data Fails {A : Type 0} : Read A → Type 0 where
  fails : {f : _} {s : _} → Fails (bad f s)

-- n words from place p on
unfoldable pub words_from : List ℕ → ℕ → ℕ → Words
words_from e zero p = []
words_from e (suc n) p = word_at e p ∷ words_from e n (p + 2 + length_at e p)

-- the place after the entry at p, or that none is read
pub data Entered (e : List ℕ) (p : ℕ) : Option ℕ → Type 0 where
  entered : {r : ℕ} → r ≡ p + 2 + length_at e p → r ≤ length e → read_entry e (placed p) ≡ got (word_at e p) (placed r) → Entered e p (Some r)
  nothing : Fails (read_entry e (placed p)) → Entered e p None

-- the place after n entries from p on, or that not so many are read
pub data EnteredAll (e : List ℕ) (p n : ℕ) : Option ℕ → Type 0 where
  entered : {r : ℕ} → p ≤ r → r ≤ length e → r ≡ place_after e n p → repeat (read_entry e) n (placed p) ≡ got (words_from e n p) (placed r) → EnteredAll e p n (Some r)
  nothing : Fails (repeat (read_entry e) n (placed p)) → EnteredAll e p n None

-- whether e is so many entries; where it is, the index gives the words
pub data Indexed (e : List ℕ) (count : ℕ) (index : List ℕ) : Option (Unit {0}) → Type 0 where
  filled : words_in e count ≡ some (words_by e index count) → Indexed e count index (Some tt)
  unfilled : words_in e count ≡ none → Indexed e count index None

-- b is a book's entries, which stand before its trailer, and the index gives its words
pub record Checked (book index : List ℕ) (b : Book) : Type 0 where
  pub is_part : b.words.now ≡ part_back book
  pub short : b.count < 65536
  pub is_book : book_of book ≡ some (words_by b.words.now index b.count)

-- such a book, or that this one is ill formed
abbrev pub BookChecked : List ℕ → List ℕ → Option Book → Type 0
BookChecked book index (Some b) = Checked book index b
BookChecked book index None = book_of book ≡ none
