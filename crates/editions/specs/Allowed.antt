-- The editions and their terms, as the code holds them. Assumes nothing.
use Rattle.std.specs.Prelude.{◌≡◌, ℕ, List}
use Rattle.std.specs.Prelude as code
use Rattle.std.proofs.Math.Option.{Option}
use Rattle.layout.specs.Read as definition
use Rattle.layout.specs.Read.{Words, edition1, edition2, edition3}
use Rattle.layout.specs.Cut as trailer
use Rattle.editions.specs.Words.{words_by, words_if}
use Rattle.editions.specs.declared.Edition.{Edition}
use Rattle.editions.specs.declared.Edition.TheVariants as edition
use Rattle.editions.specs.declared.Terms.{Terms}
use Rattle.editions.specs.declared.MainBody.{MainBody}

-- the edition that the code's case names
unfoldable pub meant : Edition → trailer.Edition
meant edition.First = trailer.First
meant edition.Second = trailer.Second
meant edition.Third = trailer.Third

-- a bound and a word count, if there is one
abbrev pub reading_by : ℕ → code.Option ℕ → Terms
reading_by bound count = record { label_bound = bound; word_count = count }

-- the bound that the code's struct holds, with some words, or none
abbrev pub bounded : Terms → Option Words → definition.Terms
bounded t o = record { label_bound = t.label_bound; words = o }

-- the terms that the code's struct holds, where e are the bytes of a book's entries, and index holds places in them
abbrev pub terms_of : Terms → List ℕ → List ℕ → definition.Terms
terms_of t e index = bounded t (words_if t.word_count e index)

-- the terms of a main body
abbrev pub read_by : MainBody → definition.Terms
read_by m = terms_of m.terms m.words.now m.index.now

-- terms without words, whatever is lent
abbrev pub wordless : Terms → definition.Terms → Type 0
wordless t k = (e index : List ℕ) → terms_of t e index ≡ k

-- terms with so many words, which stand where the index says
abbrev pub booked : Terms → ℕ → Type 0
booked t count = (e index : List ℕ) → terms_of t e index ≡ edition3 (words_by e index count)

-- what the terms of an edition allow, where the book has so many words
abbrev pub Allows : Edition → ℕ → Terms → Type 0
Allows edition.First count t = wordless t edition1
Allows edition.Second count t = wordless t edition2
Allows edition.Third count t = booked t count
