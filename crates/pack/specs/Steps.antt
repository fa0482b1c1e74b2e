-- What the packer's steps ask and leave. Assumes nothing.
use Rattle.std.specs.Prelude.{ℕ, ◌≤◌, List, length}
use Rattle.layout.specs.Read.{Terms, deepest, read_main}
use Rattle.layout.specs.Judge.{Mode}
use Rattle.layout.specs.Cut as trailer
use Rattle.layout.specs.Book.{book_of}
use Rattle.layout.specs.Pack.{edition_terms, pack_read, pack_by}
use Rattle.editions.specs.declared.Edition.{Edition}
use Rattle.editions.specs.declared.Edition.TheVariants as edition
use Rattle.editions.specs.Allowed.{meant}
use Rattle.answer.specs.Answered.{Answer, Answered}

-- a main body and its start are within the limit of a sheet
abbrev pub Limited : List ℕ → ℕ → Type 0
Limited b start = (length b ≤ 1048576) × (start ≤ 1048576)

-- what is left of a main body that starts at `start` in its sheet: the packer's answer to what is read of it
abbrev pub ReadPacked : Terms → Mode → ℕ → List ℕ → List ℕ → Answer → List ℕ → Type 0
ReadPacked terms mode start b old r new = Answered (pack_read mode start (read_main terms b deepest) (length old)) old r new

-- of an edition, with a book
abbrev pub EditionPacked : trailer.Edition → List ℕ → Mode → ℕ → List ℕ → List ℕ → Answer → List ℕ → Type 0
EditionPacked e book mode start b old r new = Answered (pack_by mode (edition_terms e (book_of book)) start b (length old)) old r new

-- of an edition that does not look at the book
abbrev pub EarlyPacked : Edition → Mode → ℕ → List ℕ → List ℕ → Answer → List ℕ → Type 0
EarlyPacked e mode start b old r new = (book : List ℕ) → EditionPacked (meant e) book mode start b old r new

-- n slots are enough for the label numbers of such an edition
abbrev pub EnoughEarly : Edition → ℕ → Type 0
EnoughEarly edition.First n = 1024 ≤ n
EnoughEarly edition.Second n = 4096 ≤ n
EnoughEarly edition.Third n = ⊥
