-- "A packing answer depends only on the sheet, the mode, the output's length, whether the book is well formed, its entry count, and
-- the entries that the sheet names"; in editions 1 and 2 it does not depend on the book. Assumes nothing.
use Rattle.std.specs.Prelude.{◌≡◌, ℕ, length}
use Rattle.std.proofs.Math.Path.{refl, ap}
use Rattle.std.proofs.Common.{sym, ◌∙◌}
use Rattle.std.proofs.Math.Option.{none, some}
use mathlib.Core.List.{List, [], ◌∷◌}
use Rattle.layout.specs.Lists.{each}
use Rattle.layout.specs.Tree.{ActionsOf}
use Rattle.layout.specs.Read.{Text, plain, in_book, Words, Terms, edition1, edition2, edition3, deepest, Read, got, bad, read_main}
use Rattle.layout.specs.Strings.{map_body}
use Rattle.layout.specs.Judge.{Mode}
use Rattle.layout.specs.Cut.{Edition, First, Second, Third, Cut, main, uncut, cut}
use Rattle.layout.specs.Book.{book_of}
use Rattle.layout.specs.Pack.{edition_terms, pack_read, pack_by, pack_cut, pack}
use Rattle.named_words.specs.Named.{in_body, entry_numbers, named_read, named_by, named_cut, named}
use Rattle.named_words.proofs.Named.{Same, same_body, made_body}
use Rattle.named_words.specs.Follows.{map_read}
use Rattle.named_words.specs.Respelt.{respell, plainly}
use Rattle.named_words.proofs.Respelt.{main_respelt, main_plain}
use Rattle.named_words.specs.Entries.{SameAt, SameFor, ill_formed, well_formed}

-- ---- the entries that a sheet names are the same by two books of one count

-- an entry's number stays, however it is spelt
numbers_respelt : (words : Words) (ts : List Text) → entry_numbers (each (respell words) ts) ≡ entry_numbers ts
unfolding entry_numbers each respell
numbers_respelt words [] = refl
numbers_respelt words (plain s ∷ ts) = numbers_respelt words ts
numbers_respelt words (in_book i s ∷ ts) = ap (λ l. i ∷ l) (numbers_respelt words ts)

read_respelt : (words : Words) (x : Read (ActionsOf Text ℕ)) → named_read (map_read (map_body (respell words)) x) ≡ named_read x
unfolding named_read map_read
read_respelt words (got t q) = ap entry_numbers (made_body (respell words) t) ∙ numbers_respelt words (in_body t)
read_respelt words (bad f s) = refl

-- which entries a sheet names is not a matter of their bytes
pub named_same : (s : List ℕ) (words words' : Words) → length words' ≡ length words → named s words' ≡ named s words
unfolding named
named_same s words words' l = go (cut s)
  where
    go : (c : Cut) → named_cut c words' ≡ named_cut c words
    go (uncut r) = unfold named_cut in refl
    go (main First start b) = unfold named_cut edition_terms in refl
    go (main Second start b) = unfold named_cut edition_terms in refl
    go (main Third start b) =
        unfold named_cut named_by edition_terms in (ap named_read (main_respelt words words' l b) ∙ read_respelt words' (read_main (edition3 words) b deepest))

-- ---- a sheet of edition 1 or 2 names none

numbers_plain : (ts : List Text) → entry_numbers (each plainly ts) ≡ []
unfolding entry_numbers each plainly
numbers_plain [] = refl
numbers_plain (t ∷ ts) = numbers_plain ts

read_plain : (x : Read (ActionsOf Text ℕ)) → named_read (map_read (map_body plainly) x) ≡ []
unfolding named_read map_read
read_plain (got t q) = ap entry_numbers (made_body plainly t) ∙ numbers_plain (in_body t)
read_plain (bad f s) = refl

pub named_none : (s : List ℕ) (words : Words) (i : Edition) (start : ℕ) (b : List ℕ) → cut s ≡ main i start b → (i ≡ Third → ⊥) → named s words ≡ []
unfolding named
named_none s words i start b c z = ap (λ x. named_cut x words) c ∙ go i z
  where
    by : (k : Terms) → k.words ≡ none → named_read (read_main k b deepest) ≡ []
    by k e = ap named_read (main_plain k e b) ∙ read_plain (read_main k b deepest)

    go : (i : Edition) → (i ≡ Third → ⊥) → named_cut (main i start b) words ≡ []
    go First z = unfold named_cut named_by edition_terms in by edition1 (unfold edition1 in refl)
    go Second z = unfold named_cut named_by edition_terms in by edition2 (unfold edition2 in refl)
    go Third z = absurd (z refl)

module _ (words words' : Words) where
  texts_same : (ts : List Text) → SameAt words words' (entry_numbers ts) → Same (respell words) (respell words') ts
  unfolding entry_numbers respell
  texts_same [] h = tt
  texts_same (plain s ∷ ts) h = (refl, texts_same ts h)
  texts_same (in_book i s ∷ ts) h = (ap (in_book i) h.0, texts_same ts h.1)

  respelt_same : (x : Read (ActionsOf Text ℕ)) → SameAt words words' (named_read x) → map_read (map_body (respell words)) x ≡ map_read (map_body (respell words')) x
  unfolding named_read map_read
  respelt_same (got t q) h = ap (λ y. got y q) (same_body (respell words) (respell words') t (texts_same (in_body t) h))
  respelt_same (bad f s) h = refl

  -- a main body is read by both to the same
  reading_same : (b : List ℕ) → length words' ≡ length words → SameAt words words' (named_read (read_main (edition3 words) b deepest)) → read_main (edition3 words) b deepest ≡ read_main (edition3 words') b deepest
  reading_same b l h = main_respelt words words refl b ∙ respelt_same (read_main (edition3 words) b deepest) h ∙ sym (main_respelt words words' l b)

-- the answers are the same, with every byte
pub same_entries : (m : Mode) (s book book' : List ℕ) (room : ℕ) → SameFor s book book' → pack m s book room ≡ pack m s book' room
unfolding pack named
same_entries m s book book' room (ill_formed e e') = ap (λ o. pack_cut m (cut s) o room) (e ∙ sym e')
same_entries m s book book' room (well_formed {words} {words'} e e' l h) = ap (λ o. pack_cut m (cut s) o room) e ∙ go (cut s) h ∙ ap (λ o. pack_cut m (cut s) o room) (sym e')
  where
    go : (c : Cut) → SameAt words words' (named_cut c words) → pack_cut m c (some words) room ≡ pack_cut m c (some words') room
    go (uncut r) h = unfold pack_cut in refl
    go (main First start b) h = unfold pack_cut edition_terms in refl
    go (main Second start b) h = unfold pack_cut edition_terms in refl
    go (main Third start b) h =
        unfold pack_cut pack_by edition_terms in ap (λ x. pack_read m start x room) (reading_same words words' b l (unfold named_cut named_by edition_terms in h))

-- editions 1 and 2 do not look at the book, be it ill formed
pub no_book : (m : Mode) (s book book' : List ℕ) (room : ℕ) (i : Edition) (start : ℕ) (b : List ℕ) → cut s ≡ main i start b → (i ≡ Third → ⊥) → pack m s book room ≡ pack m s book' room
unfolding pack
no_book m s book book' room i start b c n = ap (λ x. pack_cut m x (book_of book) room) c ∙ go i n ∙ ap (λ x. pack_cut m x (book_of book') room) (sym c)
  where
    go : (i : Edition) → (i ≡ Third → ⊥) → pack_cut m (main i start b) (book_of book) room ≡ pack_cut m (main i start b) (book_of book') room
    go First n = unfold pack_cut edition_terms in refl
    go Second n = unfold pack_cut edition_terms in refl
    go Third n = absurd (n refl)
