-- The words of a well_formed book have no zero byte, and so has every string that was read; what a string takes of the sheet.
-- Assumes nothing.
use Rattle.std.specs.Prelude.{◌≡◌, Bool, List, [], ◌∷◌, length, get_or, take, drop, leb, eqb}
use Rattle.std.proofs.Common.{sym, arith}
use Rattle.std.proofs.Math.Path.{subst}
use Prim.Native.Nat.{ℕ, zero, suc, ◌+◌, ◌-◌, ◌≤◌}
use Rattle.std.proofs.Math.Bool.{true, false}
use Rattle.std.proofs.Math.Option.{Option, none, some, none-ne-some}
use Rattle.std.proofs.Math.Dec.{ltb}
use Rattle.layout.specs.Lists.{All}
use Rattle.layout.proofs.Lists.{all_take, all_drop}
use Rattle.layout.specs.Read.{Text, plain, in_book, Words, Terms, edition1, edition2, edition3, Place, placed, Read, repeat, if_nothing_left, read_u16, read_plain, read_word, read_text, read_string}
use Rattle.layout.specs.Cut.{Edition, First, Second, Third}
use Rattle.layout.specs.Book.{read_entry, if_read, words_in, book_if, book_at, book_if_trailer, book_of}
use Rattle.layout.specs.Pack.{edition_terms, spelling}
use Rattle.laws.specs.Fits.{Bytes, Clean}
use Rattle.laws.specs.ReadFits.{Good, fine, refused, Spells}
use Rattle.laws.proofs.ReadFits.{good_then, good_as, u16_good, tested_good, spelling_good}
use Rattle.laws.specs.Books.{Of, Short, Word, WordsClean, WordsShort}

module _ (e : List ℕ) (small : Bytes e) where
  entry_good : (p : Place) → p.at ≤ length e → Good (length e) (λ s q. Word s) (read_entry e p)
  unfolding read_entry
  entry_good p l = good_then (u16_good e small p l) (λ n q h m. good_as (spelling_good e small n q m) (λ s r g. (g.0, omega (arith, g.2, h.0))))

  entries_good : (n : ℕ) (p : Place) → p.at ≤ length e → Good (length e) (λ ws q. All Word ws) (repeat (read_entry e) n p)
  unfolding repeat
  entries_good zero p l = fine {a = []} {p = p} tt l
  entries_good (suc n) p l = good_then (entry_good p l) (λ s q h m. good_then (entries_good n q m) (λ ws r g j. fine {a = s ∷ ws} {p = r} (h, g) j))

  filled_good : (t : Bool) (ws : Words) (p : Place) → p.at ≤ length e → All Word ws → Good (length e) (λ xs q. All Word xs) (if_nothing_left t ws p)
  unfolding if_nothing_left
  filled_good true ws p l h = fine {a = ws} {p = p} h l
  filled_good false ws p l h = refused l

read_good : {n : ℕ} {r : Read Words} → Good n (λ ws q. All Word ws) r → Of (All Word) (if_read r)
unfolding if_read
read_good (fine h l) = h
read_good (refused l) = tt

in_good : (e : List ℕ) (n : ℕ) → Bytes e → Of (All Word) (words_in e n)
unfolding words_in
in_good e n small =
    read_good (good_then (entries_good e small n (placed 0) (omega arith)) (λ ws p h l. filled_good e small (eqb p.at (length e)) ws p l h))

book_good : (book : List ℕ) → Bytes book → Of (All Word) (book_of book)
unfolding book_of
book_good book small = trailer (leb 8 (length book))
  where
    from : (y : Bool) (n d c : ℕ) → Of (All Word) (book_if y book n d c)
    from true n d c = unfold book_if in in_good (take d (drop (n - d) book)) c (all_take _ d (drop (n - d) book) (all_drop _ (n - d) book small))
    from false n d c = unfold book_if in tt

    trailer : (x : Bool) → Of (All Word) (book_if_trailer x book)
    trailer true = unfold book_if_trailer book_at in from _ (length book - 8) _ _
    trailer false = unfold book_if_trailer in tt

all_clean : (ws : Words) → All Word ws → All Clean ws
all_clean [] h = tt
all_clean (w ∷ ws) h = (h.0.0, all_clean ws h.1)

all_short : (ws : Words) → All Word ws → All Short ws
all_short [] h = tt
all_short (w ∷ ws) h = (h.0.1, all_short ws h.1)

-- so it is for the words of a book of bytes, whatever the edition
words_good : (i : Edition) (book : List ℕ) (k : Terms) → Bytes book → edition_terms i (book_of book) ≡ some k → WordsClean k × WordsShort k
words_good i book k small e = go i (book_of book) (book_good book small) e
  where
    good : (x : Option Terms) → Type 0
    good none = Unit {0}
    good (some k) = WordsClean k × WordsShort k

    go : (i : Edition) (o : Option Words) → Of (All Word) o → edition_terms i o ≡ some k → WordsClean k × WordsShort k
    go First o h e = subst good e (unfold edition_terms edition1 in (tt, tt))
    go Second o h e = subst good e (unfold edition_terms edition2 in (tt, tt))
    go Third (some ws) h e = subst good e (unfold edition_terms edition3 in (all_clean ws h, all_short ws h))
    go Third none h e = subst good e (unfold edition_terms in tt)

pub words_clean : (i : Edition) (book : List ℕ) (k : Terms) → Bytes book → edition_terms i (book_of book) ≡ some k → WordsClean k
words_clean i book k small e = (words_good i book k small e).0

pub words_short : (i : Edition) (book : List ℕ) (k : Terms) → Bytes book → edition_terms i (book_of book) ≡ some k → WordsShort k
words_short i book k small e = (words_good i book k small e).1

-- ---- strings

word_clean : (ws : Words) (i : ℕ) → All Clean ws → Clean (get_or ws i [])
word_clean [] i h = tt
word_clean (w ∷ ws) zero h = h.0
word_clean (w ∷ ws) (suc i) h = word_clean ws i h.1

-- a string that was read has no zero byte; and where no word may be named, it is no longer than what was read for it
module _ (b : List ℕ) (small : Bytes b) where
  abbrev TextGood : Type 0 → Place → Text → Place → Type 0
  TextGood K p s q = Clean (spelling s) × (K → length (spelling s) + p.at ≤ q.at) × (p.at ≤ q.at)

  plain_good : (K : Type 0) (n : ℕ) (p : Place) → p.at ≤ length b → Good (length b) (TextGood K p) (read_plain b n p)
  unfolding read_plain spelling
  plain_good K n p l = good_then (spelling_good b small n p l) (λ s q g m. fine {a = plain s} {p = q} (g.0, (λ κ. omega (arith, g.1)), omega (arith, g.1)) m)

  named_good : (K : Type 0) (ws : Words) (p : Place) → All Clean ws → (K → ⊥) → p.at ≤ length b → Good (length b) (TextGood K p) (read_word b ws p)
  unfolding read_word spelling
  named_good K ws p clean z l =
      good_then (tested_good b small (λ i. ltb i (length ws)) (read_u16 b) p l (u16_good b small p l))
      (λ i q g m. fine {a = in_book i (get_or ws i [])} {p = q} (word_clean ws i clean, (λ κ. absurd (z κ)), omega (arith, g.0.1)) m)

  text_good : (o : Option Words) (t : Bool) (n : ℕ) (p : Place) → Of (All Clean) o → p.at ≤ length b → Good (length b) (TextGood (o ≡ none) p) (read_text b o t n p)
  unfolding read_text
  text_good (some ws) true n p h l = named_good (some ws ≡ none) ws p h (λ e. none-ne-some ws (sym e)) l
  text_good (some ws) false n p h l = plain_good (some ws ≡ none) n p l
  text_good none t n p h l = plain_good (none ≡ none) n p l

  pub spells : (k : Terms) → WordsClean k → Spells k b spelling (k.words ≡ none)
  unfolding read_string
  spells k clean p l =
      good_then (u16_good b small p l) (λ n q h m. good_as (text_good k.words (eqb n 65535) n q clean m)
      (λ s r g. (g.0, (λ κ. omega (arith, g.1 κ, h.1)), omega (arith, g.2, h.1))))
