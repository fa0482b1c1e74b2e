-- What editions 2 and 3 have in common: a sheet that reads whole and names no entry is answered the same in both; and so is any
-- sheet that does not come to an entry number. Assumes nothing.
use Rattle.std.specs.Prelude.{◌≡◌, refl, ◌⊎◌, ℕ, List, [], ◌∷◌, length}
use Rattle.std.proofs.Math.Path.{sym, ap}
use Rattle.std.proofs.Common.{◌∙◌, inl, inr, ⊎_elim, arith}
use Rattle.std.proofs.Math.Option.{Option, none, some}
use Rattle.layout.specs.Tree.{Actions, ActionsOf}
use Rattle.layout.specs.Read.{Text, plain, in_book, Words, Terms, edition2, edition3, deepest, Place, Read, got, read_main}
use Rattle.layout.specs.Judge.{Mode}
use Rattle.layout.specs.Cut.{Edition, Second, Third, Cut, main, cut}
use Rattle.layout.specs.Book.{book_of}
use Rattle.layout.specs.Pack.{edition_terms, pack_read, pack, ReadsAs}
use Rattle.layout.proofs.Order.{uncut_first, read_next}
use Rattle.laws.specs.Editions.{sheet_in, CutAlike, mains, uncuts}
use Rattle.laws.proofs.Editions.{cut_alike}
use Rattle.named_words.specs.Named.{in_body, entry_numbers}
use Rattle.named_words.specs.Follows.{Plain, Ends, ends_at}
use Rattle.named_words.specs.Respelt.{Numbered, numbered}
use Rattle.named_words.proofs.Respelt.{same_unnamed, same_or_numbered}
use Rattle.named_words.specs.Unnamed.{No65535, NumberRefused}

-- where no entry is named, every text is plain
all_plain : (ts : List Text) → entry_numbers ts ≡ [] → Plain ts
unfolding entry_numbers
all_plain [] e = tt
all_plain (plain s ∷ ts) e = (tt, all_plain ts e)
all_plain (in_book i s ∷ ts) e =
    let z : ◌≡◌ {A = ℕ} 0 1 = cc in
    absurd (omega arith)

-- edition 3 is read by the words of a well_formed book
third_terms : (o : Option Words) (k : Terms) → edition_terms Third o ≡ some k → (words : Words) × (edition3 words ≡ k)
unfolding edition_terms
third_terms (some words) k e = (words, cc)
third_terms none k e =
    let z : ◌≡◌ {A = ℕ} 0 1 = cc in
    absurd (omega arith)

-- where there are none, no place is right behind them
not_numbered : {b : List ℕ} {n : ℕ} → No65535 b → Numbered b n → ⊥
not_numbered none-there (numbered p h e) = none-there p h e

no_end : {b : List ℕ} {x : Read (ActionsOf Text ℕ)} → No65535 b → Ends (Numbered b) x → ⊥
no_end none-there (ends_at h) = not_numbered none-there h

module _ (m : Mode) (front mark : List ℕ) (two : length mark ≡ 2) (book book' : List ℕ) (room : ℕ) where
  abbrev s : List ℕ
  s = sheet_in Third front mark

  abbrev s' : List ℕ
  s' = sheet_in Second front mark

  -- where the main body reads the same by edition 2 and by what edition 3 is read by, the answers are the same
  by_reading : (start : ℕ) (b : List ℕ) (k : Terms) → cut s ≡ main Third start b → cut s' ≡ main Second start b → edition_terms Third (book_of book) ≡ some k
      → read_main k b deepest ≡ read_main edition2 b deepest → pack m s book room ≡ pack m s' book' room
  unfolding edition_terms
  by_reading start b k c c' l e =
      read_next m s book room Third start b k c (unfold edition_terms in l) ∙ ap (λ x. pack_read m start x room) e ∙ sym (read_next m s' book' room Second start b edition2 c' refl)

  -- a sheet that edition 3 reads whole with a book, and that names no entry, gets the same answer and bytes in edition 2, whatever
  -- the book there
  pub same_edition_2 : (t : Actions) (h : ReadsAs s book t) → entry_numbers (in_body h.read) ≡ [] → pack m s book room ≡ pack m s' book' room
  same_edition_2 t h n = by_cut (cut s) (cut s') refl refl (cut_alike Third Second front mark two)
    where
      go : (start : ℕ) (b : List ℕ) → cut s ≡ main Third start b → cut s' ≡ main Second start b → (i : Edition) (start' : ℕ) (b' : List ℕ) (k : Terms) (x : ActionsOf Text ℕ) (q : Place)
          → cut s ≡ main i start' b' → edition_terms i (book_of book) ≡ some k → read_main k b' deepest ≡ got x q → Plain (in_body x) → pack m s book room ≡ pack m s' book' room
      go start b c c' i start' b' k x q d l r u =
          let j : i ≡ Third = cc in
          let p : b' ≡ b = cc in
          let o = third_terms (book_of book) k (rw (← j) l) in
          let e : read_main (edition3 o.0) b deepest ≡ got x q = rw (o.1, ← p) r in
          by_reading start b k c c' (rw (← j) l) (ap (λ y. read_main y b deepest) (sym o.1) ∙ e ∙ sym (same_unnamed o.0 b x q e u))

      by_cut : (x y : Cut) → cut s ≡ x → cut s' ≡ y → CutAlike Third Second x y → pack m s book room ≡ pack m s' book' room
      by_cut x y c c' (mains {start} {b}) =
          go start b c c' h.edition h.start h.bytes h.terms h.read h.next h.is_cut h.is_lent h.is_read (all_plain (in_body h.read) n)
      by_cut x y c c' (uncuts {r}) = uncut_first m s book room r c ∙ sym (uncut_first m s' book' room r c')

  -- any sheet, a refused one too, gets the same answer and bytes in edition 3 with a well_formed book and in edition 2 with any, or
  -- edition 3 with a book of no entries refuses it right behind 65,535
  pub same_or_number : (words : Words) → book_of book ≡ some words → (pack m s book room ≡ pack m s' book' room) ⊎ NumberRefused s
  same_or_number words e = by_cut (cut s) (cut s') refl refl (cut_alike Third Second front mark two)
    where
      lent : edition_terms Third (book_of book) ≡ some (edition3 words)
      lent = ap (edition_terms Third) e ∙ (unfold edition_terms in refl)

      by_cut : (x y : Cut) → cut s ≡ x → cut s' ≡ y → CutAlike Third Second x y → (pack m s book room ≡ pack m s' book' room) ⊎ NumberRefused s
      by_cut x y c c' (mains {start} {b}) =
          ⊎_elim (λ r. inl (by_reading start b (edition3 words) c c' lent r)) (λ h. inr (record { start = start; bytes = b; is_cut = c; is_refused = h })) (same_or_numbered b words)
      by_cut x y c c' (uncuts {r}) = inl (uncut_first m s book room r c ∙ sym (uncut_first m s' book' room r c'))

  -- so it gets the same where no two bytes of its main body, one behind the other, are 65,535
  pub same_without_65535 : (words : Words) → book_of book ≡ some words → ((start : ℕ) (b : List ℕ) → cut s ≡ main Third start b → No65535 b) → pack m s book room ≡ pack m s' book' room
  same_without_65535 words e h = ⊎_elim (λ r. r) (λ z. absurd (no_end (h z.start z.bytes z.is_cut) z.is_refused)) (same_or_number words e)
