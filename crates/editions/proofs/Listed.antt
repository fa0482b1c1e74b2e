-- Laws of the words that an index gives: how many they are, each one of them, and that none is long. Assumes nothing.
use mathlib.Core.Path.{◌≡◌, refl, sym, ap, ◌∙◌}
use Prim.Native.Nat.{ℕ, zero, suc, ◌+◌, ◌≤◌, ◌<◌}
use native.Mathlib.Omega.{arith}
use mathlib.Core.Bool.{Bool, true, false, ◌&&◌}
use mathlib.Core.List.{List, []}
use lib.ListN.{length, get_or, take, drop, length-drop}
use lib.Seq.{length-take-le}
use lib.Dec.{leb, ltb}
use borrow.Author.Tests.{leb-true, ltb-true}
use Rattle.layout.specs.Lists.{All, pick}
use Rattle.laws.specs.Books.{Of, Short, WordsShort}
use Rattle.editions.specs.Words.{length_at, place_of, is_whole, word_length, word_at, word_of, listed_from, words_by, words_if}
use Rattle.editions.specs.Allowed.{terms_of}
use Rattle.editions.specs.declared.Terms.{Terms}
use Rattle.std.specs.Prelude as code

pub length_listed : {A : Type 0} (f : ℕ → A) (i n : ℕ) → length (listed_from f i n) ≡ n
unfolding listed_from
length_listed f i zero = refl
length_listed f i (suc n) = ap suc (length_listed f (suc i) n)

pub get_or_listed : {A : Type 0} (f : ℕ → A) (i n j : ℕ) (d : A) → j < n → get_or (listed_from f i n) j d ≡ f (i + j)
unfolding listed_from
get_or_listed f i zero j d h = absurd (omega arith)
get_or_listed f i (suc n) zero d h =
    let e : i + 0 ≡ i = omega arith in
    rw e
get_or_listed f i (suc n) (suc j) d h =
    let e : i + suc j ≡ suc i + j = omega arith in
    get_or_listed f (suc i) n j d (omega arith) ∙ ap f (sym e)

all_listed : {A : Type 0} (P : A → Type 0) (f : ℕ → A) → ((j : ℕ) → P (f j)) → (i n : ℕ) → All P (listed_from f i n)
unfolding listed_from
all_listed P f h i zero = tt
all_listed P f h i (suc n) = (h i, all_listed P f h (suc i) n)

-- ---- a word

module _ (e : List ℕ) (p : ℕ) where
  -- a word stands whole, or it is empty
  pub data Stands : Type 0 where
    whole : word_length e p ≡ length_at e p → p + 2 + length_at e p ≤ length e → length_at e p < 65536 → Stands
    nothing : word_length e p ≡ 0 → Stands

  and_left : (s t : Bool) → (s && t) ≡ true → s ≡ true
  and_left true t h = refl
  and_left false t h = h

  and_right : (s t : Bool) → (s && t) ≡ true → t ≡ true
  and_right true t h = h
  and_right false t h = cc

  pub stands : Stands
  unfolding word_length pick
  stands = go (is_whole e p) refl
    where
      go : (t : Bool) → is_whole e p ≡ t → Stands
      go true h =
          let g : (leb (p + 2 + length_at e p) (length e) && ltb (length_at e p) 65536) ≡ true = unfold is_whole in h in
          whole (rw h) (leb-true _ _ (and_left _ (ltb (length_at e p) 65536) g)) (ltb-true _ _ (and_right (leb (p + 2 + length_at e p) (length e)) _ g))
      go false h = nothing (rw h)

  pub word_most : word_length e p < 65536
  word_most = go stands
    where
      go : Stands → word_length e p < 65536
      go (whole a b c) = omega (arith, a, c)
      go (nothing a) = omega (arith, a)

  -- its bytes are as many
  pub length_word : length (word_at e p) ≡ word_length e p
  unfolding word_at
  length_word = go stands
    where
      go : Stands → length (take (word_length e p) (drop (p + 2) e)) ≡ word_length e p
      go (whole a b c) = length-take-le (word_length e p) (drop (p + 2) e) (simp length-drop (omega (arith, a, b)))
      go (nothing a) = length-take-le (word_length e p) (drop (p + 2) e) (omega (arith, a))

-- ---- the words by an index

module _ (e index : List ℕ) (count : ℕ) where
  pub length_words : length (words_by e index count) ≡ count
  unfolding words_by
  length_words = length_listed (word_of e index count) 0 count

  pub word_listed : (i : ℕ) → i < count → get_or (words_by e index count) i [] ≡ word_of e index count i
  unfolding words_by
  word_listed i h =
      let z : 0 + i ≡ i = omega arith in
      get_or_listed (word_of e index count) 0 count i [] h ∙ ap (word_of e index count) z

-- the words of every terms are short
pub terms_short : (t : Terms) (e index : List ℕ) → WordsShort (terms_of t e index)
terms_short t e index = go t.word_count
  where
    go : (z : code.Option ℕ) → Of (All Short) (words_if z e index)
    go (code.Some count) =
        unfold words_if words_by in
        all_listed Short (word_of e index count) (λ j. unfold word_of in (omega (arith, length_word e (place_of e index count j), word_most e (place_of e index count j)))) 0 count
    go code.None = unfold words_if in tt
