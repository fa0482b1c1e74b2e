-- Laws of the places of words, and of a word that is found at its place. Assumes nothing.
use mathlib.Core.Path.{◌≡◌, refl, sym, ap, ◌∙◌}
use Prim.Native.Nat.{ℕ, zero, suc, ◌+◌, ◌-◌, ◌≤◌, ◌<◌}
use native.Mathlib.Omega.{arith}
use mathlib.Core.Bool.{Bool, true, false, ◌&&◌}
use mathlib.Core.List.{List, [], ◌∷◌}
use lib.ListN.{length, get_or, take, drop}
use lib.Dec.{leb, ltb}
use borrow.Author.Tests.{le-leb, lt-leb, lt-ltb, leb-true}
use Rattle.layout.specs.Lists.{pick}
use Rattle.editions.specs.Words.{length_at, place_after, place_of, is_whole, word_length, word_at, word_of}
use Rattle.editions.proofs.Listed.{length_word}
use Rattle.words.specs.Found.{stands_at, found_at, Found}

-- with none left
pub after_none : (e : List ℕ) (n p : ℕ) → n ≡ 0 → place_after e n p ≡ p
unfolding place_after
after_none e n p h = rw h

-- with one taken off those left
pub after_one : (e : List ℕ) (n p q l : ℕ) → 0 < n → l ≡ length_at e p → q ≡ p + 2 + l → place_after e (n - 1) q ≡ place_after e n p
unfolding place_after
after_one e zero p q l h k i = absurd (omega arith)
after_one e (suc n) p q l h k i =
    let m : suc n - 1 ≡ n = omega arith in
    rw (m, i, k)

-- past the end of a list
pub get_or_out : (l : List ℕ) (i d : ℕ) → length l ≤ i → get_or l i d ≡ d
get_or_out [] i d h = refl
get_or_out (x ∷ l) zero d h = absurd (omega arith)
get_or_out (x ∷ l) (suc i) d h = get_or_out l i d (omega arith)

-- ---- the word at a place p, where the length n stands

module _ (e : List ℕ) (p n : ℕ) (k : n ≡ length_at e p) (short : n < 65536) where
  length_whole : p + 2 + n ≤ length e → word_length e p ≡ n
  unfolding word_length is_whole pick
  length_whole h =
      let g : p + 2 + length_at e p ≤ length e = rw (← k) h in
      let s : length_at e p < 65536 = rw (← k) short in
      rw (le-leb _ _ g, lt-ltb _ _ s) (sym k)

  length_cut : length e < p + 2 + n → word_length e p ≡ 0
  unfolding word_length is_whole pick
  length_cut h =
      let g : length e < p + 2 + length_at e p = rw (← k) h in
      rw (lt-leb _ _ g)

  stands_whole : p + 2 + n ≤ length e → record { at = p + 2; len = n } ≡ stands_at e p
  unfolding stands_at is_whole pick
  stands_whole h =
      let g : p + 2 + length_at e p ≤ length e = rw (← k) h in
      let s : length_at e p < 65536 = rw (← k) short in
      rw (le-leb _ _ g, lt-ltb _ _ s) (ap (λ (x : ℕ). record { at = p + 2; len = x }) k)

  stands_nothing : length e < p + 2 + n → record { at = 0; len = 0 } ≡ stands_at e p
  unfolding stands_at is_whole pick
  stands_nothing h =
      let g : length e < p + 2 + length_at e p = rw (← k) h in
      rw (lt-leb _ _ g)

  module _ (index : List ℕ) (count i : ℕ) (is : p ≡ place_of e index count i) where
    word_is : word_of e index count i ≡ word_at e p
    unfolding word_of
    word_is = rw (← is)

    found_is : stands_at e p ≡ found_at e index count i
    unfolding found_at
    found_is = rw (← is)

    pub found_whole : p + 2 + n ≤ length e → Found e index count i (record { at = p + 2; len = n })
    found_whole h =
        let l = length_whole h in
        record {
          is = stands_whole h ∙ found_is;
          within = h;
          is_word = sym (word_is ∙ (unfold word_at in ap (λ (x : ℕ). take x (drop (p + 2) e)) l));
          is_long = sym (ap length word_is ∙ length_word e p ∙ l);
          short = short;
        }

    pub found_nothing : length e < p + 2 + n → Found e index count i (record { at = 0; len = 0 })
    found_nothing h =
        let l = length_cut h in
        record {
          is = stands_nothing h ∙ found_is;
          within = omega arith;
          is_word = sym (word_is ∙ (unfold word_at in ap (λ (x : ℕ). take x (drop (p + 2) e)) l));
          is_long = sym (ap length word_is ∙ length_word e p ∙ l);
          short = omega arith;
        }

-- what is found at all lies within, and is the word
pub found_at_lem : (e index : List ℕ) (count i : ℕ) → ((found_at e index count i).at + (found_at e index count i).len ≤ length e)
    × (take (found_at e index count i).len (drop (found_at e index count i).at e) ≡ word_of e index count i)
unfolding found_at stands_at word_of word_at word_length pick
found_at_lem e index count i = go (place_of e index count i) (is_whole e (place_of e index count i)) refl
  where
    and_left : (s t : Bool) → (s && t) ≡ true → s ≡ true
    and_left true t h = refl
    and_left false t h = h

    go : (p : ℕ) (t : Bool) → is_whole e p ≡ t
        → ((stands_at e p).at + (stands_at e p).len ≤ length e) × (take (stands_at e p).len (drop (stands_at e p).at e) ≡ word_at e p)
    go p true h =
        let g : (leb (p + 2 + length_at e p) (length e) && ltb (length_at e p) 65536) ≡ true = unfold is_whole in h in
        (rw h (leb-true _ _ (and_left _ (ltb (length_at e p) 65536) g)), rw h)
    go p false h = (rw h (omega arith), rw h)
