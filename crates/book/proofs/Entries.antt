-- Laws of entries: one, several one after another, and the words that an index of their places gives. Assumes nothing.
use mathlib.Core.Path.{◌≡◌, refl, sym, ap, ap₂, ◌∙◌, subst}
use Prim.Native.Nat.{ℕ, zero, suc, ◌+◌, ◌-◌, ◌*◌, ◌/◌, ◌%◌, ◌≤◌, ◌<◌}
use native.Mathlib.Nat.{div-add-mod'}
use native.Mathlib.Omega.{arith}
use mathlib.Core.List.{List, ◌∷◌, ◌++◌}
use lib.ListN.{length, get_or}
use borrow.Author.Tests.{le-leb, lt-ltb}
use Rattle.std.specs.Prelude.{Some, None}
use Rattle.layout.specs.Lists.{pick}
use Rattle.layout.specs.Numbers.{u16_at}
use Rattle.std.proofs.Math.Option.{Option, none, some}
use Rattle.layout.specs.Read.{Words, Place, placed, Read, got, bad, Reader, chain, repeat, first_zero}
use Rattle.layout.specs.Book.{read_entry}
use Rattle.fields.specs.Runs.{part, nul_or, first_nul}
use Rattle.editions.specs.Words.{step_of, length_at, place_after, place_of, is_whole, word_length, word_at, word_of, listed_from, words_by}
use Rattle.operands.proofs.Reading.{u16_in, u16_out, spelling_in, spelling_out, spelling_nul}
use Rattle.book.specs.Checks.{Fails, fails, words_from, Entered, entered, nothing, EnteredAll}

fails_at : {A : Type 0} {x y : Read A} → x ≡ y → Fails y → Fails x
fails_at e h = subst Fails (sym e) h

-- ---- one entry, as the code answers, which holds the length in n

module _ (e : List ℕ) (p : ℕ) where
  pub entry_out : length e < p + 2 → Entered e p None
  unfolding read_entry
  entry_out h = nothing (rw (u16_out e p h) fails)

  module _ (n : ℕ) (h : p + 2 ≤ length e) (k : n ≡ u16_at e p) where
    length_is : length_at e p ≡ n
    unfolding length_at pick
    length_is = rw (le-leb (p + 2) (length e) h) (sym k)

    pub entry_cut : length e < p + 2 + n → Entered e p None
    unfolding read_entry
    entry_cut l = nothing (rw (u16_in e p h, ← k, spelling_out e (p + 2) n l) fails)

    module _ (l : p + 2 + n ≤ length e) where
      pub entry_nul : first_nul e (p + 2) n < p + 2 + n → Entered e p None
      unfolding read_entry
      entry_nul m = nothing (rw (u16_in e p h, ← k, spelling_nul e (p + 2) n l m) fails)

      word_is : n < 65536 → word_at e p ≡ part e (p + 2) n
      unfolding word_at word_length is_whole pick
      word_is s = rw (length_is, le-leb (p + 2 + n) (length e) l, lt-ltb n 65536 s)

      entry_reads : p + 2 + n ≤ first_nul e (p + 2) n → read_entry e (placed p) ≡ got (part e (p + 2) n) (placed (p + 2 + n))
      unfolding read_entry
      entry_reads m = rw (u16_in e p h, ← k, spelling_in e (p + 2) n l m)

      pub entry_in : n < 65536 → p + 2 + n ≤ first_nul e (p + 2) n → Entered e p (Some (p + 2 + n))
      entry_in s m =
          entered (ap (λ (x : ℕ). p + 2 + x) (sym length_is)) l
          (entry_reads m ∙ ap (λ (x : List ℕ). got x (placed (p + 2 + n))) (sym (word_is s)))

-- the first zero byte stands at or after the place from which it is looked for
pub nul_from : (e : List ℕ) (i n : ℕ) → i ≤ first_nul e i n
unfolding first_nul nul_or
nul_from e i n = go (first_zero 0 (part e i n))
  where
    go : (z : Option ℕ) → i ≤ nul_or i n z
    go none = omega arith
    go (some z) = omega arith

-- ---- n entries

module _ (e : List ℕ) where
  -- with one taken off those left: what is read, and that nothing is
  pub all_one : (n p q r : ℕ) → 0 < n → q ≡ p + 2 + length_at e p → read_entry e (placed p) ≡ got (word_at e p) (placed q)
      → repeat (read_entry e) (n - 1) (placed q) ≡ got (words_from e (n - 1) q) (placed r) → repeat (read_entry e) n (placed p) ≡ got (words_from e n p) (placed r)
  unfolding repeat words_from
  all_one zero p q r h k g f = absurd (omega arith)
  all_one (suc n) p q r h k g f =
      let m : suc n - 1 ≡ n = omega arith in
      let f' : repeat (read_entry e) n (placed q) ≡ got (words_from e n q) (placed r) = rw m at f in
      rw (g, f', ← k)

  pub none_one : (n p q : ℕ) → 0 < n → read_entry e (placed p) ≡ got (word_at e p) (placed q) → Fails (repeat (read_entry e) (n - 1) (placed q)) → Fails (repeat (read_entry e) n (placed p))
  unfolding repeat
  none_one zero p q h g f = absurd (omega arith)
  none_one (suc n) p q h g f =
      let m : suc n - 1 ≡ n = omega arith in
      rw g (go (repeat (read_entry e) n (placed q)) (rw m at f))
    where
      go : (x : Read Words) → Fails x → Fails (chain x (λ ws r. got (word_at e p ∷ ws) r))
      go (bad g s) fails = fails
      go (got a next) h = elim h [ ]

  pub none_here : (n p : ℕ) → 0 < n → Fails (read_entry e (placed p)) → Fails (repeat (read_entry e) n (placed p))
  unfolding repeat
  none_here zero p h f = absurd (omega arith)
  none_here (suc n) p h f = go (read_entry e (placed p)) f
    where
      go : (x : Read (List ℕ)) → Fails x → Fails (chain x (λ a q. chain (repeat (read_entry e) n q) (λ ws r. got (a ∷ ws) r)))
      go (bad g s) fails = fails
      go (got a next) h = elim h [ ]

-- where so many entries are left, from place p on, of n from place `at` on
pub record Going (e : List ℕ) (at n left p : ℕ) : Type 0 where
  pub inside : p ≤ length e
  pub moved : at ≤ p
  pub place : place_after e left p ≡ place_after e n at
  pub reads : (r : ℕ) → repeat (read_entry e) left (placed p) ≡ got (words_from e left p) (placed r) → repeat (read_entry e) n (placed at) ≡ got (words_from e n at) (placed r)
  pub fails : Fails (repeat (read_entry e) left (placed p)) → Fails (repeat (read_entry e) n (placed at))

module _ (e : List ℕ) (at n : ℕ) where
  after_left : (left p q : ℕ) → 0 < left → q ≡ p + 2 + length_at e p → place_after e (left - 1) q ≡ place_after e left p
  unfolding place_after
  after_left zero p q h k = absurd (omega arith)
  after_left (suc left) p q h k =
      let z : suc left - 1 ≡ left = omega arith in
      rw (z, k)

  pub going_next : {left p q : ℕ} (rest : ℕ) → rest ≡ left - 1 → Going e at n left p → 0 < left → Entered e p (Some q) → Going e at n rest q
  going_next {left} {p} {q} rest m g h (entered k l f) =
      rw m (record {
        inside = l;
        moved = omega (arith, g.moved, k);
        place = after_left left p q h k ∙ g.place;
        reads = λ r x. g.reads r (all_one e left p q r h k f x);
        fails = λ x. g.fails (none_one e left p q h f x);
      })

  pub going_fails : {left p : ℕ} → Going e at n left p → 0 < left → Entered e p None → EnteredAll e at n None
  going_fails {left} {p} g h (nothing f) = nothing (g.fails (none_here e left p h f))

  pub going_done : {left p : ℕ} → Going e at n left p → left ≡ 0 → EnteredAll e at n (Some p)
  going_done {left} {p} g z =
      entered {r = p} g.moved g.inside (sym (rw z (unfold place_after in refl)) ∙ g.place) (g.reads p (rw z (unfold repeat words_from in refl)))

-- ---- some entries, and some more

chain_got : {A : Type 0} (x : Read A) → chain x (λ a q. got a q) ≡ x
chain_got (got a q) = refl
chain_got (bad f s) = refl

repeat_plus : {A : Type 0} (r : Reader A) (m n : ℕ) (p : Place) → repeat r (m + n) p ≡ chain (repeat r m p) (λ xs q. chain (repeat r n q) (λ ys s. got (xs ++ ys) s))
unfolding repeat
repeat_plus r zero n p =
    let z : zero + n ≡ n = omega arith in
    rw z (sym (chain_got (repeat r n p)))
repeat_plus r (suc m) n p =
    let z : suc m + n ≡ suc (m + n) = omega arith in
    rw z (go (r p) (λ q. repeat_plus r m n q))
  where
    one : (a : _) (q : Place) (x : Read (List _)) → repeat r (m + n) q ≡ chain x (λ xs s. chain (repeat r n s) (λ ys t. got (xs ++ ys) t))
        → chain (repeat r (m + n) q) (λ zs t. got (a ∷ zs) t) ≡ chain (chain x (λ xs s. got (a ∷ xs) s)) (λ xs s. chain (repeat r n s) (λ ys t. got (xs ++ ys) t))
    one a q (got xs s) h = rw h (two (repeat r n s))
      where
        two : (y : Read (List _)) → chain (chain y (λ ys t. got (xs ++ ys) t)) (λ zs t. got (a ∷ zs) t) ≡ chain y (λ ys t. got (a ∷ (xs ++ ys)) t)
        two (got ys t) = refl
        two (bad f t) = refl
    one a q (bad f s) h = rw h

    go : (x : Read _) → ((q : Place) → repeat r (m + n) q ≡ chain (repeat r m q) (λ xs s. chain (repeat r n s) (λ ys t. got (xs ++ ys) t)))
        → chain x (λ a q. chain (repeat r (m + n) q) (λ zs t. got (a ∷ zs) t))
        ≡ chain (chain x (λ a q. chain (repeat r m q) (λ xs s. got (a ∷ xs) s))) (λ xs s. chain (repeat r n s) (λ ys t. got (xs ++ ys) t))
    go (got a q) again = one a q (repeat r m q) (again q)
    go (bad f s) again = refl

module _ (e : List ℕ) where
  pub after_more : (m n p : ℕ) → place_after e n (place_after e m p) ≡ place_after e (m + n) p
  unfolding place_after
  after_more zero n p =
      let z : zero + n ≡ n = omega arith in
      rw z
  after_more (suc m) n p =
      let z : suc m + n ≡ suc (m + n) = omega arith in
      rw z (after_more m n (p + 2 + length_at e p))

  words_more : (m n p : ℕ) → words_from e (m + n) p ≡ words_from e m p ++ words_from e n (place_after e m p)
  unfolding words_from place_after
  words_more zero n p =
      let z : zero + n ≡ n = omega arith in
      rw z
  words_more (suc m) n p =
      let z : suc m + n ≡ suc (m + n) = omega arith in
      rw z (ap (λ (x : Words). word_at e p ∷ x) (words_more m n (p + 2 + length_at e p)))

  pub all_more : (m n p q r : ℕ) → repeat (read_entry e) m (placed p) ≡ got (words_from e m p) (placed q) → q ≡ place_after e m p
      → repeat (read_entry e) n (placed q) ≡ got (words_from e n q) (placed r) → repeat (read_entry e) (m + n) (placed p) ≡ got (words_from e (m + n) p) (placed r)
  all_more m n p q r f k g =
      repeat_plus (read_entry e) m n (placed p) ∙ rw (f, g) (ap (λ (x : Words). got x (placed r)) (ap (λ (x : ℕ). words_from e m p ++ words_from e n x) k ∙ sym (words_more m n p)))

  fails_chain : {A B : Type 0} (x : Read A) (f : A → Reader B) → Fails x → Fails (chain x f)
  fails_chain (bad g s) f fails = fails
  fails_chain (got a next) f h = elim h [ ]

  pub fails_more : (m n p q : ℕ) → repeat (read_entry e) m (placed p) ≡ got (words_from e m p) (placed q) → Fails (repeat (read_entry e) n (placed q))
      → Fails (repeat (read_entry e) (m + n) (placed p))
  fails_more m n p q f g = fails_at (repeat_plus (read_entry e) m n (placed p)) (rw f (fails_chain (repeat (read_entry e) n (placed q)) _ g))

  pub fails_longer : (m n p : ℕ) → Fails (repeat (read_entry e) m (placed p)) → Fails (repeat (read_entry e) (m + n) (placed p))
  fails_longer m n p f = fails_at (repeat_plus (read_entry e) m n (placed p)) (fails_chain (repeat (read_entry e) m (placed p)) _ f)

  -- ---- the words, by the places of all and by an index of some

  after_one : (q : ℕ) → place_after e 1 q ≡ q + 2 + length_at e q
  unfolding place_after
  after_one q = refl

  from_listed : (i n p : ℕ) → p ≡ place_after e i 0 → words_from e n p ≡ listed_from (λ j. word_at e (place_after e j 0)) i n
  unfolding words_from listed_from
  from_listed i zero p h = refl
  from_listed i (suc n) p h = ap₂ ◌∷◌ (ap (word_at e) h) (from_listed (suc i) n (p + 2 + length_at e p) next)
    where
      next : p + 2 + length_at e p ≡ place_after e (suc i) 0
      next =
          let z : i + 1 ≡ suc i = omega arith in
          sym (after_one p) ∙ ap (place_after e 1) h ∙ after_more i 1 0 ∙ ap (λ (x : ℕ). place_after e x 0) z

  listed_same : {A : Type 0} (f g : ℕ → A) (i n : ℕ) → ((j : ℕ) → j < i + n → f j ≡ g j) → listed_from f i n ≡ listed_from g i n
  unfolding listed_from
  listed_same f g i zero h = refl
  listed_same f g i (suc n) h = ap₂ ◌∷◌ (h i (omega arith)) (listed_same f g (suc i) n (λ j l. h j (omega arith)))

  -- an index that holds the place of each word whose number is a multiple of the step
  abbrev pub Right : ℕ → List ℕ → Type 0
  Right count index = (k : ℕ) → k * step_of count < count → get_or index k 0 ≡ place_after e (k * step_of count) 0

  place_right : (count j : ℕ) (index : List ℕ) → Right count index → j < count → place_of e index count j ≡ place_after e j 0
  unfolding place_of
  place_right count j index h l =
      let s : ℕ = step_of count in
      let d : j / s * s + j % s ≡ j = div-add-mod' j s in
      let k : j / s * s < count = omega (arith, d, l) in
      ap (place_after e (j % s)) (h (j / s) k) ∙ after_more (j / s * s) (j % s) 0 ∙ ap (λ (x : ℕ). place_after e x 0) d

  pub words_right : (count : ℕ) (index : List ℕ) → Right count index → words_from e count 0 ≡ words_by e index count
  unfolding words_by word_of
  words_right count index h =
      from_listed 0 count 0 (unfold place_after in refl)
      ∙ listed_same _ _ 0 count (λ j l. ap (word_at e) (sym (place_right count j index h (omega arith))))
