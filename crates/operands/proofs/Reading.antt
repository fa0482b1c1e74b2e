-- Laws of the fields' readers by cases, in the shape of the code's tests. Assumes nothing.
use mathlib.Core.Path.{◌≡◌, refl, sym, ap, ◌∙◌}
use Prim.Native.Nat.{ℕ, zero, suc, ◌+◌, ◌≤◌, ◌<◌}
use native.Mathlib.Omega.{arith}
use mathlib.Core.Bool.{Bool, true, false}
use mathlib.Core.Option.{Option, none, some, none-ne-some}
use mathlib.Core.List.{List, [], ◌∷◌}
use lib.ListN.{length, get_or, drop, length-drop}
use lib.Seq.{length-take-le}
use lib.Dec.{leb, eqb}
use borrow.Author.Tests.{le-leb, lt-leb, lt-ltb, le-ltb, eqb-true}
use Rattle.layout.specs.Numbers.{u16_at}
use Rattle.layout.specs.Answers.{CutShort, BadField}
use Rattle.layout.specs.Read.{plain, in_book, Words, Terms, ahead, placed, stop, got, bad, if_whole, if_within, tested, first_zero, if_no_zero, read_u8, read_u16, read_bytes, read_flag, read_spelling, read_plain, read_word, read_text, read_string, read_label}
use Rattle.layout.specs.Lengths.{string_length}
use Rattle.layout.specs.Pack.{spelling}
use Rattle.fields.specs.Runs.{part, nul_or, first_nul}
use Rattle.positions.specs.declared.Fault.TheVariants as fault
use Rattle.positions.specs.Scanned.{fault_of, stops_at, scanned}
use Rattle.std.specs.Prelude.{Result, Ok, Some, None}
use Rattle.positions.specs.declared.Spot.{Spot}
use Rattle.positions.specs.declared.Stop.{Stop}
use Rattle.editions.specs.Words.{words_by, words_if}
use Rattle.editions.specs.Allowed.{terms_of}
use Rattle.editions.specs.declared.Terms as code
use Rattle.operands.specs.Operands.{string_size}
use Rattle.operands.proofs.Scans.{ends, stops, from_spot}

-- ---- numbers and runs: whole, or cut short at their first byte

module _ (b : List ℕ) (at : ℕ) where
  whole : {A : Type 0} (n : ℕ) (a : A) → at + n ≤ length b → if_whole (leb (at + n) (length b)) (placed at) a (ahead n (placed at)) ≡ got a (placed (at + n))
  unfolding if_whole
  whole n a h = rw (le-leb (at + n) (length b) h)

  cut : {A : Type 0} (n : ℕ) (a : A) → length b < at + n → if_whole (leb (at + n) (length b)) (placed at) a (ahead n (placed at)) ≡ bad CutShort (stop (placed at))
  unfolding if_whole
  cut n a h = rw (lt-leb (at + n) (length b) h)

  pub u8_in : at + 1 ≤ length b → read_u8 b (placed at) ≡ got (get_or b at 0) (placed (at + 1))
  unfolding read_u8
  u8_in h = whole 1 _ h

  pub u8_out : length b < at + 1 → read_u8 b (placed at) ≡ bad CutShort (stop (placed at))
  unfolding read_u8
  u8_out h = cut 1 _ h

  pub u16_in : at + 2 ≤ length b → read_u16 b (placed at) ≡ got (u16_at b at) (placed (at + 2))
  unfolding read_u16
  u16_in h = whole 2 _ h

  pub u16_out : length b < at + 2 → read_u16 b (placed at) ≡ bad CutShort (stop (placed at))
  unfolding read_u16
  u16_out h = cut 2 _ h

  pub bytes_in : (n : ℕ) → at + n ≤ length b → read_bytes b n (placed at) ≡ got (part b at n) (placed (at + n))
  unfolding read_bytes
  bytes_in n h = whole n _ h

  pub bytes_out : (n : ℕ) → length b < at + n → read_bytes b n (placed at) ≡ bad CutShort (stop (placed at))
  unfolding read_bytes
  bytes_out n h = cut n _ h

  -- ---- a flag

  pub flag_out : length b < at + 1 → read_flag b (placed at) ≡ bad CutShort (stop (placed at))
  unfolding read_flag tested
  flag_out h = rw (u8_out h)

  pub flag_big : at + 1 ≤ length b → 1 < get_or b at 0 → read_flag b (placed at) ≡ bad BadField (stop (placed at))
  unfolding read_flag tested if_within
  flag_big h k =
      let l : 2 ≤ get_or b at 0 = omega arith in
      rw (u8_in h, le-ltb (get_or b at 0) 2 l)

  pub flag_in : at + 1 ≤ length b → get_or b at 0 ≤ 1 → read_flag b (placed at) ≡ got (eqb (get_or b at 0) 1) (placed (at + 1))
  unfolding read_flag tested if_within
  flag_in h k =
      let l : get_or b at 0 < 2 = omega arith in
      rw (u8_in h, lt-ltb (get_or b at 0) 2 l)

-- ---- a label number, not under `least`: a branch's, with 0, or an entry's

module _ (k : Terms) (b : List ℕ) (at : ℕ) where
  pub label_out : (least : ℕ) → length b < at + 2 → read_label k b least (placed at) ≡ bad CutShort (stop (placed at))
  unfolding read_label tested
  label_out least h = rw (u16_out b at h)

  pub label_big : (least : ℕ) → at + 2 ≤ length b → k.label_bound ≤ u16_at b at → read_label k b least (placed at) ≡ bad BadField (stop (placed at))
  unfolding read_label tested if_within
  label_big least h m = rw (u16_in b at h, le-ltb (u16_at b at) k.label_bound m)

  pub label_low : (least : ℕ) → at + 2 ≤ length b → u16_at b at < k.label_bound → u16_at b at < least → read_label k b least (placed at) ≡ bad BadField (stop (placed at))
  unfolding read_label tested if_within
  label_low least h l m = rw (u16_in b at h, lt-ltb (u16_at b at) k.label_bound l, lt-leb least (u16_at b at) m)

  pub label_in : (least : ℕ) → at + 2 ≤ length b → u16_at b at < k.label_bound → least ≤ u16_at b at → read_label k b least (placed at) ≡ got (u16_at b at) (placed (at + 2))
  unfolding read_label tested if_within
  label_in least h l m = rw (u16_in b at h, lt-ltb (u16_at b at) k.label_bound l, le-leb least (u16_at b at) m)

-- ---- a string

-- where the first zero byte stands, and that there is none
nul_at : (i n : ℕ) (o : Option ℕ) → ((z : ℕ) → o ≡ some z → z < n) → nul_or i n o < i + n → (z : ℕ) × (o ≡ some z) × (nul_or i n o ≡ i + z)
unfolding nul_or
nul_at i n none h l = absurd (omega arith)
nul_at i n (some z) h l = (z, refl, refl)

nul_none : (i n : ℕ) (o : Option ℕ) → ((z : ℕ) → o ≡ some z → z < n) → i + n ≤ nul_or i n o → o ≡ none
unfolding nul_or
nul_none i n none h l = refl
nul_none i n (some z) h l = absurd (omega (arith, h z refl))

zero_before : (m : ℕ) (s : List ℕ) (z : ℕ) → first_zero m s ≡ some z → z < m + length s
unfolding first_zero
zero_before m [] z e =
    let y : ◌≡◌ {A = ℕ} 0 1 = cc in
    absurd (omega arith)
zero_before m (zero ∷ s) z e =
    let same : m ≡ z = cc in
    omega arith
zero_before m (suc x ∷ s) z e = omega (arith, zero_before (suc m) s z e)

-- its bytes, n of them, none zero: here they have no length before them
module _ (b : List ℕ) (at n : ℕ) where
  pub spelling_out : length b < at + n → read_spelling b n (placed at) ≡ bad CutShort (stop (placed at))
  unfolding read_spelling
  spelling_out l = rw (bytes_out b at n l)

  module _ (l : at + n ≤ length b) where
    pub spelling_length : length (part b at n) ≡ n
    spelling_length = length-take-le n (drop at b) (simp length-drop (omega arith))

    within : (z : ℕ) → first_zero 0 (part b at n) ≡ some z → z < n
    within z e = omega (arith, zero_before 0 (part b at n) z e, spelling_length)

    pub spelling_nul : first_nul b at n < at + n → read_spelling b n (placed at) ≡ bad BadField (stop (placed (first_nul b at n)))
    unfolding read_spelling if_no_zero first_nul
    spelling_nul m =
        let n = nul_at at n (first_zero 0 (part b at n)) within m in
        go n.0 n.1 n.2
      where
        go : (z : ℕ) → first_zero 0 (part b at n) ≡ some z → nul_or at n (first_zero 0 (part b at n)) ≡ at + z
            → read_spelling b n (placed at) ≡ bad BadField (stop (placed (nul_or at n (first_zero 0 (part b at n)))))
        go z x y = rw (y, bytes_in b at n l, x)

    pub spelling_in : at + n ≤ first_nul b at n → read_spelling b n (placed at) ≡ got (part b at n) (placed (at + n))
    unfolding read_spelling if_no_zero first_nul
    spelling_in m = rw (bytes_in b at n l, nul_none at n (first_zero 0 (part b at n)) within m)

-- by its bytes
module _ (b : List ℕ) (at n : ℕ) where
  pub plain_out : length b < at + n → read_plain b n (placed at) ≡ bad CutShort (stop (placed at))
  unfolding read_plain
  plain_out l = rw (spelling_out b at n l)

  module _ (l : at + n ≤ length b) where
    pub plain_nul : first_nul b at n < at + n → read_plain b n (placed at) ≡ bad BadField (stop (placed (first_nul b at n)))
    unfolding read_plain
    plain_nul m = rw (spelling_nul b at n l m)

    pub plain_in : at + n ≤ first_nul b at n → read_plain b n (placed at) ≡ got (plain (part b at n)) (placed (at + n))
    unfolding read_plain
    plain_in m = rw (spelling_in b at n l m)

-- by the number of a word
module _ (b : List ℕ) (ws : Words) (at : ℕ) where
  pub word_out : length b < at + 2 → read_word b ws (placed at) ≡ bad CutShort (stop (placed at))
  unfolding read_word tested
  word_out h = rw (u16_out b at h)

  pub word_past : at + 2 ≤ length b → length ws ≤ u16_at b at → read_word b ws (placed at) ≡ bad BadField (stop (placed at))
  unfolding read_word tested if_within
  word_past h m = rw (u16_in b at h, le-ltb (u16_at b at) (length ws) m)

  pub word_in : at + 2 ≤ length b → u16_at b at < length ws → read_word b ws (placed at) ≡ got (in_book (u16_at b at) (get_or ws (u16_at b at) [])) (placed (at + 2))
  unfolding read_word tested if_within
  word_in h m = rw (u16_in b at h, lt-ltb (u16_at b at) (length ws) m)

-- which of the two it is
module _ (k : Terms) (b : List ℕ) (at : ℕ) where
  pub string_out : length b < at + 2 → read_string k b (placed at) ≡ bad CutShort (stop (placed at))
  unfolding read_string
  string_out h = rw (u16_out b at h)

  text_is : at + 2 ≤ length b → read_string k b (placed at) ≡ read_text b k.words (eqb (u16_at b at) 65535) (u16_at b at) (placed (at + 2))
  unfolding read_string
  text_is h = rw (u16_in b at h)

  pub string_word : (ws : Words) → at + 2 ≤ length b → k.words ≡ some ws → u16_at b at ≡ 65535 → read_string k b (placed at) ≡ read_word b ws (placed (at + 2))
  string_word ws h e n = text_is h ∙ (unfold read_text in rw (e, n))

  pub string_plain : at + 2 ≤ length b → (u16_at b at ≡ 65535 → k.words ≡ none) → read_string k b (placed at) ≡ read_plain b (u16_at b at) (placed (at + 2))
  string_plain h e = text_is h ∙ go k.words (eqb (u16_at b at) 65535) refl refl
    where
      go : (o : Option Words) (t : Bool) → k.words ≡ o → eqb (u16_at b at) 65535 ≡ t → read_text b o t (u16_at b at) (placed (at + 2)) ≡ read_plain b (u16_at b at) (placed (at + 2))
      go none t f g = unfold read_text in refl
      go (some ws) true f g = absurd (none-ne-some ws (sym (e (eqb-true _ _ g)) ∙ f))
      go (some ws) false f g = unfold read_text in refl

-- as the code answers, which holds the zero byte's place in z
module _ (b : List ℕ) (at pos n z : ℕ) (l : at + n ≤ length b) (f : z ≡ first_nul b at n) where
  pub scan_nul : z < at + n → stops_at z fault.BadField ≡ scanned string_size pos (read_plain b n (placed at))
  unfolding fault_of
  scan_nul m = stops string_size pos (plain_nul b at n l (omega arith) ∙ ap (λ (x : ℕ). bad BadField (stop (placed x))) (sym f))

  pub scan_text : {s : Spot} → at + n ≤ z → s.at ≡ at + n → s.pos.0 ≡ pos + (n + 1) → Ok s ≡ scanned string_size pos (read_plain b n (placed at))
  unfolding string_size string_length spelling
  scan_text m g k = ends string_size pos (plain_in b at n l (omega arith)) g (omega (arith, spelling_length b at n l))

-- and the length of the word in n
module _ (b : List ℕ) (ws : Words) (at pos i n : ℕ) (h : at + 2 ≤ length b) (e : i ≡ u16_at b at) where
  pub scan_past : length ws ≤ i → stops_at at fault.BadField ≡ scanned string_size pos (read_word b ws (placed at))
  unfolding fault_of
  scan_past m = stops string_size pos (word_past b ws at h (omega arith))

  pub scan_named : {s : Spot} → i < length ws → n ≡ length (get_or ws i []) → s.at ≡ at + 2 → s.pos.0 ≡ pos + (n + 1) → Ok s ≡ scanned string_size pos (read_word b ws (placed at))
  unfolding string_size string_length spelling
  scan_named m k f g = ends string_size pos (word_in b ws at h (omega arith)) f (g ∙ ap (λ (x : ℕ). pos + (x + 1)) (k ∙ ap (λ (j : ℕ). length (get_or ws j [])) e))

-- as the code chooses, which holds the length in n, goes on at the spot p and gives r
module _ (b : List ℕ) (at pos n : ℕ) (t : code.Terms) (e index : List ℕ) {r : Result Spot Stop} (p : Spot) (h : at + 2 ≤ length b) (k : n ≡ u16_at b at) (q : p.at ≡ at + 2) (w : p.pos.0 ≡ pos + 0) where
  pub as_word : (count : ℕ) → t.word_count ≡ Some count → n ≡ 65535 → r ≡ scanned string_size p.pos.0 (read_word b (words_by e index count) (placed p.at))
      → r ≡ scanned string_size pos (read_string (terms_of t e index) b (placed at))
  unfolding words_if
  as_word count g f i =
      from_spot string_size (read_word b (words_by e index count)) q (omega (arith, w)) i
      ∙ ap (scanned string_size pos) (sym (string_word (terms_of t e index) b at (words_by e index count) h (rw g) (sym k ∙ f)))

  pub as_plain : (n ≡ 65535 → t.word_count ≡ None) → r ≡ scanned string_size p.pos.0 (read_plain b n (placed p.at))
      → r ≡ scanned string_size pos (read_string (terms_of t e index) b (placed at))
  unfolding words_if
  as_plain g i =
      from_spot string_size (read_plain b n) q (omega (arith, w)) i
      ∙ ap (scanned string_size pos) (ap (λ (x : ℕ). read_plain b x (placed (at + 2))) k ∙ sym (string_plain (terms_of t e index) b at h (λ f. rw (g (k ∙ f)))))
