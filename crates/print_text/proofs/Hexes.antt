-- Laws of the block's lines: digits, what stands behind a byte, and the loop over the bytes. Assumes nothing.
use mathlib.Core.Path.{◌≡◌, refl, sym, ap, ◌∙◌}
use Prim.Native.Nat.{ℕ, ◌+◌, ◌*◌, ◌/◌, ◌%◌, ◌≤◌, ◌<◌}
use native.Mathlib.Numerals.{add-one}
use native.Mathlib.Omega.{arith}
use mathlib.Core.List.{List, [], ◌∷◌, ◌++◌}
use lib.ListN.{length, get_or, drop, drop_of_length-le}
use lib.Seq.{sets, length-sets, drop-cons}
use Rattle.stores.proofs.Stores.{sets-append}
use Rattle.print_text.specs.Pieces.{hex_digit, behind, hex_byte, hex_from, hex_lines, Put}

-- ---- the loop

-- three bytes of text for each byte
length-hex_from : (i n : ℕ) (q : List ℕ) → length (hex_from i n q) ≡ 3 * length q
unfolding hex_from hex_byte
length-hex_from i n [] = refl
length-hex_from i n (b ∷ q) = omega (arith, length-hex_from (i + 1) n q)

pub length-hex_lines : (q : List ℕ) → length (hex_lines q) ≡ 3 * length q
unfolding hex_lines
length-hex_lines q = length-hex_from 0 (length q) q

-- the lines from index i on, while the loop stands at place p: with what is put they give the whole
pub record Going (q : List ℕ) (at : ℕ) (old text : List ℕ) (i p : ℕ) : Type 0 where
  pub within : i ≤ length q
  pub place : p ≡ at + 3 * i
  pub same : length text ≡ length old
  pub wrote : sets text p (hex_from i (length q) (drop i q)) ≡ sets old at (hex_lines q)

pub going_start : (q : List ℕ) (at : ℕ) (old : List ℕ) → Going q at old old 0 at
unfolding hex_lines
going_start q at old = record { within = omega arith; place = omega arith; same = refl; wrote = refl }

-- the rest of a list starts with the byte at its index
rest_of : (q : List ℕ) (i : ℕ) → i < length q → drop i q ≡ get_or q i 0 ∷ drop (i + 1) q
rest_of q i h = rw add-one (drop-cons q i 0 h)

module _ {q : List ℕ} {at : ℕ} {old text : List ℕ} {i p : ℕ} (g : Going q at old text i p) where
  -- the next byte was put
  pub going_on : {x r : ℕ} {new : List ℕ} → i < length q → x ≡ behind i (length q) → Put (hex_digit (get_or q i 0 / 16) ∷ hex_digit (get_or q i 0 % 16) ∷ x ∷ []) p text new r
      → Going q at old new (i + 1) r
  unfolding hex_byte
  going_on {r = r} {new = new} h e k =
      let b : List ℕ = hex_byte i (length q) (get_or q i 0) in
      let rest : List ℕ = hex_from (i + 1) (length q) (drop (i + 1) q) in
      let w : hex_from i (length q) (drop i q) ≡ b ++ rest = rw (rest_of q i h) (unfold hex_from in refl) in
      let put : Put b p text new r = rw (sym e) k in
      record {
        within = omega arith;
        place = omega (arith, g.place, put.end);
        same = ap length put.wrote ∙ length-sets text p b ∙ g.same;
        wrote = rw (put.wrote, put.end) (sets-append text p b rest) ∙ ap (λ (t : List ℕ). sets text p t) (sym w) ∙ g.wrote;
      }

  -- all were
  pub going_end : length q ≤ i → Put (hex_lines q) at old text p
  unfolding hex_lines
  going_end h =
      let z : hex_from i (length q) (drop i q) ≡ [] = rw (drop_of_length-le q {i = i} h) (unfold hex_from in refl) in
      record {
        wrote = rw z at g.wrote;
        end = omega (arith, g.place, g.within, h, length-hex_from 0 (length q) q);
      }
