-- Laws of runs of stores, of which none asks that a run fits, and of the bytes of numbers. Assumes nothing.
use mathlib.Core.Path.{◌≡◌, ap, ◌∙◌}
use Prim.Native.Nat.{ℕ, suc, ◌+◌, ◌/◌, ◌%◌, ◌<◌}
use native.Mathlib.Nat.{add-zero, suc-add, add-suc}
use native.Mathlib.Numerals.{add-one}
use native.Mathlib.Omega.{arith}
use mathlib.Core.List.{List, [], ◌∷◌, ◌++◌, append-nil}
use lib.ListN.{length, get_or, take, drop, set, length-take}
use lib.Seq.{sets, sets-eq, take-suc, drop-length}
use Rattle.layout.specs.Numbers.{le16, le32, le64}

-- One run after another is one run.
pub sets-append : (l : List ℕ) (i : ℕ) (a b : List ℕ) → sets (sets l i a) (i + length a) b ≡ sets l i (a ++ b)
sets-append l i [] b = rw add-zero
sets-append l i (x ∷ a) b = rw (add-suc, ← suc-add) (sets-append (set l i x) (suc i) a b)

-- After the first n bytes of s, the store of the next one gives a run that is one longer.
pub copy_more : {m : List ℕ} (l s : List ℕ) (i n : ℕ) → n < length s → m ≡ sets l i (take n s) → set m (i + n) (get_or s n 0) ≡ sets l i (take (n + 1) s)
copy_more l s i n h e =
    let k : length (take n s) ≡ n = simp length-take (omega arith) in
    let x : set (sets l i (take n s)) (i + n) (get_or s n 0) ≡ sets l i (take n s ++ (get_or s n 0 ∷ [])) = rw k at (sets-append l i (take n s) (get_or s n 0 ∷ [])) in
    rw (e, add-one, take-suc s n 0 h) x

-- A run as long as what it is written over.
pub filled : (l vs : List ℕ) → length vs ≡ length l → sets l 0 vs ≡ vs
filled l vs e = sets-eq vs l 0 (omega arith) ∙ ap (λ (n : ℕ). vs ++ drop n l) (over e) ∙ ap (λ (x : List ℕ). vs ++ x) (drop-length l) ∙ append-nil vs
  where
    over : length vs ≡ length l → 0 + length vs ≡ length l
    over e = omega arith

-- The bytes of a number are those of its low sixteen bits.
pub le16_low : (n : ℕ) → le16 (n % 65536) ≡ le16 n
unfolding le16
le16_low n =
    let low : n % 65536 % 256 ≡ n % 256 = omega arith in
    let high : n % 65536 / 256 % 256 ≡ n / 256 % 256 = omega arith in
    rw (low, high)

-- A u32 is its low half and its high half.
pub le32_halves : (n : ℕ) → n < 4294967296 → le16 (n % 65536) ++ le16 (n / 65536) ≡ le32 n
unfolding le32
le32_halves n h = let e : n / 65536 ≡ n / 65536 % 65536 = omega arith in ap (λ (k : ℕ). le16 (n % 65536) ++ le16 k) e

-- A u64 is its low half and its high half.
pub le64_halves : (n : ℕ) → n < 18446744073709551616 → le32 (n % 4294967296) ++ le32 (n / 4294967296) ≡ le64 n
unfolding le64
le64_halves n h = let e : n / 4294967296 ≡ n / 4294967296 % 4294967296 = omega arith in ap (λ (k : ℕ). le32 (n % 4294967296) ++ le32 k) e
