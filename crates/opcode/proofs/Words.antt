-- A test's values as the bits of a word: bit k is 1 where the test passes. Assumes nothing.
use mathlib.Core.Path.{◌≡◌, ap, ◌∙◌, sym}
use Prim.Native.Nat.{ℕ, zero, suc, ◌+◌, ◌*◌, ◌/◌, ◌%◌, ◌^◌, ◌<◌}
use native.Mathlib.Nat.{pow-succ', div-div-eq-div-mul}
use native.Mathlib.Omega.{arith}
use mathlib.Core.Bool.{Bool, true, false}
use lib.Dec.{eqb}
use Rattle.layout.specs.Numbers.{bit}

-- what the test f says at n numbers from i on, the first in the lowest bit
unfoldable pub word : (ℕ → Bool) → ℕ → ℕ → ℕ
word f i zero = 0
word f i (suc n) = bit (f i) + 2 * word f (suc i) n

-- the lowest bit is 1 if the test passes at the first number
lowest : (t : Bool) (w : ℕ) → eqb ((bit t + 2 * w) / 1 % 2) 1 ≡ t
unfolding bit
lowest true w =
    let low : (1 + 2 * w) / 1 % 2 ≡ 1 = omega arith in
    rw low
lowest false w =
    let low : (0 + 2 * w) / 1 % 2 ≡ 0 = omega arith in
    rw low

-- above it stands the word of the other numbers
above : (t : Bool) (w : ℕ) → (bit t + 2 * w) / 2 ≡ w
unfolding bit
above true w = omega arith
above false w = omega arith

-- bit k is 1 if the test passes at i + k
pub word_at : (f : ℕ → Bool) (i n k j : ℕ) → k < n → i + k ≡ j → eqb (word f i n / 2 ^ k % 2) 1 ≡ f j
unfolding word
word_at f i zero k j l e = absurd (omega arith)
word_at f i (suc n) zero j l e =
    let same : i ≡ j = omega arith in
    lowest (f i) (word f (suc i) n) ∙ ap f same
word_at f i (suc n) (suc k) j l e =
    let w : ℕ = word f i (suc n) in
    let shifted : w / 2 ^ suc k ≡ word f (suc i) n / 2 ^ k = ap (λ m. w / m) (pow-succ' 2 k) ∙ sym (div-div-eq-div-mul w 2 (2 ^ k)) ∙ ap (λ m. m / 2 ^ k) (above (f i) (word f (suc i) n)) in
    ap (λ m. eqb (m % 2) 1) shifted ∙ word_at f (suc i) n k j (omega arith) (omega arith)
