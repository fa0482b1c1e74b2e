-- The digits that `io::decimal` makes are those of the definition. Assumes nothing.
use mathlib.Core.Path.{◌≡◌, refl, ap, ◌∙◌}
use Prim.Native.Nat.{ℕ, zero, suc, ◌+◌, ◌-◌, ◌/◌, ◌%◌, ◌^◌, ◌≤◌, ◌<◌}
use native.Mathlib.Nat.{add-suc, pow-suc}
use native.Mathlib.Numerals.{sub-one}
use native.Mathlib.Omega.{arith}
use mathlib.Core.Bool.{Bool, true, false}
use mathlib.Core.List.{[], ◌∷◌, ◌++◌}
use lib.Dec.{leb}
use borrow.Author.Tests.{lt-ltb, le-ltb, leb-true, leb-false}
use Rattle.io.specs.Digits.{last_digits, hex_digit_ascii, IsDigitCount}
use Rattle.layout.specs.Lists.{pick}
use Rattle.print_text.specs.Pieces.{last_digit, digits_within, decimal}

-- the glyph of a decimal digit
glyph_is : (n : ℕ) → hex_digit_ascii (n % 10) ≡ last_digit n
unfolding last_digit
glyph_is n = rw (lt-ltb (n % 10) 10 (omega arith)) refl

-- a number of one digit, and one of more
one_digit : (more n : ℕ) → n < 10 → digits_within more n ≡ last_digit n ∷ []
unfolding digits_within pick
one_digit zero n h = refl
one_digit (suc more) n h = rw (lt-ltb n 10 h) refl

more_digits : (more n : ℕ) → 10 ≤ n → digits_within (suc more) n ≡ digits_within more (n / 10) ++ (last_digit n ∷ [])
unfolding digits_within pick
more_digits more n h = rw (le-ltb n 10 h) refl

-- the fewest digits that hold a tenth are one fewer
tenth : (n k : ℕ) → IsDigitCount 10 1 n (suc (suc k)) → IsDigitCount 10 1 (n / 10) (suc k)
tenth n k (a, b, c) =
    let p = pow-suc 10 (suc k) in
    (omega arith, omega (arith, p, b), λ h. go k h c)
  where
    go : (k : ℕ) → 1 < suc k → (1 < suc (suc k) → 10 ^ (suc (suc k) - 1) ≤ n) → 10 ^ (suc k - 1) ≤ n / 10
    go k h c =
        let p = pow-suc 10 k in
        let q = rw sub-one at (c (omega arith)) in
        rw sub-one (omega (arith, p, q))

-- a number of two digits or more is ten or more
ten : (n k : ℕ) → IsDigitCount 10 1 n (suc (suc k)) → 10 ≤ n
ten n k (a, b, c) =
    let p = pow-suc 10 k in
    let q = rw sub-one at (c (omega arith)) in
    omega (arith, p, q, power k)
  where
    power : (k : ℕ) → 1 ≤ 10 ^ k
    power zero = omega arith
    power (suc k) = omega (arith, pow-suc 10 k, power k)

within : (k more n : ℕ) → n ≤ more → IsDigitCount 10 1 n k → last_digits 10 k n ≡ digits_within more n
within zero more n h f = absurd (omega (arith, f.0))
within (suc zero) more n h f = ap (λ (d : ℕ). d ∷ []) (glyph_is n) ∙ rw (one_digit more n (omega (arith, f.1))) refl
within (suc (suc k)) zero n h f = absurd (omega (arith, ten n k f))
within (suc (suc k)) (suc more) n h f =
    let i : last_digits 10 (suc k) (n / 10) ≡ digits_within more (n / 10) = within (suc k) more (n / 10) (omega (arith, ten n k f)) (tenth n k f) in
    rw (more_digits more n (ten n k f), glyph_is n, i) refl

-- the fewest digits are the number's
pub decimal_is : (n k : ℕ) → IsDigitCount 10 1 n k → last_digits 10 k n ≡ decimal n
unfolding decimal
decimal_is n k f = within k n n (omega arith) f

-- and those of a 64-bit number are at most twenty
pub at_most_twenty : (n k : ℕ) → n < 18446744073709551616 → IsDigitCount 10 1 n k → k ≤ 20
at_most_twenty n k h f = go (leb k 20) refl
  where
    -- twenty-one digits or more are too large a number
    over : (j : ℕ) → 100000000000000000000 ≤ 10 ^ (20 + j)
    over zero = omega arith
    over (suc j) = rw add-suc (omega (arith, pow-suc 10 (20 + j), over j))

    go : (t : Bool) → leb k 20 ≡ t → k ≤ 20
    go true e = leb-true k 20 e
    go false e =
        let l : 20 < k = leb-false k 20 e in
        let i : k - 1 ≡ 20 + (k - 21) = omega arith in
        let p : 10 ^ (k - 1) ≤ n = f.2 (omega arith) in
        absurd (omega (arith, rw i at p, over (k - 21)))
