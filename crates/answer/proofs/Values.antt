-- The 64 bits of an answer's value. Assumes nothing.
use mathlib.Core.Path.{◌≡◌, refl}
use Prim.Native.Nat.{ℕ, ◌-◌, ◌<◌}
use native.Mathlib.Omega.{arith}
use mathlib.Core.Bool.{Bool, true, false}
use lib.IntN.{pos, negsuc}
use lib.Dec.{ltb}
use Rattle.layout.specs.Lists.{pick}
use Rattle.layout.specs.Numbers.{bits64}
use Rattle.layout.specs.Order.{signed64}

-- of a length or a place
pub natural_bits : (n : ℕ) → n < 18446744073709551616 → n ≡ bits64 (pos n)
unfolding bits64
natural_bits n h = omega (arith, h)

-- of a distance, which is told by them
pub signed_bits : (n : ℕ) → n < 18446744073709551616 → n ≡ bits64 (signed64 n)
unfolding signed64
signed_bits n h = go (ltb n 9223372036854775808) refl
  where
    go : (t : Bool) → ltb n 9223372036854775808 ≡ t → n ≡ bits64 (pick t (pos n) (negsuc (18446744073709551615 - n)))
    go true e = unfold pick in natural_bits n h
    go false e = unfold pick bits64 in omega (arith, h)
