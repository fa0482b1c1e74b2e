-- The order of the answers, one allowed outcome for each input, and what the lent slice of 16 bytes says read back from it.
-- Assumes nothing.
use Rattle.std.specs.Prelude.{ℕ, ◌-◌, ◌<◌, ℤ, pos, negsuc, ltb}
use Rattle.layout.specs.Lists.{pick}

-- ---- eight bytes say the value

-- an i64 holds it
pub data IsI64 : ℤ → Type 0 where
  zero_up : {n : ℕ} → n < 9223372036854775808 → IsI64 (pos n)
  below : {n : ℕ} → n < 9223372036854775808 → IsI64 (negsuc n)

-- the signed number that 64 bits stand for
unfoldable pub signed64 : ℕ → ℤ
signed64 w = pick (ltb w 9223372036854775808) (pos w) (negsuc (18446744073709551615 - w))
