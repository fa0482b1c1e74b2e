-- Laws of the bytes of strings, flags and constants. Assumes nothing.
use mathlib.Core.Path.{◌≡◌, refl}
use Prim.Native.Nat.{ℕ, zero, suc, ◌+◌, ◌≤◌, ◌<◌}
use native.Mathlib.Omega.{arith}
use mathlib.Core.Bool.{cond}
use mathlib.Core.List.{[], ◌∷◌}
use lib.ListN.{length, drop, length-take, length-drop}
use lib.Dec.{ltb, eqb}
use borrow.Author.Tests.{lt-ltb, le-ltb}
use Rattle.layout.specs.Numbers.{le16, bit}
use Rattle.layout.specs.Payload.{zero_ended, constant_bytes}
use Rattle.layout.proofs.Lengths.{length-zero_ended}
use Rattle.editions.specs.declared.MainBody.{MainBody}
use Rattle.pcode.specs.declared.Span.{Span}
use Rattle.pcode.specs.Shown.{span_of, Held}

-- a span within its bytes, with its zero byte
pub length_span : (m : MainBody) (s : Span) → Held m s → length (zero_ended (span_of m s)) ≡ s.len + 1
length_span m s h =
    let l = cond s.from_book m.words.now m.b.now in
    omega (arith, length-zero_ended (span_of m s), length-take s.len (drop s.at l), length-drop s.at l)

-- a flag's bit is the byte that it was read from
pub bit_is : (n : ℕ) → n < 2 → bit (eqb n 1) ≡ n
unfolding bit
bit_is zero h = refl
bit_is (suc zero) h = refl
bit_is (suc (suc n)) h = absurd (omega arith)

-- a constant under 256, and another
pub low_constant : (n : ℕ) → n < 256 → constant_bytes (ltb n 256) n ≡ 8 ∷ n ∷ []
unfolding constant_bytes
low_constant n h = rw (lt-ltb n 256 h)

pub high_constant : (n : ℕ) → 256 ≤ n → constant_bytes (ltb n 256) n ≡ 9 ∷ le16 n
unfolding constant_bytes
high_constant n h = rw (le-ltb n 256 h)
