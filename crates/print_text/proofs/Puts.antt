-- Laws of pieces of text put into a buffer one after the other. Assumes nothing.
use mathlib.Core.Path.{◌≡◌, sym, ◌∙◌}
use Prim.Native.Nat.{ℕ, ◌+◌, ◌-◌, ◌≤◌, ◌<◌}
use native.Mathlib.Omega.{arith}
use mathlib.Core.List.{List, ◌∷◌, ◌++◌}
use lib.ListN.{take, length-append}
use borrow.Author.Tests.{lt-ltb, le-ltb}
use Rattle.io.specs.Digits.{last_digits, IsDigitCount}
use Rattle.stores.proofs.Stores.{sets-append}
use Rattle.layout.specs.Lists.{pick}
use Rattle.layout.specs.Order.{signed64}
use Rattle.print_text.specs.Pieces.{decimal, signed, Put}
use Rattle.print_text.proofs.Decimals.{decimal_is}

-- one piece, and then another
pub put_then : {x y : List ℕ} {at p r : ℕ} {old mid new : List ℕ} → Put x at old mid p → Put y p mid new r → Put (x ++ y) at old new r
put_then {x} {y} {at} {p} {r} {old} {mid} {new} h k =
    record {
      wrote = k.wrote ∙ rw (h.wrote, h.end) (sets-append old at x y);
      end = omega (arith, h.end, k.end, length-append x y);
    }

-- a text by another name
pub put_as : {x y : List ℕ} {at r : ℕ} {old new : List ℕ} → x ≡ y → Put x at old new r → Put y at old new r
put_as {at = at} {r = r} {old = old} {new = new} e h = rw (sym e) h

-- the first k bytes of a list, which are a number's digits
pub put_digits : {n k at r : ℕ} {old new : List ℕ} (d : List ℕ) → IsDigitCount 10 1 n k → take k d ≡ last_digits 10 k n → Put (take k d) at old new r → Put (decimal n) at old new r
put_digits {n} {k} d f e h = put_as (e ∙ decimal_is n k f) h

-- 64 bits that stand for a number that is not negative, and others
pub not_negative : {bits at r : ℕ} {old new : List ℕ} → bits < 9223372036854775808 → Put (decimal bits) at old new r → Put (signed (signed64 bits)) at old new r
unfolding signed signed64 pick
not_negative {bits} l h = rw (lt-ltb bits 9223372036854775808 l) h

pub negative : {bits n at r : ℕ} {old new : List ℕ} → 9223372036854775808 ≤ bits → Put (45 ∷ decimal n) at old new r → n ≡ 18446744073709551615 - bits + 1
    → Put (signed (signed64 bits)) at old new r
unfolding signed signed64 pick
negative {bits} l h e = rw (le-ltb bits 9223372036854775808 l, ← e) h
