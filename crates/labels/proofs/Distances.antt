-- Laws of a label's record, and of a branch's distance and its bits. Assumes nothing.
use mathlib.Core.Path.{◌≡◌, refl, sym}
use mathlib.Core.Bool.{Bool, true, false, false≢true, not, ◌&&◌}
use mathlib.Core.Option.{Option, none, some}
use Prim.Native.Nat.{ℕ, zero, suc, ◌+◌, ◌-◌, ◌%◌, ◌≤◌, ◌<◌}
use native.Mathlib.Omega.{arith}
use borrow.Author.Tests.{lt-ltb, le-ltb, ltb-true, ltb-false, le-leb, lt-leb, ne_eqb}
use lib.Dec.{ltb, leb, eqb}
use Rattle.std.specs.Prelude.{nat_eq}
use lib.IntN.{sub_ℕ}
use Rattle.layout.specs.Numbers.{bits64}
use Rattle.layout.specs.Write.{Position}
use Rattle.layout.specs.Judge.{distance, is_near}
use Rattle.labels.specs.Table.{record_of, is_recorded, homed, is_at_home, is_far}

-- ---- the bits

module _ (to after : ℕ) where
  -- of a distance that is not below 0
  bits_ahead : after ≤ to → bits64 (sub_ℕ to after) ≡ (to - after) % 18446744073709551616
  unfolding bits64
  bits_ahead h = rw (le-ltb to after h)

  -- and of one that is
  bits_back : to < after → bits64 (sub_ℕ to after) ≡ 18446744073709551615 - (after - suc to) % 18446744073709551616
  unfolding bits64
  bits_back h = rw (lt-ltb to after h)

-- ---- a slot's record

pub slot_recorded : (slot : ℕ) → not (nat_eq slot 0) ≡ is_recorded (record_of slot)
unfolding is_recorded record_of
slot_recorded zero = refl
slot_recorded (suc n) = rw (ne_eqb (suc n) 0 (λ z. omega arith)) refl

-- ---- a record's home

pub home_none : (home here : ℕ) (o : Option Position) → not (is_recorded o) ≡ true → true ≡ is_at_home here (homed home o)
unfolding is_recorded is_at_home homed
home_none home here none e = refl
home_none home here (some s) e = absurd (false≢true e)

pub home_some : (home here : ℕ) (o : Option Position) → not (is_recorded o) ≡ false → eqb home here ≡ is_at_home here (homed home o)
unfolding is_recorded is_at_home homed
home_some home here none e = absurd (false≢true (sym e))
home_some home here (some s) e = refl

-- ---- a slot's distance

-- of an empty slot
pub distance_none : (slot after : ℕ) → slot ≡ 0 → 0 ≡ bits64 (distance (record_of slot) after)
unfolding bits64 distance record_of
distance_none slot after h = rw h

-- of a record: the difference, wrapped
pub distance_some : (slot after : ℕ) → (slot ≡ 0 → ⊥) → slot < 18446744073709551616 → after < 18446744073709551616
    → (slot - 1 + (18446744073709551616 - after)) % 18446744073709551616 ≡ bits64 (distance (record_of slot) after)
unfolding distance record_of
distance_some zero after z k h = absurd (z refl)
distance_some (suc n) after z k h = go (ltb n after) refl
  where
    go : (t : Bool) → ltb n after ≡ t → (suc n - 1 + (18446744073709551616 - after)) % 18446744073709551616 ≡ bits64 (sub_ℕ n after)
    go true e = omega (arith, bits_back n after (ltb-true n after e), ltb-true n after e)
    go false e = omega (arith, bits_ahead n after (ltb-false n after e), ltb-false n after e)

-- ---- near and far

-- two tests of which the one passes where the other does not
opposed : (m n o p : ℕ) → (m < n → p < o) → (n ≤ m → o ≤ p) → ltb m n ≡ not (leb o p)
opposed m n o p f g = go (ltb m n) refl
  where
    go : (t : Bool) → ltb m n ≡ t → t ≡ not (leb o p)
    go true e = rw (lt-leb o p (f (ltb-true m n e)))
    go false e = rw (le-leb o p (g (ltb-false m n e)))

-- of a test alone
not_alone : (t : Bool) → (not t && true) ≡ not (t && true)
not_alone true = refl
not_alone false = refl

-- the bits of a distance between positions of 63 bits are far where the distance is not near
pub far_unless_near : (to after : ℕ) → to < 9223372036854775808 → after < 9223372036854775808 → is_far (bits64 (sub_ℕ to after)) ≡ not (is_near to after)
unfolding is_far is_near
far_unless_near to after h k = go (bits64 (sub_ℕ to after)) refl (ltb to after) refl
  where
    go : (bits : ℕ) → bits64 (sub_ℕ to after) ≡ bits → (t : Bool) → ltb to after ≡ t → is_far bits ≡ not (is_near to after)
    go bits e true d =
        let m : to < after = ltb-true to after d in
        let b = bits_back to after m in
        rw (lt-ltb 32767 bits (omega (arith, b)), le-leb to (after + 32767) (omega arith))
        (opposed bits 18446744073709518848 after (to + 32768) (λ l. omega (arith, b)) (λ l. omega (arith, b)))
    go bits e false d =
        let m : after ≤ to = ltb-false to after d in
        let b = bits_ahead to after m in
        rw (
          lt-ltb bits 18446744073709518848 (omega (arith, b)),
          le-leb after (to + 32768) (omega arith),
          opposed 32767 bits to (after + 32767) (λ l. omega (arith, b)) (λ l. omega (arith, b)),
        )
        (not_alone (leb to (after + 32767)))
