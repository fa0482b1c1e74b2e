-- `print_text::put_signed` meets its contract: a number under zero has its sign and its magnitude. Assumes nothing.
use native.Mathlib.Omega.{arith}
use mathlib.Core.List.{[], ◌∷◌}
use Rattle.print_text.proofs.Puts.{put_then, not_negative, negative}
use Rattle.print_text.proofs.put_signed.Goals as goal

pub returns-then-bits-lt9223372036854775808 : goal.returns-then-bits-lt9223372036854775808
returns-then-bits-lt9223372036854775808 c = (not_negative c.if-bits-lt9223372036854775808.true c.put_number.ensures.0, omega (arith, c.put_number.ensures.1))

pub returns : goal.returns
returns c =
    let s = c.store-place.ensures in (
      negative {n = c.wrapping_neg.result} c.if-bits-lt9223372036854775808.false (put_then {x = 45 ∷ []} (record { wrote = s.wrote; end = s.end }) c.put_number-2.ensures.0) (omega (arith, c.wrapping_neg.ensures)),
      omega (arith, s.end, c.put_number-2.ensures.1),
    )
