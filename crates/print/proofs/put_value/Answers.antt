-- `print::put_value` meets its contract: the bits of 10 with their sign, those of other numbers as they are. Assumes nothing.
use native.Mathlib.Omega.{arith}
use Rattle.print.proofs.Texts.{put_distance, put_natural}
use Rattle.print.proofs.put_value.Goals as goal

pub returns-then-number-eq10 : goal.returns-then-number-eq10
returns-then-number-eq10 c = (put_distance _ c.if-number-eq10.true c.put_signed.ensures.0, c.put_signed.ensures.1)

pub returns : goal.returns
returns c = (put_natural _ c.if-number-eq10.false c.put_number.ensures.0, omega (arith, c.put_number.ensures.1))
