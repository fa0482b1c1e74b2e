-- `print_text::put_number` meets its contract: the digits of `io::decimal` are the number's, and at most twenty. Assumes nothing.
use native.Mathlib.Omega.{arith}
use Rattle.print_text.proofs.Decimals.{at_most_twenty}
use Rattle.print_text.proofs.Puts.{put_digits}
use Rattle.print_text.proofs.put_number.Goals as goal

pub returns : goal.returns
returns c =
    let d = c.decimal-k.ensures in
    let s = c.store.ensures in
    (put_digits _ d.len d.digits (record { wrote = s.wrote; end = s.end }), omega (arith, at_most_twenty _ _ (omega arith) d.len, d.in_bounds.1, s.end))
