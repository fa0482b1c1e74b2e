-- What is written is the text of what was read. Assumes nothing.
use native.Mathlib.Omega.{arith}
use Rattle.print.proofs.Sent.{sent}
use Rattle.print.proofs.answer_reader.Goals as goal

pub write_text-requires : goal.write_text-requires
write_text-requires g c = (omega (arith, c.in_ok-input.ensures.within), omega (arith, c.in_ok-out.ensures.len), record { room = omega (arith, c.in_ok-text.ensures); small = omega (arith, c.in_ok-text.ensures) })

pub returns : goal.returns
returns g c = sent _ _ _ _ _ _ c.write_text.ensures c.deref.ensures.value c.in_ok-input.ensures.bytes
