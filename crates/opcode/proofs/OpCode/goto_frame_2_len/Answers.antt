-- `OpCode::goto_frame_2_len` meets its contract, whether there is a bias or not. Assumes nothing.
use mathlib.Core.Path.{◌≡◌, refl}
use Prim.Native.Nat.{ℕ, zero, suc}
use Rattle.layout.specs.Lengths.{goto_frame2_length}
use Rattle.opcode.proofs.OpCode.goto_frame_2_len.Goals as goal

-- a bias that is not 0 takes three bytes
some_bias : (n : ℕ) → (n ≡ 0 → ⊥) → 3 ≡ goto_frame2_length n
unfolding goto_frame2_length
some_bias zero h = absurd (h refl)
some_bias (suc n) h = refl

pub returns-then-bias-eq0 : goal.returns-then-bias-eq0
unfolding goto_frame2_length
returns-then-bias-eq0 c = rw c.if-bias-eq0.true

pub returns-else-bias-eq0 : goal.returns-else-bias-eq0
returns-else-bias-eq0 c = some_bias c.args.bias c.if-bias-eq0.false
