-- `OpCode::is_listed` meets its contract: the four words have the bits of the definition's test, at all 256 bytes. Assumes nothing.
use mathlib.Core.Path.{◌≡◌, ap, ◌∙◌}
use Prim.Native.Nat.{ℕ, ◌*◌, ◌/◌, ◌%◌, ◌^◌}
use native.Mathlib.Omega.{arith}
use lib.Dec.{eqb}
use Rattle.layout.specs.Numbers.{bit}
use Rattle.layout.specs.Lists.{each, first_with, pick}
use Rattle.layout.specs.OpCode.{opcode_of, opcodes, small_op_codes, byte, small_byte}
use Rattle.opcode.specs.Listed.{listed, is_some}
use Rattle.opcode.proofs.Words.{word, word_at}
use Rattle.opcode.proofs.OpCode.is_listed.Goals as goal
use Rattle.opcode.proofs.OpCode.is_listed.Goals.{in-0, in-1, in-2, in_default}

-- a word of the test's bits at the 64 opcodes from 64 * k on has the bit of each of them
in-word : {w : ℕ} (k op : ℕ) → w ≡ word listed (64 * k) 64 → op / 64 ≡ k → eqb (w / 2 ^ (op % 64) % 2) 1 ≡ listed op
in-word k op e d = ap (λ w. eqb (w / 2 ^ (op % 64) % 2) 1) e ∙ word_at listed (64 * k) 64 (op % 64) op (omega arith) (omega arith)

pub returns : goal.returns
unfolding listed is_some opcode_of opcodes small_op_codes byte small_byte each first_with pick word bit
returns c =
    let op : ℕ = c.args.op in
    elim c.match-op-div64.branch [
      | in-0 w ↦ in-word 0 op w.word-is w.in-0.is
      | in-1 w ↦ in-word 1 op w.word-is w.in-1.is
      | in-2 w ↦ in-word 2 op w.word-is w.in-2.is
      | in_default w ↦ in-word 3 op w.word-is (omega arith)
    ]
