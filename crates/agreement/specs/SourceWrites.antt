-- What each function of source 000's ActionEncoder writes before patch_labels: the definitions' events, and their bytes with
-- every branch still 0. Assumes nothing.
use Prim.Native.Nat.{ℕ, ◌-◌}
use Rattle.agreement.specs.Source.{Writing, output_len, write_u16, write_block_length_at, patch_sizes, ◌>>◌, ◌>>=◌}

-- ---- a body, its length before it

-- write_with, write_define_function and write_define_function_2 from length_offset on
abbrev pub block_tail : Writing → Writing
block_tail w = do
  length-offset ← output_len
  write_u16 0
  length_before ← output_len
  w
  length-after ← output_len
  write_block_length_at length-offset length_before length-after

-- ---- Try's three bodies, their lengths before them

-- write_try from try_offset on
abbrev pub try_tail : Writing → Writing → Writing → Writing → Writing
try_tail target w₁ w₂ w₃ = do
  try-offset ← output_len
  write_u16 0
  catch-offset ← output_len
  write_u16 0
  finally-offset ← output_len
  write_u16 0
  target
  len-before-try ← output_len
  w₁
  len-before-catch ← output_len
  w₂
  len-before-finally ← output_len
  w₃
  len-at-end ← output_len
  patch_sizes try-offset catch-offset finally-offset len-before-try len-before-catch len-before-finally len-at-end

-- ---- branches

-- a branch's bits before patch_labels
abbrev pub blank : ℕ → ℕ → ℕ
blank l p = 0
