-- What source 000's patch_labels does: it puts every branch's bits in place, or ends at the first branch that goes too far.
-- Assumes nothing.
use Rattle.std.specs.Prelude.{Bool, ℤ}
use Prim.Native.Nat.{ℕ}
use Rattle.std.proofs.Math.Bool.{true, false}
use Rattle.std.proofs.Math.Option.{Option, none, some}
use Rattle.std.proofs.Math.IntN.{sub_ℕ}
use Rattle.layout.specs.Write.{Position}
use Rattle.layout.specs.Judge.{is_near}
use Rattle.agreement.specs.Source.{EncoderError, JumpOffsetOverflow, Result, err}

-- ---- the table of labels

-- the later of two records of a label
abbrev pub position_of : Option ℕ → Option Position → Option ℕ
position_of o none = o
position_of o (some s) = some s.at

-- ---- one offset

-- JumpOffsetOverflow, unless the branch is near
unfoldable pub far_if : Bool → ℤ → Option EncoderError
far_if true offset = none
far_if false offset = some (JumpOffsetOverflow offset)

-- by its label's record and the position after its operand
unfoldable pub far_branch : Option Position → ℕ → Option EncoderError
far_branch none p = none
far_branch (some s) p = far_if (is_near s.at p) (sub_ℕ s.at p)

-- an error, or else a result
unfoldable pub or_err : Option EncoderError → Result → Result
or_err none r = r
or_err (some x) r = err x
