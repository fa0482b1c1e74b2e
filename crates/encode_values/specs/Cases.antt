-- What the code's cases of a push value are written as. Assumes nothing.
use Rattle.std.specs.Prelude.{List, ℕ, [], ◌∷◌, ltb}
use Rattle.layout.specs.Numbers.{le32}
use Rattle.layout.specs.Payload.{zero_ended, constant_bytes, double_bytes}
use Rattle.editions.specs.declared.MainBody.{MainBody}
use Rattle.pcode.specs.declared.PushValue.{PushValue}
use Rattle.pcode.specs.declared.PushValue.TheVariants.{String, Null, Undefined, Register, Boolean, Float, Integer, Constant}
use Rattle.pcode.specs.Shown.{span_of, Held}

module _ (m : MainBody) where
  -- the bytes of a case
  abbrev pub case_bytes : PushValue → List ℕ
  case_bytes (String s) = 0 ∷ zero_ended (span_of m s)
  case_bytes Null = 2 ∷ []
  case_bytes Undefined = 3 ∷ []
  case_bytes (Register r) = 4 ∷ r ∷ []
  case_bytes (Boolean n) = 5 ∷ n ∷ []
  case_bytes (Float w) = 6 ∷ double_bytes w
  case_bytes (Integer w) = 7 ∷ le32 w
  case_bytes (Constant i) = constant_bytes (ltb i 256) i

  -- its string, if it has one, is held
  abbrev pub CaseHeld : PushValue → Type 0
  CaseHeld (String s) = Held m s
  CaseHeld Null = Unit {0}
  CaseHeld Undefined = Unit {0}
  CaseHeld (Register r) = Unit {0}
  CaseHeld (Boolean n) = Unit {0}
  CaseHeld (Float w) = Unit {0}
  CaseHeld (Integer w) = Unit {0}
  CaseHeld (Constant i) = Unit {0}
