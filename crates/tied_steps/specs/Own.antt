-- The own bytes of an action: its header and its payload, without the bodies that follow. A tree is written as those of its actions
-- in sheet order, each action's are one step, and with an End behind them there are no other steps. Assumes nothing.
use Prim.Native.Nat.{ℕ, ◌+◌}
use mathlib.Core.List.{List, [], ◌∷◌, ◌++◌}
use Rattle.layout.specs.Numbers.{le16}
use Rattle.layout.specs.OpCode.{OpCode}
use Rattle.layout.specs.Tree.{Action, flat, branch, owner, Try}
use Rattle.layout.specs.Payload.{opcode, payload, owner_op_code, owner_payload, branch_op_code, catch_shape, finally_shape, catch_name, try_payload, framed}
use Rattle.layout.specs.Write.{body_size, catch_size, finally_size}
use Rattle.action_numbers.specs.Numbered.{own_size}

-- ---- what is written, action by action

module _ (bits : ℕ → ℕ → ℕ) where
  -- of an action that starts at position p: "Bodies follow their payload", and are not its own
  unfoldable pub own_bytes : Action → ℕ → List ℕ
  own_bytes (flat f) p = framed (opcode f) (payload f)
  own_bytes (branch k l) p = framed (branch_op_code k) (le16 (bits l (p + 5)))
  own_bytes (owner o b) p = framed (owner_op_code o) (owner_payload o (body_size b))
  own_bytes (Try b c f) p = framed OpCode.Try (try_payload (catch_shape c + finally_shape f) (body_size b) (catch_size c) (finally_size f) (catch_name c))

  -- of several, one behind the other
  unfoldable pub all_bytes : List Action → ℕ → List ℕ
  all_bytes [] p = []
  all_bytes (a ∷ xs) p = own_bytes a p ++ all_bytes xs (p + own_size a)
