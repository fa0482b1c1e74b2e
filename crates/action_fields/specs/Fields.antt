-- The fields of an opcode as far as its bodies, as `read_fields` reads them, and how many bytes they are written in. Assumes nothing.
use Rattle.std.specs.Prelude.{ℕ, ◌+◌, ◌/◌, ◌%◌, List, ltb}
use Rattle.layout.specs.Tree.{FlatOf, GotoFrame2, GetUrl, GetUrl2, WaitForFrame, OwnerOf, DefineFunction, DefineFunction2, CatchTargetOf, Variable, Register}
use Rattle.layout.specs.Read.{Text, Terms, Reader, give, tested, read_u8, read_u16, read_flag, read_string, read_param, read_counted, is_shape, has_catch, has_register, read_catch_target, ◌>>=◌}
use Rattle.layout.specs.Strings.{map_flat, map_owner}
use Rattle.layout.specs.Lengths.{payload_length, owner_length}
use Rattle.layout.specs.Pack.{spelling}
use Rattle.operands.specs.Operands.{string_size}

module _ (b : List ℕ) where
  unfoldable pub read_wait_for_frame : Reader (FlatOf Text)
  read_wait_for_frame = do
    frame ← read_u16 b
    skip ← read_u8 b
    give (WaitForFrame frame skip)

  unfoldable pub read_goto_frame2 : Reader (FlatOf Text)
  read_goto_frame2 = do
    bias ← read_u16 b
    play ← read_flag b
    give (GotoFrame2 bias play)

  unfoldable pub read_get_url2 : Reader (FlatOf Text)
  read_get_url2 = do
    variables ← read_flag b
    target ← read_flag b
    method ← read_u8 b
    give (GetUrl2 variables target method)

  unfoldable pub read_registers : Reader (ℕ × ℕ)
  read_registers = do
    registers ← read_u8 b
    flags ← tested (λ flags. ltb flags 512) (read_u16 b)
    give (registers, flags)

module _ (terms : Terms) (b : List ℕ) where
  unfoldable pub read_get_url : Reader (FlatOf Text)
  read_get_url = do
    url ← read_string terms b
    target ← read_string terms b
    give (GetUrl url target)

  unfoldable pub read_function : Reader (OwnerOf Text)
  read_function = do
    name ← read_string terms b
    params ← read_counted b (read_string terms b)
    give (DefineFunction name params)

  unfoldable pub read_function2 : Reader (OwnerOf Text)
  read_function2 = do
    name ← read_string terms b
    params ← read_counted b (read_param terms b)
    registers ← read_u8 b
    flags ← tested (λ flags. ltb flags 512) (read_u16 b)
    give (DefineFunction2 name params registers flags)

  -- a Try's shape and target
  unfoldable pub read_caught : Reader (ℕ × CatchTargetOf Text)
  read_caught = do
    shape ← tested is_shape (read_u8 b)
    target ← read_catch_target terms b (has_catch shape) (has_register shape)
    give (shape, target)

-- a payload without a body
unfoldable pub flat_size : FlatOf Text → ℕ
flat_size f = payload_length (map_flat spelling f)

-- a payload with the length of the body
unfoldable pub owner_size : OwnerOf Text → ℕ
owner_size o = owner_length (map_owner spelling o)

-- a Try's shape, three lengths, and the name, register or one zero byte
unfoldable pub target_size : CatchTargetOf Text → ℕ
target_size (Variable s) = string_size s
target_size (Register r) = 1

unfoldable pub caught_size : ℕ × CatchTargetOf Text → ℕ
caught_size x = 7 + target_size x.1

-- how many bodies follow a shape
unfoldable pub bodies_after : ℕ → ℕ
bodies_after shape = 1 + shape % 2 + shape / 2 % 2
