-- What is written of a function and of a Try before their bodies, from what the code holds of them. Assumes nothing.
use Rattle.std.specs.Prelude.{ℕ, ◌+◌, false, Option, Some, None, List, [], ◌∷◌, ◌++◌, get_or}
use Rattle.layout.specs.Numbers.{u16_at, le16}
use Rattle.layout.specs.Read.{ahead, got, bad}
use Rattle.layout.specs.Payload.{zero_ended, headed}
use Rattle.editions.specs.declared.MainBody.{MainBody}
use Rattle.pcode.specs.declared.Function.{Function}
use Rattle.pcode.specs.declared.CatchTarget.{CatchTarget}
use Rattle.pcode.specs.declared.CatchTarget.TheVariants as target
use Rattle.pcode.specs.Shown.{span_of, Held}
use Rattle.encode_values.specs.Pieces.{Piece, written, strings_at, params_at}

-- the payloads of a DefineFunction and a DefineFunction2 whose parameters are these bytes, the body's length still 0
unfoldable pub function_payload : List ℕ → ℕ → List ℕ → List ℕ
function_payload name count params = (zero_ended name ++ (le16 count ++ params)) ++ le16 0

unfoldable pub function2_payload : List ℕ → ℕ → ℕ → ℕ → List ℕ → List ℕ
function2_payload name count registers flags params = (zero_ended name ++ (le16 count ++ (registers ∷ (le16 flags ++ params)))) ++ le16 0

module _ (m : MainBody) where
  -- a catch target
  unfoldable pub target_bytes : Option CatchTarget → List ℕ
  target_bytes None = 0 ∷ []
  target_bytes (Some (target.Variable s)) = zero_ended (span_of m s)
  target_bytes (Some (target.Register r)) = r ∷ []

  -- its name, if it has one, is held
  unfoldable pub TargetWithin : Option CatchTarget → Type 0
  TargetWithin None = Unit {0}
  TargetWithin (Some (target.Variable s)) = Held m s
  TargetWithin (Some (target.Register r)) = Unit {0}

  -- a DefineFunction, whose body's length is still 0
  abbrev pub function : Function → Piece
  function f = written (λ q. headed false 0x9B (function_payload (span_of m f.name) f.count q)) (strings_at m f.count f.at)

  -- a DefineFunction2 with its parameters read: the register count and the flags, which stand behind them in the main body, come
  -- before them
  abbrev pub function2_of : Function → Piece → Piece
  function2_of f (got q r) = got (headed false 0x8E (function2_payload (span_of m f.name) f.count (get_or m.b.now r.at 0) (u16_at m.b.now (r.at + 1)) q)) (ahead 3 r)
  function2_of f (bad g r) = bad g r

  -- a DefineFunction2, whose body's length is still 0
  abbrev pub function2 : Function → Piece
  function2 f = function2_of f (params_at m f.count f.at)
