-- Pieces of the block: bytes to write, and the place where reading goes on. Assumes nothing.
use Rattle.std.specs.Prelude.{◌≡◌, ℕ, ◌+◌, ◌≤◌, false, List, [], ◌∷◌, ◌++◌, length}
use Rattle.std.proofs.lemmas.List.Edits.{sets}
use Rattle.layout.specs.Tree.{Flat, PushValueOf, FunctionParamOf, function_param}
use Rattle.layout.specs.Read.{Text, placed, Read, got, bad, repeat, read_string, read_param, read_value}
use Rattle.layout.specs.Payload.{opcode, payload, zero_ended, push_bytes, headed, framed}
use Rattle.layout.specs.Strings.{map_value}
use Rattle.layout.specs.Pack.{spelling}
use Rattle.positions.specs.declared.Spot.{Spot}
use Rattle.editions.specs.Allowed.{read_by}
use Rattle.editions.specs.declared.MainBody.{MainBody}

-- ---- what is to be written

-- bytes, and the place in the main body after what they stand for
abbrev pub Piece : Type 0
Piece = Read (List ℕ)

-- these bytes, and this place
abbrev pub piece : List ℕ → ℕ → Piece
piece s next = got s (placed next)

-- a header and a payload
abbrev pub action : ℕ → List ℕ → ℕ → Piece
action op q next = piece (headed false op q) next

-- an action without a body, as the definitions write it
abbrev pub flat_piece : Flat → ℕ → Piece
flat_piece f next = piece (framed (opcode f) (payload f)) next

-- a piece's bytes, and its place; a reading that was refused has none
abbrev pub bytes_of : Piece → List ℕ
bytes_of (got s q) = s
bytes_of (bad f q) = []

abbrev pub next_of : Piece → ℕ
next_of (got s q) = q.at
next_of (bad f q) = 0

-- what was read, as bytes
abbrev pub written : {A : Type 0} → (A → List ℕ) → Read A → Piece
written f (got a q) = got (f a) q
written f (bad e q) = bad e q

-- a reading that gave something
abbrev pub Reads : {A : Type 0} → Read A → Type 0
Reads (got a q) = Unit {0}
Reads (bad f q) = ⊥

-- what the writing of a piece asks: its bytes are known, they have room at a position, and the sums fit
pub record Room (x : Piece) (pos : ℕ) (out : List ℕ) : Type 0 where
  pub known : Reads x
  pub room : pos + length (bytes_of x) ≤ length out
  pub sums : length out ≤ 1099511627776

-- what it leaves: the bytes from the position on, and r, which holds the place and the position after them
pub record Put (x : Piece) (pos : ℕ) (out out' : List ℕ) (r : Spot) : Type 0 where
  pub wrote : out' ≡ sets out pos (bytes_of x)
  pub end : r.pos.0 ≡ pos + length (bytes_of x)
  pub next : r.at ≡ next_of x

-- ---- the elements of lists

-- a string
unfoldable pub string_bytes : Text → List ℕ
string_bytes s = zero_ended (spelling s)

-- a parameter of a DefineFunction2
unfoldable pub param_bytes : FunctionParamOf Text → List ℕ
param_bytes (function_param r s) = r ∷ zero_ended (spelling s)

-- a push value
unfoldable pub value_bytes : PushValueOf Text → List ℕ
value_bytes v = push_bytes (map_value spelling v)

-- the bytes of each element, one after the other
unfoldable pub joined : {A : Type 0} → (A → List ℕ) → List A → List ℕ
joined f [] = []
joined f (a ∷ xs) = f a ++ joined f xs

module _ (m : MainBody) where
  -- the string, the parameter and the push value at p
  abbrev pub string_at : ℕ → Piece
  string_at p = written string_bytes (read_string (read_by m) m.b.now (placed p))

  abbrev pub param_at : ℕ → Piece
  param_at p = written param_bytes (read_param (read_by m) m.b.now (placed p))

  abbrev pub value_at : ℕ → Piece
  value_at p = written value_bytes (read_value (read_by m) m.b.now (placed p))

  -- n of them from p on
  abbrev pub strings_at : ℕ → ℕ → Piece
  strings_at n p = written (joined string_bytes) (repeat (read_string (read_by m) m.b.now) n (placed p))

  abbrev pub params_at : ℕ → ℕ → Piece
  params_at n p = written (joined param_bytes) (repeat (read_param (read_by m) m.b.now) n (placed p))

  abbrev pub values_at : ℕ → ℕ → Piece
  values_at n p = written (joined value_bytes) (repeat (read_value (read_by m) m.b.now) n (placed p))
