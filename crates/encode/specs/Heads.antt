-- What is written of an action before its bodies, and where reading goes on. Assumes nothing.
use Rattle.std.specs.Prelude.{◌≡◌, ℕ, ◌+◌, ◌≤◌, List, length}
use Rattle.std.proofs.Math.Option.{none}
use Rattle.std.proofs.lemmas.List.Edits.{sets}
use Rattle.layout.specs.Numbers.{le16}
use Rattle.layout.specs.OpCode.{OpCode}
use Rattle.layout.specs.Tree.{Action, ActionOf, ActionsOf, CatchOf, FinallyOf, flat, branch, owner, Try, no_catch, catch, no_finally, finally}
use Rattle.layout.specs.Read.{Text, Place, placed, Reader, got}
use Rattle.layout.specs.Strings.{map_action}
use Rattle.layout.specs.Payload.{opcode, payload, owner_op_code, owner_payload, branch_op_code, catch_shape, finally_shape, catch_name, try_payload, framed}
use Rattle.layout.specs.Judge.{judged}
use Rattle.layout.specs.Pack.{spelling}
use Rattle.laws.specs.Fits.{Bytes}
use Rattle.labels.specs.Table.{record_at}
use Rattle.editions.specs.declared.MainBody.{MainBody}
use Rattle.positions.specs.declared.Spot.{Spot}
use Rattle.pcode.specs.Shown.{Shown}
use Rattle.pcode.specs.declared.Action as code
use Rattle.encode_flat.specs.Branches.{table_bits}

-- an action's header and payload, the lengths of its bodies still 0
unfoldable pub head_bytes : (ℕ → ℕ → ℕ) → Action → ℕ → List ℕ
head_bytes bits (flat f) p = framed (opcode f) (payload f)
head_bytes bits (branch k l) p = framed (branch_op_code k) (le16 (bits l (p + 5)))
head_bytes bits (owner o b) p = framed (owner_op_code o) (owner_payload o 0)
head_bytes bits (Try b c f) p = framed OpCode.Try (try_payload (catch_shape c + finally_shape f) 0 0 0 (catch_name c))

-- the same of what was read
unfoldable pub head_of : List ℕ → ActionOf Text ℕ → ℕ → List ℕ
head_of tab x p = head_bytes (table_bits tab) (map_action spelling x) p

-- a Try's second and third body, read from place r on where they are present; s is the place after them
abbrev pub CatchFrom : Reader (ActionsOf Text ℕ) → Place → CatchOf Text ℕ → Place → Type 0
CatchFrom inner r no_catch s = s ≡ r
CatchFrom inner r (catch t a) s = inner r ≡ got a s

abbrev pub FinallyFrom : Reader (ActionsOf Text ℕ) → Place → FinallyOf Text ℕ → Place → Type 0
FinallyFrom inner r no_finally s = s ≡ r
FinallyFrom inner r (finally a) s = inner r ≡ got a s

-- the bodies of an action stand from `next` on, read by `inner` one after the other, and end at q
abbrev pub BodiesFrom : Reader (ActionsOf Text ℕ) → ℕ → ActionOf Text ℕ → Place → Type 0
BodiesFrom inner next (flat f) q = q ≡ placed next
BodiesFrom inner next (branch k l) q = q ≡ placed next
BodiesFrom inner next (owner o a) q = inner (placed next) ≡ got a q
BodiesFrom inner next (Try a c f) q = (r : Place) × (s : Place) × (inner (placed next) ≡ got a r) × CatchFrom inner r c s × FinallyFrom inner s f q

-- a branch goes to a label without a record, or not too far; 0 stands for its action number, which only a refusal names
abbrev pub NotFar : List ℕ → ActionOf Text ℕ → ℕ → Type 0
NotFar tab (flat f) p = Unit {0}
NotFar tab (branch k l) p = judged (record_at tab l) (p + 5) 0 ≡ none
NotFar tab (owner o a) p = Unit {0}
NotFar tab (Try a c f) p = Unit {0}

-- What the writing of a head asks: the case a shows the action that the definitions read at a place, its branch is not too far,
-- its head has room, and the sums fit
pub record Writable (m : MainBody) (at : ℕ) (a : code.Action) (pos : ℕ) (tab out : List ℕ) : Type 0 where
  pub bytes : Bytes m.b.now
  pub inner : Reader (ActionsOf Text ℕ)
  pub action : ActionOf Text ℕ
  pub next : Place
  pub shown : Shown m inner (at + 1) a action next
  pub slots : m.terms.label_bound ≤ length tab
  pub near : NotFar tab action pos
  pub room : pos + length (head_of tab action pos) ≤ length out
  pub sums : length out ≤ 1099511627776
  pub places : at ≤ 1099511627776

-- What it leaves, for every action that the case shows: that action's head from the position on, and r, the position after it and
-- the place where its bodies stand
pub record WroteHead (m : MainBody) (at : ℕ) (a : code.Action) (pos : ℕ) (tab out out' : List ℕ) (r : Spot) : Type 0 where
  pub wrote : (inner : Reader (ActionsOf Text ℕ)) (x : ActionOf Text ℕ) (q : Place) → Shown m inner (at + 1) a x q
      → (out' ≡ sets out pos (head_of tab x pos)) × (r.pos.0 ≡ pos + length (head_of tab x pos)) × BodiesFrom inner r.at x q
