-- The bodies of an action, what is asked of a place where something is written, and what is left there. Assumes nothing.
use Rattle.std.specs.Prelude.{◌≡◌, ℕ, ◌+◌, ◌≤◌, Bool, true, false, List, length}
use Rattle.std.specs.Prelude as prelude
use Rattle.std.proofs.Math.Option.{Option, none, some}
use Rattle.std.proofs.lemmas.List.Edits.{sets}
use Rattle.layout.specs.Numbers.{le16}
use Rattle.layout.specs.Tree.{ActionOf, Actions, ActionsOf}
use Rattle.layout.specs.Read.{Text, Terms, Place, placed, Reader, got, give, behind, has_catch, has_finally, read_action, read_body, ◌>>=◌}
use Rattle.layout.specs.Strings.{map_action, map_body}
use Rattle.layout.specs.Write.{Position, position, Event, bytes, body_bytes, branch_bits, events, block_bytes, block_size}
use Rattle.layout.specs.Judge.{too_far}
use Rattle.layout.specs.Pack.{spelling}
use Rattle.laws.specs.Fits.{Bytes}
use Rattle.laws.specs.Packed.{ReadsMain}
use Rattle.laws.specs.Nears.{NoneFar}
use Rattle.laws.specs.Resolved.{action_trace, body_length, body_events}
use Rattle.labels.specs.Table.{record_at, TableHolds}
use Rattle.pcode.specs.declared.Action as pcode
use Rattle.pcode.specs.declared.Action.TheVariants as code
use Rattle.encode_flat.specs.Branches.{table_bits}
use Rattle.write.specs.declared.Bodies.{Bodies}
use Rattle.write.specs.declared.Bodies.TheVariants as bodies
use Rattle.positions.specs.declared.BytePosition.{BytePosition}
use Rattle.editions.specs.Allowed.{read_by}
use Rattle.editions.specs.declared.MainBody.{MainBody}
use Rattle.positions.specs.declared.Spot.{Spot}
use Rattle.writer.specs.declared.Writer.{Writer}
use Rattle.writer.specs.Written.{appended}

-- ---- bodies

-- the bodies that follow an action's payload, if any do
unfoldable pub bodies_of : pcode.Action → prelude.Option Bodies
bodies_of (code.Small n) = prelude.None
bodies_of (code.GotoFrame n) = prelude.None
bodies_of (code.GetUrl u t) = prelude.None
bodies_of (code.StoreRegister r) = prelude.None
bodies_of (code.ConstantPool n i) = prelude.None
bodies_of (code.WaitForFrame n k) = prelude.None
bodies_of (code.SetTarget s) = prelude.None
bodies_of (code.GotoLabel s) = prelude.None
bodies_of (code.WaitForFrame2 k) = prelude.None
bodies_of (code.DefineFunction2 f) = prelude.Some bodies.One
bodies_of (code.Try shape t i) = prelude.Some (bodies.OfTry shape)
bodies_of (code.With i) = prelude.Some bodies.One
bodies_of (code.Push n i) = prelude.None
bodies_of (code.Jump l) = prelude.None
bodies_of (code.GetUrl2 v t m) = prelude.None
bodies_of (code.DefineFunction f) = prelude.Some bodies.One
bodies_of (code.If l) = prelude.None
bodies_of (code.GotoFrame2 n k) = prelude.None

-- a body with so many levels allowed, and an action whose bodies are such
abbrev pub body_by : MainBody → ℕ → Reader (ActionsOf Text ℕ)
body_by m depth = read_body (read_by m) m.b.now depth

abbrev pub action_by : MainBody → ℕ → Reader (ActionOf Text ℕ)
action_by m depth = read_action (read_by m) m.b.now (behind 1 (body_by m depth))

-- a body, if it is present
unfoldable pub read_if : Bool → Reader (ActionsOf Text ℕ) → Reader (Option (ActionsOf Text ℕ))
read_if true inner = do
  x ← inner
  give (some x)
read_if false inner = give none

-- a Try's bodies, the second and the third where they are present
pub record Tried : Type 0 where
  pub first : ActionsOf Text ℕ
  pub second : Option (ActionsOf Text ℕ)
  pub third : Option (ActionsOf Text ℕ)

-- the bodies of a Try of this shape, one after the other
unfoldable pub read_tried : ℕ → Reader (ActionsOf Text ℕ) → Reader Tried
read_tried shape inner = do
  x ← inner
  y ← read_if (has_catch shape) inner
  z ← read_if (has_finally shape) inner
  give (record { first = x; second = y; third = z })

-- ---- their lengths and bytes, by the label table

-- the length of a body that may be absent
unfoldable pub length_if : Option (ActionsOf Text ℕ) → ℕ
length_if none = 0
length_if (some x) = body_length x

-- and of a Try's bodies
unfoldable pub length_tried : Tried → ℕ
length_tried t = body_length t.first + length_if t.second + length_if t.third

-- the bytes of a body that was read
unfoldable pub body_of : List ℕ → ActionsOf Text ℕ → ℕ → List ℕ
body_of tab x p = body_bytes (table_bits tab) (map_body spelling x) p

-- the bytes of an action that was read
unfoldable pub action_of : List ℕ → ActionOf Text ℕ → ℕ → List ℕ
action_of tab x p = bytes (table_bits tab) (map_action spelling x) p

-- ---- branches of which none goes too far, by the label table

-- among the events from a position on, in some function body and from some action number on: the writer does not know which, and
-- no byte depends on them
pub record NearFrom (tab : List ℕ) (trace : Position → List Event) (p : ℕ) : Type 0 where
  pub home : ℕ
  pub number : ℕ
  pub none_far : NoneFar (record_at tab) (trace (position p home number))

-- those of a body that was read, at a position
abbrev pub near_of : List ℕ → ActionsOf Text ℕ → ℕ → Type 0
near_of tab x p = NearFrom tab (body_events x) p

-- and of one that may be absent
abbrev pub near_if : List ℕ → Option (ActionsOf Text ℕ) → ℕ → Type 0
near_if tab none p = Unit {0}
near_if tab (some x) p = near_of tab x p

-- and of a Try's bodies
abbrev pub near_tried : List ℕ → Tried → ℕ → Type 0
near_tried tab t p = near_of tab t.first p × near_if tab t.second (p + body_length t.first) × near_if tab t.third (p + body_length t.first + length_if t.second)

-- of an action that was read
abbrev pub near_action : List ℕ → ActionOf Text ℕ → ℕ → Type 0
near_action tab x p = NearFrom tab (action_trace x) p

-- ---- the output

-- a body at a position, and then its length at a place before it
unfoldable pub closed : List ℕ → List ℕ → ℕ → ℕ → ActionsOf Text ℕ → List ℕ
closed tab out pos at x = sets (sets out pos (body_of tab x pos)) at (le16 (body_length x))

-- the same, if the body is present
unfoldable pub closed_if : List ℕ → List ℕ → ℕ → ℕ → Option (ActionsOf Text ℕ) → List ℕ
closed_if tab out pos at none = out
closed_if tab out pos at (some x) = closed tab out pos at x

-- a Try's bodies, the three lengths from a place before them on
unfoldable pub closed_tried : List ℕ → List ℕ → ℕ → ℕ → Tried → List ℕ
closed_tried tab out pos at t =
    let one : List ℕ = closed tab out pos at t.first in
    let two : List ℕ = closed_if tab one (pos + body_length t.first) (at + 2) t.second in
    closed_if tab two (pos + body_length t.first + length_if t.second) (at + 4) t.third

-- ---- contracts

-- what is asked where something is written at a position: that it is read at a place, a slot for each label that the terms allow,
-- that its branches are near, and room
pub record Room {A : Type 0} (m : MainBody) (read : Reader A) (long : A → ℕ) (near : List ℕ → A → ℕ → Type 0) (at pos : ℕ) (tab out : List ℕ) : Type 0 where
  pub bytes : Bytes m.b.now
  pub value : A
  pub next : Place
  pub reads : read (placed at) ≡ got value next
  pub slots : m.terms.label_bound ≤ length tab
  pub nearby : near tab value pos
  pub room : pos + long value ≤ length out
  pub sums : length out ≤ 1099511627776
  pub places : length m.b.now ≤ 1099511627776

-- where it ended, for every reading: the position behind what was written, and the place behind what was read
pub record Ended {A : Type 0} (read : Reader A) (long : A → ℕ) (at pos : ℕ) (r : Spot) : Type 0 where
  pub ended : (x : A) (q : Place) → read (placed at) ≡ got x q → (r.pos.0 ≡ pos + long x) × (r.at ≡ q.at)

-- what is left, for every reading: the output, and where it ended
pub record Wrote {A : Type 0} (read : Reader A) (long : A → ℕ) (output : A → List ℕ) (at pos : ℕ) (out : List ℕ) (r : Spot) : Type 0 where
  pub wrote : (x : A) (q : Place) → read (placed at) ≡ got x q → out ≡ output x
  pub ends : Ended read long at pos r

-- what is asked of a main body, which reads by these terms, its table and the output
pub record MainWritable (terms : Terms) (b tab out : List ℕ) : Type 0 where
  pub bytes : Bytes b
  pub tree : Actions
  pub reads : ReadsMain terms b tree
  pub holds : TableHolds tab (events tree)
  pub slots : terms.label_bound ≤ length tab
  pub nearby : too_far (events tree) (events tree) ≡ none
  pub room : block_size tree ≤ length out
  pub sums : length out ≤ 1099511627776
  pub places : length b ≤ 1099511627776

-- the block without its End
unfoldable pub main_bytes : Actions → List ℕ
main_bytes t = body_bytes (branch_bits t) t 0

-- what is left of the output, and the position reached: the actions, from its start on
pub record PutMain (terms : Terms) (b old new : List ℕ) (r : BytePosition) : Type 0 where
  pub put : (t : Actions) → ReadsMain terms b t → (new ≡ sets old 0 (main_bytes t)) × (r.0 ≡ length (main_bytes t))

-- the same, of a writer
pub record AppendedMain (terms : Terms) (b : List ℕ) (w r : Writer) : Type 0 where
  pub is : (t : Actions) → ReadsMain terms b t → r ≡ appended w (main_bytes t)

-- what is left of the output, and the position reached: the block, from its start on, and its length
pub record WroteBlock (terms : Terms) (b old new : List ℕ) (r : BytePosition) : Type 0 where
  pub wrote : (t : Actions) → ReadsMain terms b t → new ≡ sets old 0 (block_bytes t)
  pub long : (t : Actions) → ReadsMain terms b t → r.0 ≡ length (block_bytes t)
