-- The block written (source 000): sizes, what happens on the way, where labels are recorded, and the bytes. Assumes nothing.
use Rattle.std.specs.Prelude.{ℕ, ◌+◌, ◌-◌, ◌%◌, Bool, true, false, List, [], ◌∷◌, ◌++◌, length, ltb, eqb}
use Rattle.std.proofs.Math.Option.{Option, none, some}
use Rattle.layout.specs.Numbers.{le16}
use Rattle.layout.specs.OpCode.{OpCode}
use Rattle.layout.specs.Tree.{ActionIndex, first_action, next_action, Entry, entry, Owner, With, DefineFunction, DefineFunction2, Action, flat, branch, owner, Try, ActionList, empty, more, Actions, body, Catch, no_catch, catch, Finally, no_finally, finally, count, body_count, catch_count}
use Rattle.layout.specs.Payload.{opcode, payload, owner_op_code, owner_fields, owner_payload, branch_op_code, catch_shape, finally_shape, catch_name, try_payload, framed}

-- ---- sizes: how many bytes are written. "Payload lengths exclude bodies"; "Bodies follow their payload"

unfoldable mutual
  pub size : Action → ℕ
  size (flat f) = length (framed (opcode f) (payload f))
  size (branch k l) = 5
  size (owner o b) = 5 + length (owner_fields o) + body_size b
  size (Try b c f) = 10 + length (catch_name c) + body_size b + catch_size c + finally_size f

  pub sizes : ActionList → ℕ
  sizes empty = 0
  sizes (more a xs) = size a + sizes xs

  pub body_size : Actions → ℕ
  body_size (body es xs) = sizes xs

  -- "an absent one has length 0"
  pub catch_size : Catch → ℕ
  catch_size no_catch = 0
  catch_size (catch t b) = body_size b

  pub finally_size : Finally → ℕ
  finally_size no_finally = 0
  finally_size (finally b) = body_size b

-- ---- what happens on the way, in writing order

-- "position in the written block": what the encoder's label_positions holds, and where the writer stands. Its home is the function
-- body it lies in, told by the position of that body's first byte, which no two share (`homes_rise` in laws' Homes). Its number is
-- that of the action being written, or else of the next: "counted from 0 in sheet order through all bodies"
pub record Position : Type 0 where
  pub at : ℕ
  pub home : ℕ
  pub number : ℕ

-- at byte n, in the function body that starts at `home`, with an action's number
abbrev pub position : ℕ → ℕ → ℕ → Position
position n home number = record { at = n; home = home; number = number }

-- where the block starts: "the main block being one" function body
abbrev pub block_start : Position
block_start = position 0 0 0

-- n bytes and k actions on
unfoldable pub moved : ℕ → ℕ → Position → Position
moved n k s = position (s.at + n) s.home (s.number + k)

-- the home of what stands in an owner's body, which starts at s: "With and Try bodies belong to the function around them"
unfoldable pub home_in : Owner → Position → ℕ
home_in With s = s.home
home_in (DefineFunction name params) s = s.at
home_in (DefineFunction2 name params registers flags) s = s.at

-- from where an action starts: to the operand of a branch, to the body of an owner, to the bodies of a Try, and past the action
abbrev pub to_operand : Position → Position
to_operand s = moved 3 0 s

abbrev pub to_body : Owner → Position → Position
to_body o s =
    let t : Position = moved (5 + length (owner_fields o)) 1 s in
    position t.at (home_in o t) t.number

abbrev pub to_try : Catch → Position → Position
to_try c s = moved (10 + length (catch_name c)) 1 s

abbrev pub to_catch : Actions → Catch → Position → Position
to_catch b c s = moved (body_size b) (body_count b) (to_try c s)

abbrev pub to_finally : Actions → Catch → Position → Position
to_finally b c s = moved (body_size b + catch_size c) (body_count b + catch_count c) (to_try c s)

abbrev pub past : Action → Position → Position
past a s = moved (size a) (count a) s

-- A label recorded where the writer stands; a branch, its operand standing there; a payload or a body that is too long. The
-- last two have the position of the action whose payload it is or that owns the body: it says which action is meant
pub data Event : Type 0 where
  label_at : (label : ℕ) (position : Position) → Event
  branch_at : (label : ℕ) (operand : Position) → Event
  payload_too_long : (payload-length : ℕ) (action : Position) → Event
  body_too_long : (body-length : ℕ) (action : Position) → Event

unfoldable pub event_if : Bool → Event → List Event
event_if true e = e ∷ []
event_if false e = []

-- "payload length over 65,535"
unfoldable pub payload_test : ℕ → Position → List Event
payload_test n s = event_if (ltb 65535 n) (payload_too_long n s)

-- "body length over 65,535"
unfoldable pub body_test : ℕ → Position → List Event
body_test n s = event_if (ltb 65535 n) (body_too_long n s)

-- "each entry with index i records its label at the current byte position"
unfoldable pub labels_at : List Entry → ActionIndex → Position → List Event
labels_at [] i s = []
labels_at (entry l j ∷ es) i s = event_if (eqb i.index j.index) (label_at l s) ++ labels_at es i s

-- 8 is met at an action's header; "A body's length is tested when it closes; Try's three only after all three are
-- written, in the order try, catch, finally"
unfoldable mutual
  pub trace : Action → Position → List Event
  trace (flat f) s = payload_test (length (payload f)) s
  trace (branch k l) s = branch_at l (to_operand s) ∷ []
  trace (owner o b) s =
      payload_test (length (owner_fields o) + 2) s
      ++ (trace_body b (to_body o s) ++ body_test (body_size b) s)
  trace (Try b c f) s =
      payload_test (7 + length (catch_name c)) s
      ++ (trace_body b (to_try c s)
      ++ (trace_catch c (to_catch b c s)
      ++ (trace_finally f (to_finally b c s)
      ++ (body_test (body_size b) s ++ (body_test (catch_size c) s ++ body_test (finally_size f) s)))))

  -- "Before action i of a body, and after its last action for i equal to the count": the actions from index i on
  pub traces : ActionList → List Entry → ActionIndex → Position → List Event
  traces empty es i s = labels_at es i s
  traces (more a xs) es i s = labels_at es i s ++ (trace a s ++ traces xs es (next_action i) (past a s))

  pub trace_body : Actions → Position → List Event
  trace_body (body es xs) s = traces xs es first_action s

  pub trace_catch : Catch → Position → List Event
  trace_catch no_catch s = []
  trace_catch (catch t b) s = trace_body b s

  pub trace_finally : Finally → Position → List Event
  trace_finally no_finally s = []
  trace_finally (finally b) s = trace_body b s

-- what happens when a main body is written
unfoldable pub events : Actions → List Event
events t = trace_body t block_start

-- ---- labels: "One table serves the block; the last record wins"

-- the later of two records
unfoldable pub later : Option Position → Option Position → Option Position
later o none = o
later o (some s) = some s

unfoldable pub record_if : Bool → Position → Option Position
record_if true s = some s
record_if false s = none

-- a label's final position, if it was ever recorded
unfoldable pub lookup : ℕ → List Event → Option Position
lookup l [] = none
lookup l (label_at k s ∷ es) = later (record_if (eqb l k) s) (lookup l es)
lookup l (branch_at k s ∷ es) = lookup l es
lookup l (payload_too_long n s ∷ es) = lookup l es
lookup l (body_too_long n s ∷ es) = lookup l es

-- "its label's final position minus the position just after its operand, or 0 if the label was never recorded":
-- the sixteen bits of that distance, in two's complement. The difference is cut off at 0 for a label more than 65,536 bytes back.
-- Such a branch goes too far, and Pack's `pack_tree` makes no block of its tree: where none does, a label is at most 32,768 bytes
-- back (`near_both` in laws' Nears)
unfoldable pub distance_bits : Option Position → ℕ → ℕ
distance_bits none after = 0
distance_bits (some s) after = (s.at + 65536 - after) % 65536

-- the bits of a branch to label l whose operand ends at a position
unfoldable pub branch_bits : Actions → ℕ → ℕ → ℕ
branch_bits t l after = distance_bits (lookup l (events t)) after

-- ---- the bytes; `bits l after` stands for label l in an operand that ends at position `after`

module _ (bits : ℕ → ℕ → ℕ) where
  unfoldable mutual
    pub bytes : Action → ℕ → List ℕ
    bytes (flat f) p = framed (opcode f) (payload f)
    bytes (branch k l) p = framed (branch_op_code k) (le16 (bits l (p + 5)))
    bytes (owner o b) p =
        framed (owner_op_code o) (owner_payload o (body_size b)) ++ body_bytes b (p + (5 + length (owner_fields o)))
    bytes (Try b c f) p =
        let q : ℕ = p + (10 + length (catch_name c)) in
        framed OpCode.Try (try_payload (catch_shape c + finally_shape f) (body_size b) (catch_size c) (finally_size f) (catch_name c))
        ++ (body_bytes b q ++ (catch_bytes c (q + body_size b) ++ finally_bytes f (q + (body_size b + catch_size c))))

    pub actions_bytes : ActionList → ℕ → List ℕ
    actions_bytes empty p = []
    actions_bytes (more a xs) p = bytes a p ++ actions_bytes xs (p + size a)

    pub body_bytes : Actions → ℕ → List ℕ
    body_bytes (body es xs) p = actions_bytes xs p

    pub catch_bytes : Catch → ℕ → List ℕ
    catch_bytes no_catch p = []
    catch_bytes (catch t b) p = body_bytes b p

    pub finally_bytes : Finally → ℕ → List ℕ
    finally_bytes no_finally p = []
    finally_bytes (finally b) p = body_bytes b p

-- "the actions, one End, then the labels"
unfoldable pub block_bytes : Actions → List ℕ
block_bytes t = body_bytes (branch_bits t) t 0 ++ 0 ∷ []

unfoldable pub block_size : Actions → ℕ
block_size t = body_size t + 1
