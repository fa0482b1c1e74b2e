-- The actions of a tree in sheet order, which of them the number of an event names, and between which of them a label is recorded.
-- Assumes nothing.
use Rattle.std.specs.Prelude.{◌≡◌, ℕ, ◌+◌, ◌<◌, List, [], ◌∷◌, ◌++◌, length}
use Rattle.layout.specs.Lists.{All}
use Rattle.layout.specs.Tree.{Owner, Branch, CatchTarget, Action, flat, branch, owner, Try, ActionList, empty, more, Actions, body, Catch, no_catch, catch, Finally, no_finally, finally}
use Rattle.layout.specs.Payload.{opcode, payload, owner_fields, owner_payload, catch_shape, finally_shape, catch_name, try_payload, framed}
use Rattle.layout.specs.Write.{body_size, catch_size, finally_size, Position, Event, label_at, branch_at, payload_too_long, body_too_long}
use Rattle.layout.specs.Lengths.{total}
use Rattle.laws.specs.Homes.{event_position}

-- ---- the actions in sheet order

-- "in sheet order through all bodies": an action stands before those in its bodies, and a Try's bodies are "try, catch and finally"
unfoldable mutual
  pub in_order : Action → List Action
  in_order (flat f) = flat f ∷ []
  in_order (branch k l) = branch k l ∷ []
  in_order (owner o b) = owner o b ∷ body_in_order b
  in_order (Try b c f) = Try b c f ∷ (body_in_order b ++ (catch_in_order c ++ finally_in_order f))

  pub list_in_order : ActionList → List Action
  list_in_order empty = []
  list_in_order (more a xs) = in_order a ++ list_in_order xs

  pub body_in_order : Actions → List Action
  body_in_order (body es xs) = list_in_order xs

  pub catch_in_order : Catch → List Action
  catch_in_order no_catch = []
  catch_in_order (catch t b) = body_in_order b

  pub finally_in_order : Finally → List Action
  finally_in_order no_finally = []
  finally_in_order (finally b) = body_in_order b

-- the length of an action's payload: "Payload lengths exclude bodies"
unfoldable pub payload_size : Action → ℕ
payload_size (flat f) = length (payload f)
payload_size (branch k l) = 2
payload_size (owner o b) = length (owner_payload o (body_size b))
payload_size (Try b c f) = length (try_payload (catch_shape c + finally_shape f) (body_size b) (catch_size c) (finally_size f) (catch_name c))

-- how many bytes an action takes without its bodies: "Bodies follow their payload"
unfoldable pub own_size : Action → ℕ
own_size (flat f) = length (framed (opcode f) (payload f))
own_size (branch k l) = 5
own_size (owner o b) = 5 + length (owner_fields o)
own_size (Try b c f) = 10 + length (catch_name c)

-- it is a branch to this label
pub data BranchTo (l : ℕ) : Action → Type 0 where
  branch_to : {k : Branch} → BranchTo l (branch k l)

-- it owns a body of n bytes
pub data OwnsBody (n : ℕ) : Action → Type 0 where
  its_body : {o : Owner} {b : Actions} → body_size b ≡ n → OwnsBody n (owner o b)
  try_body : {b : Actions} {c : Catch} {f : Finally} → body_size b ≡ n → OwnsBody n (Try b c f)
  catch_body : {b : Actions} {t : CatchTarget} {x : Actions} {f : Finally} → body_size x ≡ n → OwnsBody n (Try b (catch t x) f)
  finally_body : {b : Actions} {c : Catch} {x : Actions} → body_size x ≡ n → OwnsBody n (Try b c (finally x))

-- so many actions, of so many bytes
pub record Measured (xs : List Action) (k n : ℕ) : Type 0 where
  pub is_counted : length xs ≡ k
  pub is_long : total own_size xs ≡ n

-- ---- the action of a number

-- action k of these is so, by the byte at which it starts: it stands behind k others, "counted from 0", and behind all their bytes
pub record Names (xs : List Action) (k : ℕ) (P : ℕ → Action → Type 0) : Type 0 where
  pub before : List Action
  pub action : Action
  pub later : List Action
  pub is_among : xs ≡ before ++ (action ∷ later)
  pub is_number : length before ≡ k
  pub is_so : P (total own_size before) action

-- ---- the action of an event

-- a position before one of these actions, or behind the last: behind as many of them as its number says, and behind all their bytes
pub record Between (xs : List Action) (s : Position) : Type 0 where
  pub before : List Action
  pub later : List Action
  pub is_among : xs ≡ before ++ later
  pub is_number : length before ≡ s.number
  pub is_at : total own_size before ≡ s.at

-- what an event shows of the action that has its number and starts at byte p. A branch has its operand three bytes behind p; a
-- length is "over 65,535"
abbrev pub Shows : Event → ℕ → Action → Type 0
Shows (label_at l s) p a = Unit {0}
Shows (branch_at l s) p a = BranchTo l a × (s.at ≡ p + 3)
Shows (payload_too_long n s) p a = (payload_size a ≡ n) × (65535 < n) × (s.at ≡ p)
Shows (body_too_long n s) p a = OwnsBody n a × (65535 < n) × (s.at ≡ p)

-- the same, but that no action has the number of a label, since a body may end with it
abbrev pub Tells : Event → ℕ → Action → Type 0
Tells (label_at l s) p a = ⊥
Tells (branch_at l s) p a = Shows (branch_at l s) p a
Tells (payload_too_long n s) p a = Shows (payload_too_long n s) p a
Tells (body_too_long n s) p a = Shows (body_too_long n s) p a

-- an event names one of these actions, which are written from a position on. A label names none: a body may end with it
pub data NamedFrom (s : Position) (xs : List Action) : Event → Type 0 where
  a_label : {l : ℕ} {u : Position} → NamedFrom s xs (label_at l u)
  an_action : {e : Event} (before : List Action) (action : Action) (later : List Action) → xs ≡ before ++ (action ∷ later) → s.number + length before ≡ (event_position e).number
      → Shows e (s.at + total own_size before) action → NamedFrom s xs e

-- the same, and a label stands before one of them, or behind the last
pub data PlacedFrom (s : Position) (xs : List Action) : Event → Type 0 where
  between : {l : ℕ} {u : Position} (before later : List Action) → xs ≡ before ++ later → s.number + length before ≡ u.number → s.at + total own_size before ≡ u.at
      → PlacedFrom s xs (label_at l u)
  at_action : {e : Event} (before : List Action) (action : Action) (later : List Action) → xs ≡ before ++ (action ∷ later) → s.number + length before ≡ (event_position e).number
      → Tells e (s.at + total own_size before) action → PlacedFrom s xs e

-- each of these events does
pub record EachNamed (s : Position) (xs : List Action) (es : List Event) : Type 0 where
  pub each : All (NamedFrom s xs) es

pub record EachPlaced (s : Position) (xs : List Action) (es : List Event) : Type 0 where
  pub each : All (PlacedFrom s xs) es

-- ---- the events of a tree

-- an event that is no label names an action, and shows this of it
abbrev pub Named : List Action → Event → Type 0
Named xs (label_at l s) = Unit {0}
Named xs (branch_at l s) = Names xs s.number (Shows (branch_at l s))
Named xs (payload_too_long n s) = Names xs s.number (Shows (payload_too_long n s))
Named xs (body_too_long n s) = Names xs s.number (Shows (body_too_long n s))

-- the same, and a label stands between actions
abbrev pub Placed : List Action → Event → Type 0
Placed xs (label_at l s) = Between xs s
Placed xs (branch_at l s) = Named xs (branch_at l s)
Placed xs (payload_too_long n s) = Named xs (payload_too_long n s)
Placed xs (body_too_long n s) = Named xs (body_too_long n s)
