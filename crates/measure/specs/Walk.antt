-- What one walk of a main body keeps while it reads and measures: the label tables and the first overflow; and what it promises.
-- Assumes nothing.
use Rattle.std.specs.Prelude.{◌≡◌, ℕ, zero, suc, ◌+◌, ◌-◌, ◌*◌, ◌≤◌, ◌<◌, List, [], ◌∷◌, ◌++◌, ltb, Option, Some, Result, Ok, Err}
use Rattle.std.specs.Option.{option_or}
use Rattle.layout.specs.Lists.{pick}
use Rattle.layout.specs.Tree.{Branch, ActionOf, branch, ActionsOf, count, body_count}
use Rattle.layout.specs.Read.{Text, placed, stop, Read, got, bad, Reader, chain, give, behind, ◌>>=◌}
use Rattle.layout.specs.Write.{size, Position, position, moved, Event, label_at, branch_at, payload_too_long, body_too_long, trace, body_test}
use Rattle.layout.specs.Lengths.{total}
use Rattle.laws.specs.Resolved.{action_size, action_trace, body_length, body_events}
use Rattle.labels.specs.Table.{Tables, held, SameTables, recorded}
use Rattle.positions.specs.declared.BytePosition.{BytePosition}
use Rattle.positions.specs.Scanned.{fault_of}
use Rattle.positions.specs.declared.Fault.{Fault}
use Rattle.positions.specs.declared.Spot.{Spot}
use Rattle.positions.specs.declared.Stop as code
use Rattle.positions.specs.declared.ActionNumber.{ActionNumber}
use Rattle.positions.specs.declared.Cursor.{Cursor}
use Rattle.positions.specs.declared.Halt.{Halt}
use Rattle.measure.specs.declared.Limit.{Limit}
use Rattle.measure.specs.declared.Limit.TheVariants.{ActionLen, BlockLen}
use Rattle.measure.specs.declared.Overflow.{Overflow}
use Rattle.measure.specs.declared.Notes.{Notes}
use Rattle.measure.specs.declared.Laid.{Laid}
use Rattle.measure.specs.declared.Laid.TheVariants as laid

-- ---- what the events make of the tables and of the first overflow

pub record State : Type 0 where
  pub labels : Tables
  pub over : Option Overflow

abbrev pub state : Tables → Option Overflow → State
state tab over = record { labels = tab; over = over }

-- what the code's struct keeps
abbrev pub kept_in : Notes → State
kept_in n = state (held n.labels.now) n.over

-- the notes lend the same two slices in the same struct
pub record SameNotes (old new : Notes) : Type 0 where
  pub labels : new.labels.ghost_name ≡ old.labels.ghost_name
  pub tables : SameTables old.labels.now new.labels.now

abbrev pub overflow : Limit → ℕ → ℕ → Overflow
overflow limit n action = record { limit = limit; len = n; action = record { 0 = action } }

-- the first one is kept
abbrev pub noted : Overflow → Option Overflow → Option Overflow
noted found over = option_or over (Some found)

-- of a length over 65,535
unfoldable pub noted_if : Overflow → Option Overflow → Option Overflow
noted_if found over = pick (ltb 65535 found.len) (noted found over) over

unfoldable pub note_all : List Event → Option Overflow → Option Overflow
note_all [] over = over
note_all (label_at l s ∷ es) over = note_all es over
note_all (branch_at l s ∷ es) over = note_all es over
note_all (payload_too_long n s ∷ es) over = note_all es (noted (overflow ActionLen n s.number) over)
note_all (body_too_long n s ∷ es) over = note_all es (noted (overflow BlockLen n s.number) over)

unfoldable pub run : List Event → State → State
run es s = state (recorded es s.labels) (note_all es s.over)

-- ---- what a walk promises of a reading that starts at a position and with a state

-- where the code stands: a position, the home of what stands there, and the number of the next action
abbrev pub standing : BytePosition → BytePosition → ActionNumber → Position
standing pos home number = position pos.0 home.0 number.0

pub data Outcome : Type 0 where
  done : (next pos number : ℕ) (after : State) → Outcome
  fault : (fault : Fault) (place number : ℕ) → Outcome

unfoldable pub outcome : {A : Type 0} → (A → ℕ) → (A → ℕ) → (A → Position → List Event) → Position → State → Read A → Outcome
outcome size count trace from s (got a next) = done next.at (from.at + size a) (from.number + count a) (run (trace a from) s)
outcome size count trace from s (bad f p) = fault (fault_of f) p.at (from.number + p.begun)

-- the code's answer and the state that it leaves; after a fault nothing is said of the state
pub data Ran : Outcome → Result Cursor Halt → State → Type 0 where
  ran : {x : Cursor} {s : State} → Ran (done x.at x.pos.0 x.number.0 s) (Ok x) s
  stopped : {h : Halt} {s : State} → Ran (fault h.fault h.place h.number.0) (Err h) s

-- ---- events of what was read, its strings resolved

-- n bodies that follow a payload, each behind those before it
unfoldable pub in_turn : Reader (ActionsOf Text ℕ) → ℕ → Reader (List (ActionsOf Text ℕ))
in_turn read zero = give []
in_turn read (suc n) = do
  x ← read
  xs ← behind (body_count x) (in_turn read n)
  give (x ∷ xs)

-- their events, then the tests of their lengths, which name the action that owns them
unfoldable pub in_bodies : List (ActionsOf Text ℕ) → Position → List Event
in_bodies [] s = []
in_bodies (x ∷ xs) s = body_events x s ++ in_bodies xs (moved (body_length x) (body_count x) s)

unfoldable pub body_tests : List (ActionsOf Text ℕ) → Position → List Event
body_tests [] s = []
body_tests (x ∷ xs) s = body_test (body_length x) s ++ body_tests xs s

unfoldable pub bodies_events : ℕ → List (ActionsOf Text ℕ) → Position → List Event
bodies_events number xs s = in_bodies xs s ++ body_tests xs (position s.at s.home number)

-- ---- what was read, measured: where its writing ends, the number of the next action, and the branches in it

-- the branches among these events
unfoldable pub branches : List Event → List Event
branches [] = []
branches (label_at l s ∷ es) = branches es
branches (branch_at l s ∷ es) = branch_at l s ∷ branches es
branches (payload_too_long n s ∷ es) = branches es
branches (body_too_long n s ∷ es) = branches es

pub record Measure : Type 0 where
  pub end : ℕ
  pub number : ℕ
  pub branching : List Event

abbrev pub measure : ℕ → ℕ → List Event → Measure
measure w k es = record { end = w; number = k; branching = es }

-- a reading, but for how many actions were begun at a fault
unfoldable pub uncounted : {A : Type 0} → Read A → Read A
uncounted (got a q) = got a q
uncounted (bad f s) = bad f (stop (placed s.at))

-- from a position on
unfoldable pub measured : {A : Type 0} → (A → ℕ) → (A → ℕ) → (A → Position → List Event) → Position → Read A → Read Measure
measured size count trace from x = chain (uncounted x) (λ a q. got (measure (from.at + size a) (from.number + count a) (branches (trace a from))) q)

-- from place `at` and position pos on: q lies beyond and within, and each byte read on the way is written in at most 196,608
pub record Onward (at end pos q w : ℕ) : Type 0 where
  pub beyond : at < q
  pub within : q ≤ end
  pub written : w + 196608 * at ≤ pos + 196608 * q

-- ---- what a payload's answer says of an action, whose bodies `inner` reads: nothing is known of them yet, nor of its home

-- n bodies follow the payload, behind the action; `inside` tells their home from the action's
pub record Owning (read : Reader (ActionsOf Text ℕ) → Read (ActionOf Text ℕ)) (at end pos number : ℕ) (over over' : Option Overflow) (after : Spot) (n : ℕ) (inside : ℕ → ℕ) : Type 0 where
  pub onward : Onward at end pos after.at after.pos.0
  pub runs : (inner : Reader (ActionsOf Text ℕ)) (tab : Tables) (home : ℕ)
      → outcome action_size count action_trace (position pos home number) (state tab over) (read (behind 1 inner))
      ≡ outcome (total body_length) (total body_count) (bodies_events number) (position after.pos.0 (inside home) (number + 1)) (state tab over') (in_turn inner n (placed after.at))
  pub measures : (inner : Reader (ActionsOf Text ℕ)) (home : ℕ)
      → measured action_size count action_trace (position pos home number) (read (behind 1 inner))
      ≡ measured (total body_length) (total body_count) in_bodies (position after.pos.0 (inside home) (number + 1)) (in_turn inner n (placed after.at))

-- of the action with a number; where it is a branch, its label number is under a bound
pub data Laying (bound : ℕ) (read : Reader (ActionsOf Text ℕ) → Read (ActionOf Text ℕ)) (at end pos number : ℕ) (over over' : Option Overflow) : Result Laid code.Stop → Type 0 where
  flat : {after : Spot}
      → ((inner : Reader (ActionsOf Text ℕ)) (tab : Tables) (home : ℕ) → outcome action_size count action_trace (position pos home number) (state tab over) (read inner) ≡ done after.at after.pos.0 (number + 1) (state tab over'))
      → ((inner : Reader (ActionsOf Text ℕ)) (home : ℕ) → measured action_size count action_trace (position pos home number) (read inner) ≡ got (measure after.pos.0 (number + 1) []) (placed after.at))
      → Laying bound read at end pos number over over' (Ok (laid.Flat after))
  to_label : {after : Spot} {label : ℕ} {k : Branch} → after.pos.0 ≡ pos + 5 → label < bound → over ≡ over'
      → ((inner : Reader (ActionsOf Text ℕ)) → read inner ≡ got (branch k label) (placed after.at))
      → Laying bound read at end pos number over over' (Ok (laid.Branch after label))
  bodies : {after : Spot} {n : ℕ} → 1 ≤ n → Owning read at end pos number over over' after n (λ home. home) → Laying bound read at end pos number over over' (Ok (laid.Bodies after n))
  function : {after : Spot} → Owning read at end pos number over over' after 1 (λ home. after.pos.0) → Laying bound read at end pos number over over' (Ok (laid.Function after))
  stops : {s : code.Stop}
      → ((inner : Reader (ActionsOf Text ℕ)) (t : State) (home : ℕ) → outcome action_size count action_trace (position pos home number) t (read inner) ≡ fault s.fault s.place number)
      → Laying bound read at end pos number over over' (Err s)

-- ---- what the scan of a payload is made into

abbrev pub laid_by : (Spot → Laid) → Result Spot code.Stop → Result Laid code.Stop
laid_by make (Ok end) = Ok (make end)
laid_by make (Err s) = Err s

-- a branch whose label was read, after its header
unfoldable pub branch_laid : ℕ → Read ℕ → Result Laid code.Stop
branch_laid pos (got l q) = Ok (laid.Branch (record { at = q.at; pos = record { 0 = pos + 2 } }) l)
branch_laid pos (bad f q) = Err (record { fault = fault_of f; place = q.at })

-- 8 for the payload of an action, which starts at a position
abbrev pub noted_from : ℕ → ℕ → Result Spot code.Stop → Option Overflow → Option Overflow
noted_from from action (Ok end) over = noted_if (overflow ActionLen (end.pos.0 - from) action) over
noted_from from action (Err s) over = over

-- it ends at or after its start
abbrev pub EndsFrom : ℕ → Result Spot code.Stop → Type 0
EndsFrom from (Ok end) = from ≤ end.pos.0
EndsFrom from (Err s) = Unit {0}

-- a Try: its shape and target scanned as r, with n bodies after it
pub record Tried (r : Result Spot code.Stop) (n from action : ℕ) (l : Result Laid code.Stop) (over over' : Option Overflow) : Type 0 where
  pub is_laid : l ≡ laid_by (λ end. laid.Bodies end n) r
  pub is_noted : over' ≡ noted_from from action r over
