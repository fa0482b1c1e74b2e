-- Homes name the function bodies of a block: no two bodies share one, and whatever is written has one of them. Assumes nothing.
use Rattle.std.specs.Prelude.{ℕ, ◌+◌, ◌≤◌}
use mathlib.Core.List.{List, [], ◌∷◌, ◌++◌}
use Rattle.layout.specs.Tree.{Owner, With, DefineFunction, DefineFunction2, Action, flat, branch, owner, Try, ActionList, empty, more, Actions, body, Catch, no_catch, catch, Finally, no_finally, finally}
use Rattle.layout.specs.Write.{Position, block_start, to_body, to_try, to_catch, to_finally, past, Event, label_at, branch_at, payload_too_long, body_too_long}

-- ---- the homes of a block

-- the home that an owner's body makes, which starts at n: "With and Try bodies belong to the function around them"
unfoldable pub new_home : Owner → ℕ → List ℕ
new_home With n = []
new_home (DefineFunction name params) n = n ∷ []
new_home (DefineFunction2 name params registers flags) n = n ∷ []

-- the homes that the function bodies in a tree make, in writing order
unfoldable mutual
  pub homes : Action → Position → List ℕ
  homes (flat f) s = []
  homes (branch k l) s = []
  homes (owner o b) s = new_home o (to_body o s).at ++ homes_body b (to_body o s)
  homes (Try b c f) s = homes_body b (to_try c s) ++ (homes_catch c (to_catch b c s) ++ homes_finally f (to_finally b c s))

  pub homes_list : ActionList → Position → List ℕ
  homes_list empty s = []
  homes_list (more a xs) s = homes a s ++ homes_list xs (past a s)

  pub homes_body : Actions → Position → List ℕ
  homes_body (body es xs) s = homes_list xs s

  pub homes_catch : Catch → Position → List ℕ
  homes_catch no_catch s = []
  homes_catch (catch t b) s = homes_body b s

  pub homes_finally : Finally → Position → List ℕ
  homes_finally no_finally s = []
  homes_finally (finally b) s = homes_body b s

-- of all function bodies of a block, "the main block being one"
abbrev pub homes_of : Actions → List ℕ
homes_of t = block_start.home ∷ homes_body t block_start

-- ---- no two are equal

-- strictly rising, from `low` on and below `high`
abbrev pub Rising : ℕ → List ℕ → ℕ → Type 0
Rising low [] high = low ≤ high
Rising low (x ∷ xs) high = (low ≤ x) × Rising (x + 1) xs high

-- ---- whatever is written has one of them

-- where an event stands
unfoldable pub event_position : Event → Position
event_position (label_at l s) = s
event_position (branch_at l s) = s
event_position (payload_too_long n s) = s
event_position (body_too_long n s) = s
