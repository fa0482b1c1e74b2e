-- The labels of a tree's branches, among its events: under the bound if the tree's are. Assumes nothing.
use Prim.Native.Nat.{ℕ, ◌<◌}
use mathlib.Core.Bool.{Bool, true, false}
use mathlib.Core.List.{List, [], ◌∷◌, ◌++◌}
use lib.Dec.{ltb, eqb}
use Rattle.layout.specs.Tree.{ActionIndex, first_action, next_action, Entry, entry, Action, flat, branch, owner, Try, ActionList, empty, more, Actions, body, Catch, no_catch, catch, Finally, no_finally, finally}
use Rattle.layout.specs.Write.{Position, to_body, to_try, to_catch, to_finally, past, Event, label_at, payload_too_long, body_too_long, event_if, payload_test, body_test, labels_at, trace, traces, trace_body, trace_catch, trace_finally}
use Rattle.laws.specs.Branches.{EachBranch}
use Rattle.laws.proofs.Branches.{each_append}
use Rattle.pcode.proofs.Trees.{Under, UnderActions, UnderBody, UnderCatch, UnderFinally}

module _ (n : ℕ) where
  -- Every branch among these events is to a label under the bound.
  abbrev pub BranchesUnder : List Event → Type 0
  BranchesUnder = EachBranch (λ l s. l < n)

  both : (xs ys : List Event) → BranchesUnder xs → BranchesUnder ys → BranchesUnder (xs ++ ys)
  both xs ys h k = each_append (λ l s. l < n) xs ys h k

  payload_under : (m : ℕ) (s : Position) → BranchesUnder (payload_test m s)
  unfolding payload_test
  payload_under m s = go (ltb 65535 m)
    where
      go : (t : Bool) → BranchesUnder (event_if t (payload_too_long m s))
      go true = unfold event_if in tt
      go false = unfold event_if in tt

  length_under : (m : ℕ) (s : Position) → BranchesUnder (body_test m s)
  unfolding body_test
  length_under m s = go (ltb 65535 m)
    where
      go : (t : Bool) → BranchesUnder (event_if t (body_too_long m s))
      go true = unfold event_if in tt
      go false = unfold event_if in tt

  labels_under : (es : List Entry) (i : ActionIndex) (s : Position) → BranchesUnder (labels_at es i s)
  unfolding labels_at event_if
  labels_under [] i s = tt
  labels_under (entry l j ∷ es) i s = go (eqb i.index j.index) (labels_under es i s)
    where
      go : (t : Bool) → BranchesUnder (labels_at es i s) → BranchesUnder (event_if t (label_at l s) ++ labels_at es i s)
      go true k = k
      go false k = k

  -- Those of a tree whose labels are under the bound.
  mutual
    unfolding trace

    action_under : (a : Action) (s : Position) → Under n a → BranchesUnder (trace a s)
    action_under (flat f) s u = payload_under _ s
    action_under (branch k l) s u = (u, tt)
    action_under (owner o b) s u =
        both (payload_test _ s) _ (payload_under _ s) (both (trace_body b _) _ (body_under b (to_body o s) u) (length_under _ s))
    action_under (Try b c f) s u =
        both (payload_test _ s) _ (payload_under _ s)
        (both (trace_body b (to_try c s)) _ (body_under b (to_try c s) u.0)
        (both (trace_catch c (to_catch b c s)) _ (catch_under c (to_catch b c s) u.1)
        (both (trace_finally f (to_finally b c s)) _ (finally_under f (to_finally b c s) u.2)
        (both (body_test _ s) _ (length_under _ s) (both (body_test _ s) _ (length_under _ s) (length_under _ s))))))

    actions_under : (xs : ActionList) (es : List Entry) (i : ActionIndex) (s : Position) → UnderActions n xs → BranchesUnder (traces xs es i s)
    actions_under empty es i s u = labels_under es i s
    actions_under (more a xs) es i s u =
        both (labels_at es i s) _ (labels_under es i s) (both (trace a s) _ (action_under a s u.0) (actions_under xs es (next_action i) (past a s) u.1))

    pub body_under : (b : Actions) (s : Position) → UnderBody n b → BranchesUnder (trace_body b s)
    body_under (body es xs) s u = actions_under xs es first_action s u

    catch_under : (c : Catch) (s : Position) → UnderCatch n c → BranchesUnder (trace_catch c s)
    catch_under no_catch s u = tt
    catch_under (catch t b) s u = body_under b s u

    finally_under : (f : Finally) (s : Position) → UnderFinally n f → BranchesUnder (trace_finally f s)
    finally_under no_finally s u = tt
    finally_under (finally b) s u = body_under b s u
