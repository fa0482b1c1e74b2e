-- Where the events of a tree lie: its labels and branches within what is written, and no length longer than that. Assumes nothing.
use Rattle.std.specs.Prelude.{◌≡◌, refl, ℕ, ◌+◌, ◌≤◌, Bool, length, ltb, eqb}
use native.Mathlib.Omega.{arith}
use Rattle.std.proofs.Math.Bool.{true, false}
use Rattle.std.proofs.Math.Option.{Option, none, some}
use mathlib.Core.List.{List, [], ◌∷◌, ◌++◌}
use Rattle.layout.specs.Lists.{All}
use Rattle.layout.proofs.Lists.{all_append}
use Rattle.layout.specs.OpCode.{OpCode, byte}
use Rattle.layout.specs.Tree.{Flat, Small, GotoFrame, GetUrl, StoreRegister, ConstantPool, WaitForFrame, SetTarget, GotoLabel, WaitForFrame2, Push, GetUrl2, GotoFrame2, ActionIndex, first_action, next_action, Entry, entry, Action, flat, branch, owner, Try, ActionList, empty, more, Actions, body, Catch, no_catch, catch, Finally, no_finally, finally}
use Rattle.layout.specs.Payload.{opcode, payload, framed}
use Rattle.layout.specs.Write.{size, sizes, body_size, catch_size, finally_size, Position, moved, to_body, to_try, to_catch, to_finally, past, Event, label_at, branch_at, payload_too_long, body_too_long, event_if, payload_test, body_test, labels_at, trace, traces, trace_body, trace_catch, trace_finally, later, record_if, lookup}
use Rattle.layout.proofs.Lengths.{length_framed}

-- ---- a payload is no longer than its action

payload_most : (op : OpCode) (q : List ℕ) → ltb (byte op) 128 ≡ false → length q ≤ length (framed op q)
payload_most op q e = omega (arith, length_framed op q e)

flat_most : (f : Flat) → length (payload f) ≤ size (flat f)
unfolding size opcode byte
flat_most (Small op) = unfold payload in omega arith
flat_most (GotoFrame n) = payload_most OpCode.GotoFrame (payload (GotoFrame n)) refl
flat_most (GetUrl u t) = payload_most OpCode.GetUrl (payload (GetUrl u t)) refl
flat_most (StoreRegister r) = payload_most OpCode.StoreRegister (payload (StoreRegister r)) refl
flat_most (ConstantPool ss) = payload_most OpCode.ConstantPool (payload (ConstantPool ss)) refl
flat_most (WaitForFrame n k) = payload_most OpCode.WaitForFrame (payload (WaitForFrame n k)) refl
flat_most (SetTarget s) = payload_most OpCode.SetTarget (payload (SetTarget s)) refl
flat_most (GotoLabel s) = payload_most OpCode.GotoLabel (payload (GotoLabel s)) refl
flat_most (WaitForFrame2 k) = payload_most OpCode.WaitForFrame2 (payload (WaitForFrame2 k)) refl
flat_most (Push vs) = payload_most OpCode.Push (payload (Push vs)) refl
flat_most (GetUrl2 v t m) = payload_most OpCode.GetUrl2 (payload (GetUrl2 v t m)) refl
flat_most (GotoFrame2 n p) = payload_most OpCode.GotoFrame2 (payload (GotoFrame2 n p)) refl

-- ---- where the events of a tree lie

module _ (end : ℕ) where
  -- a label, the end of a branch's operand, a length: at most `end`
  abbrev pub Within : Event → Type 0
  Within (label_at l s) = s.at ≤ end
  Within (branch_at l s) = s.at + 2 ≤ end
  Within (payload_too_long n s) = n ≤ end
  Within (body_too_long n s) = n ≤ end

  abbrev pub AllWithin : List Event → Type 0
  AllWithin es = All Within es

  both : (xs ys : List Event) → AllWithin xs → AllWithin ys → AllWithin (xs ++ ys)
  both xs ys h k = all_append Within xs ys h k

  if_within : (t : Bool) (e : Event) → Within e → AllWithin (event_if t e)
  unfolding event_if
  if_within true e h = (h, tt)
  if_within false e h = tt

  payload_within : (n : ℕ) (s : Position) → n ≤ end → AllWithin (payload_test n s)
  unfolding payload_test
  payload_within n s h = if_within (ltb 65535 n) (payload_too_long n s) h

  length_within : (n : ℕ) (s : Position) → n ≤ end → AllWithin (body_test n s)
  unfolding body_test
  length_within n s h = if_within (ltb 65535 n) (body_too_long n s) h

  labels_within : (es : List Entry) (i : ActionIndex) (s : Position) → s.at ≤ end → AllWithin (labels_at es i s)
  unfolding labels_at
  labels_within [] i s h = tt
  labels_within (entry l j ∷ es) i s h = both (event_if (eqb i.index j.index) (label_at l s)) _ (if_within (eqb i.index j.index) (label_at l s) h) (labels_within es i s h)

  -- of a tree whose bytes end there or before
  mutual
    unfolding trace size moved

    action_within : (a : Action) (s : Position) → s.at + size a ≤ end → AllWithin (trace a s)
    action_within (flat f) s h = payload_within _ s (omega (arith, flat_most f))
    action_within (branch k l) s h = (omega (arith, h), tt)
    action_within (owner o b) s h =
        both (payload_test _ s) _ (payload_within _ s (omega (arith, h)))
        (both (trace_body b (to_body o s)) _ (body_within b (to_body o s) (omega (arith, h))) (length_within _ s (omega (arith, h))))
    action_within (Try b c f) s h =
        both (payload_test _ s) _ (payload_within _ s (omega (arith, h)))
        (both (trace_body b (to_try c s)) _ (body_within b (to_try c s) (omega (arith, h)))
        (both (trace_catch c (to_catch b c s)) _ (catch_within c (to_catch b c s) (omega (arith, h)))
        (both (trace_finally f (to_finally b c s)) _ (finally_within f (to_finally b c s) (omega (arith, h)))
        (both (body_test _ s) _ (length_within _ s (omega (arith, h))) (both (body_test _ s) _ (length_within _ s (omega (arith, h))) (length_within _ s (omega (arith, h))))))))

    actions_within : (xs : ActionList) (es : List Entry) (i : ActionIndex) (s : Position) → s.at + sizes xs ≤ end → AllWithin (traces xs es i s)
    actions_within empty es i s h = labels_within es i s (omega (arith, h))
    actions_within (more a xs) es i s h =
        both (labels_at es i s) _ (labels_within es i s (omega (arith, h)))
        (both (trace a s) _ (action_within a s (omega (arith, h))) (actions_within xs es (next_action i) (past a s) (omega (arith, h))))

    pub body_within : (b : Actions) (s : Position) → s.at + body_size b ≤ end → AllWithin (trace_body b s)
    body_within (body es xs) s h = actions_within xs es first_action s h

    catch_within : (c : Catch) (s : Position) → s.at + catch_size c ≤ end → AllWithin (trace_catch c s)
    catch_within no_catch s h = tt
    catch_within (catch t b) s h = body_within b s h

    finally_within : (f : Finally) (s : Position) → s.at + finally_size f ≤ end → AllWithin (trace_finally f s)
    finally_within no_finally s h = tt
    finally_within (finally b) s h = body_within b s h

  -- a label's final record, if it has one, is at most `end`
  abbrev pub Recorded : Option Position → Type 0
  Recorded none = Unit {0}
  Recorded (some s) = s.at ≤ end

  later_within : (o p : Option Position) → Recorded o → Recorded p → Recorded (later o p)
  unfolding later
  later_within o none h k = h
  later_within o (some s) h k = k

  record_within : (t : Bool) (s : Position) → s.at ≤ end → Recorded (record_if t s)
  unfolding record_if
  record_within true s h = h
  record_within false s h = tt

  pub lookup_within : (l : ℕ) (es : List Event) → AllWithin es → Recorded (lookup l es)
  unfolding lookup
  lookup_within l [] h = tt
  lookup_within l (label_at k s ∷ es) h = later_within (record_if (eqb l k) s) (lookup l es) (record_within (eqb l k) s h.0) (lookup_within l es h.1)
  lookup_within l (branch_at k s ∷ es) h = lookup_within l es h.1
  lookup_within l (payload_too_long n s ∷ es) h = lookup_within l es h.1
  lookup_within l (body_too_long n s ∷ es) h = lookup_within l es h.1
