-- How many actions a tree has, and how many bytes they take. Assumes nothing.
use Rattle.std.specs.Prelude.{◌≡◌, refl, ℕ, zero, suc, ◌+◌, ◌<◌, Bool, true, List, [], ◌∷◌, ◌++◌, length, ltb, eqb}
use Rattle.std.proofs.Common.{sym, ap, ◌∙◌, subst, arith, append_assoc, length-append, ltb-true}
use Rattle.std.proofs.Math.Bool.{false}
use Rattle.layout.specs.Lists.{All}
use Rattle.layout.proofs.Lists.{all_append, all_right}
use Rattle.layout.specs.Tree.{ActionIndex, first_action, next_action, Entry, entry, Owner, Action, flat, branch, owner, Try, ActionList, empty, more, Actions, body, Catch, no_catch, catch, Finally, no_finally, finally, count, counts, body_count, catch_count, finally_count}
use Rattle.layout.specs.Payload.{owner_fields, catch_shape, finally_shape, catch_name}
use Rattle.layout.specs.Write.{size, sizes, body_size, catch_size, finally_size, Position, block_start, moved, to_body, to_try, to_catch, to_finally, past, Event, label_at, branch_at, payload_too_long, body_too_long, event_if, payload_test, body_test, labels_at, trace, traces, trace_body, trace_catch, trace_finally, events}
use Rattle.layout.specs.Lengths.{total}
use Rattle.layout.proofs.Lengths.{length-owner_fields, length-owner_payload, length-try_payload}
use Rattle.laws.specs.Homes.{event_position}
use Rattle.action_numbers.specs.Numbered.{EachNamed, Measured, Named, NamedFrom, Names, OwnsBody, Shows, a_label, an_action, body_in_order, branch_to, catch_body, catch_in_order, finally_body, finally_in_order, in_order, its_body, list_in_order, own_size, payload_size, try_body, Tells, PlacedFrom, between, at_action, EachPlaced, Placed}

-- ---- how many there are, and how many bytes they take

-- a total in two parts
pub total_append : {A : Type 0} (number : A → ℕ) (xs ys : List A) → total number (xs ++ ys) ≡ total number xs + total number ys
unfolding total
total_append number [] ys = omega arith
total_append number (x ∷ xs) ys = omega (arith, total_append number xs ys)

-- these, and then those
pub measured_then : {xs ys : List Action} {k j n m : ℕ} → Measured xs k n → Measured ys j m → Measured (xs ++ ys) (k + j) (n + m)
measured_then {xs} {ys} h i = record { is_counted = omega (arith, length-append xs ys, h.is_counted, i.is_counted); is_long = omega (arith, total_append own_size xs ys, h.is_long, i.is_long) }

-- an action in front, without its bodies
pub measured_one : (a : Action) {xs : List Action} {k n : ℕ} → Measured xs k n → Measured (a ∷ xs) (1 + k) (own_size a + n)
unfolding total
measured_one a h = record { is_counted = omega (arith, h.is_counted); is_long = omega (arith, h.is_long) }

-- the same numbers, said otherwise
pub measured_as : {xs : List Action} {k j n m : ℕ} → k ≡ j → n ≡ m → Measured xs k n → Measured xs j m
measured_as e f h = record { is_counted = h.is_counted ∙ e; is_long = h.is_long ∙ f }

-- no action
pub measured_none : Measured [] 0 0
unfolding total
measured_none = record { is_counted = refl; is_long = refl }

-- an action with those in its bodies: as many as it counts, and of its size
mutual
  unfolding in_order count size own_size

  pub measured : (a : Action) → Measured (in_order a) (count a) (size a)
  measured (flat f) = measured_as refl (omega arith) (measured_one (flat f) measured_none)
  measured (branch k l) = measured_as refl (omega arith) (measured_one (branch k l) measured_none)
  measured (owner o b) = measured_one (owner o b) (body_measured b)
  measured (Try b c f) = measured_as (omega arith) (omega arith) (measured_one (Try b c f) (measured_then (body_measured b) (measured_then (catch_measured c) (finally_measured f))))

  pub list_measured : (xs : ActionList) → Measured (list_in_order xs) (counts xs) (sizes xs)
  list_measured empty = measured_none
  list_measured (more a xs) = measured_then (measured a) (list_measured xs)

  pub body_measured : (b : Actions) → Measured (body_in_order b) (body_count b) (body_size b)
  body_measured (body es xs) = list_measured xs

  pub catch_measured : (c : Catch) → Measured (catch_in_order c) (catch_count c) (catch_size c)
  catch_measured no_catch = measured_none
  catch_measured (catch t b) = body_measured b

  pub finally_measured : (f : Finally) → Measured (finally_in_order f) (finally_count f) (finally_size f)
  finally_measured no_finally = measured_none
  finally_measured (finally b) = body_measured b
