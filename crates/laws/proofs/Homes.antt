-- Homes name the function bodies of a block: no two bodies share one, and whatever is written has one of them. Assumes nothing.
use Rattle.std.specs.Prelude.{◌≡◌, refl, ℕ, ◌+◌, ◌≤◌, ◌<◌, Bool, length, ltb, eqb}
use Rattle.std.proofs.Common.{subst, arith}
use Rattle.std.proofs.Math.Bool.{true, false}
use mathlib.Core.List.Memᴰ.{head as first}
use mathlib.Core.List.Memᴰ.{tail as further}
use mathlib.Core.List.{List, [], ◌∷◌, ◌++◌, head_d, Memᴰ as Among}
use Rattle.layout.specs.Lists.{All}
use Rattle.layout.proofs.Lists.{all_append, all_left, all_right}
use Rattle.layout.specs.Tree.{ActionIndex, first_action, next_action, Entry, entry, Owner, With, DefineFunction, DefineFunction2, Action, flat, branch, owner, Try, ActionList, empty, more, Actions, body, Catch, no_catch, catch, Finally, no_finally, finally}
use Rattle.layout.specs.Payload.{owner_fields}
use Rattle.layout.specs.Write.{size, sizes, body_size, catch_size, finally_size, Position, block_start, moved, home_in, to_body, to_try, to_catch, to_finally, past, Event, label_at, payload_too_long, body_too_long, event_if, payload_test, body_test, labels_at, trace, traces, trace_body, trace_catch, trace_finally, events, block_size}
use Rattle.laws.specs.Homes.{Rising, event_position, homes, homes_body, homes_catch, homes_finally, homes_list, homes_of, new_home}

-- what stands in the body has that home, or where the body makes none the one around it
pub home_made : (o : Owner) (s : Position) → home_in o s ≡ head_d (new_home o s.at) s.home
unfolding home_in new_home head_d
home_made With s = refl
home_made (DefineFunction name params) s = refl
home_made (DefineFunction2 name params registers flags) s = refl

within : {low low' high high' : ℕ} (xs : List ℕ) → low' ≤ low → high ≤ high' → Rising low xs high → Rising low' xs high'
within [] l k h = omega arith
within {low = low} {low' = low'} {high = high} {high' = high'} (x ∷ xs) l k h = (omega (arith, h.0), within {low = x + 1} {low' = x + 1} {high = high} {high' = high'} xs (omega arith) k h.1)

both : (low mid high : ℕ) (xs ys : List ℕ) → Rising low xs mid → Rising mid ys high → Rising low (xs ++ ys) high
both low mid high [] ys h k = within ys h (omega arith) k
both low mid high (x ∷ xs) ys h k = (h.0, both (x + 1) mid high xs ys h.1 k)

new_rises : (o : Owner) (low n : ℕ) → low ≤ n → Rising low (new_home o n) (n + 1)
unfolding new_home
new_rises With low n h = omega arith
new_rises (DefineFunction name ps) low n h = omega arith
new_rises (DefineFunction2 name ps r f) low n h = omega arith

-- an action's are past its first byte, and at most at its end
mutual
  unfolding homes size moved

  rises : (a : Action) (s : Position) → Rising (s.at + 1) (homes a s) (s.at + size a + 1)
  rises (flat f) s = omega arith
  rises (branch k l) s = omega arith
  rises (owner o b) s =
      let t : Position = to_body o s in
      both _ _ _ (new_home o t.at) _ (new_rises o _ t.at (omega arith)) (within (homes_body b t) (omega arith) (omega arith) (rises_body b t))
  rises (Try b c f) s =
      both _ ((to_catch b c s).at + 1) _ (homes_body b (to_try c s)) _ (within (homes_body b (to_try c s)) (omega arith) (omega arith) (rises_body b (to_try c s)))
      (both _ ((to_finally b c s).at + 1) _ (homes_catch c (to_catch b c s)) _ (within (homes_catch c (to_catch b c s)) (omega arith) (omega arith) (rises_catch c (to_catch b c s)))
      (within (homes_finally f (to_finally b c s)) (omega arith) (omega arith) (rises_finally f (to_finally b c s))))

  rises_list : (xs : ActionList) (s : Position) → Rising (s.at + 1) (homes_list xs s) (s.at + sizes xs + 1)
  rises_list empty s = omega arith
  rises_list (more a xs) s = both _ _ _ (homes a s) _ (rises a s) (within (homes_list xs (past a s)) (omega arith) (omega arith) (rises_list xs (past a s)))

  rises_body : (b : Actions) (s : Position) → Rising (s.at + 1) (homes_body b s) (s.at + body_size b + 1)
  rises_body (body es xs) s = rises_list xs s

  rises_catch : (c : Catch) (s : Position) → Rising (s.at + 1) (homes_catch c s) (s.at + catch_size c + 1)
  rises_catch no_catch s = omega arith
  rises_catch (catch t b) s = rises_body b s

  rises_finally : (f : Finally) (s : Position) → Rising (s.at + 1) (homes_finally f s) (s.at + finally_size f + 1)
  rises_finally no_finally s = omega arith
  rises_finally (finally b) s = rises_body b s

-- "which function body it was made in": in writing order the homes rise strictly, and each is the position of a byte of the block
pub homes_rise : (t : Actions) → Rising 0 (homes_of t) (block_size t)
unfolding block_size
homes_rise t = (omega arith, within (homes_body t block_start) (omega arith) (omega arith) (rises_body t block_start))

rises_first : (low high x : ℕ) (xs ys : List ℕ) → Rising low (xs ++ (x ∷ ys)) high → low ≤ x
rises_first low high x [] ys h = h.0
rises_first low high x (z ∷ xs) ys h = omega (arith, h.0, rises_first (z + 1) high x xs ys h.1)

rises_two : (low high x y : ℕ) (xs ys zs : List ℕ) → Rising low (xs ++ (x ∷ (ys ++ (y ∷ zs)))) high → x < y
rises_two low high x y [] ys zs h = omega (arith, rises_first (x + 1) high y ys zs h.1)
rises_two low high x y (z ∷ xs) ys zs h = rises_two (z + 1) high x y xs ys zs h.1

-- so the homes at two places of the list are not equal; the main block's 0 stands first, so no other is 0
pub distinct : (t : Actions) (h k : ℕ) (xs ys zs : List ℕ) → homes_of t ≡ xs ++ (h ∷ (ys ++ (k ∷ zs))) → h ≡ k → ⊥
distinct t h k xs ys zs e same = omega (arith, rises_two 0 (block_size t) h k xs ys zs (subst (λ (hs : List ℕ). Rising 0 hs (block_size t)) e (homes_rise t)))

-- what holds of the home around a part of the tree and of the homes made in it holds of the home of each event
module _ (P : ℕ → Type 0) where
  abbrev Housed : List Event → Type 0
  Housed es = All (λ e. P (event_position e).home) es

  join : (xs ys : List Event) → Housed xs → Housed ys → Housed (xs ++ ys)
  join xs ys h k = all_append (λ e. P (event_position e).home) xs ys h k

  if_housed : (z : Bool) (e : Event) → P (event_position e).home → Housed (event_if z e)
  unfolding event_if
  if_housed true e h = (h, tt)
  if_housed false e h = tt

  payload_housed : (n : ℕ) (s : Position) → P s.home → Housed (payload_test n s)
  unfolding payload_test event_position
  payload_housed n s h = if_housed (ltb 65535 n) (payload_too_long n s) h

  length_housed : (n : ℕ) (s : Position) → P s.home → Housed (body_test n s)
  unfolding body_test event_position
  length_housed n s h = if_housed (ltb 65535 n) (body_too_long n s) h

  labels_housed : (es : List Entry) (i : ActionIndex) (s : Position) → P s.home → Housed (labels_at es i s)
  unfolding labels_at event_position
  labels_housed [] i s h = tt
  labels_housed (entry l j ∷ es) i s h = join (event_if (eqb i.index j.index) (label_at l s)) _ (if_housed (eqb i.index j.index) (label_at l s) h) (labels_housed es i s h)

  home_in_lem : (o : Owner) (s : Position) → P s.home → All P (new_home o s.at) → P (home_in o s)
  unfolding head_d
  home_in_lem o s h k = rw (home_made o s) (go (new_home o s.at) k)
    where
      go : (xs : List ℕ) → All P xs → P (head_d xs s.home)
      go [] i = h
      go (x ∷ xs) i = i.0

  mutual
    unfolding trace homes moved event_position

    action_housed : (a : Action) (s : Position) → P s.home → All P (homes a s) → Housed (trace a s)
    action_housed (flat f) s h k = payload_housed _ s h
    action_housed (branch j l) s h k = (h, tt)
    action_housed (owner o b) s h k =
        let inner : P (to_body o s).home = home_in_lem o (moved (5 + length (owner_fields o)) 1 s) h (all_left P (new_home o (to_body o s).at) _ k) in
        join (payload_test _ s) _ (payload_housed _ s h)
        (join (trace_body b (to_body o s)) _ (body_housed b (to_body o s) inner (all_right P (new_home o (to_body o s).at) _ k)) (length_housed _ s h))
    action_housed (Try b c f) s h k =
        let k' = all_right P (homes_body b (to_try c s)) (homes_catch c (to_catch b c s) ++ homes_finally f (to_finally b c s)) k in
        join (payload_test _ s) _ (payload_housed _ s h)
        (join (trace_body b (to_try c s)) _ (body_housed b (to_try c s) h (all_left P (homes_body b (to_try c s)) _ k))
        (join (trace_catch c (to_catch b c s)) _ (catch_housed c (to_catch b c s) h (all_left P (homes_catch c (to_catch b c s)) _ k'))
        (join (trace_finally f (to_finally b c s)) _ (finally_housed f (to_finally b c s) h (all_right P (homes_catch c (to_catch b c s)) _ k'))
        (join (body_test _ s) _ (length_housed _ s h) (join (body_test _ s) _ (length_housed _ s h) (length_housed _ s h))))))

    actions_housed : (xs : ActionList) (es : List Entry) (i : ActionIndex) (s : Position) → P s.home → All P (homes_list xs s) → Housed (traces xs es i s)
    actions_housed empty es i s h k = labels_housed es i s h
    actions_housed (more a xs) es i s h k =
        join (labels_at es i s) _ (labels_housed es i s h)
        (join (trace a s) _ (action_housed a s h (all_left P (homes a s) _ k)) (actions_housed xs es (next_action i) (past a s) h (all_right P (homes a s) _ k)))

    body_housed : (b : Actions) (s : Position) → P s.home → All P (homes_body b s) → Housed (trace_body b s)
    body_housed (body es xs) s h k = actions_housed xs es first_action s h k

    catch_housed : (c : Catch) (s : Position) → P s.home → All P (homes_catch c s) → Housed (trace_catch c s)
    catch_housed no_catch s h k = tt
    catch_housed (catch t b) s h k = body_housed b s h k

    finally_housed : (f : Finally) (s : Position) → P s.home → All P (homes_finally f s) → Housed (trace_finally f s)
    finally_housed no_finally s h k = tt
    finally_housed (finally b) s h k = body_housed b s h k

all_of : (P : ℕ → Type 0) (xs : List ℕ) → ((x : ℕ) → Among x xs → P x) → All P xs
all_of P [] f = tt
all_of P (x ∷ xs) f = (f x (first refl), all_of P xs (λ y m. f y (further m)))

-- so the home of every label and of every branch is that of a function body, "the main block being one"
pub events_housed : (t : Actions) → All (λ e. Among (event_position e).home (homes_of t)) (events t)
unfolding events
events_housed t = body_housed (λ h. Among h (homes_of t)) t block_start (first refl) (all_of _ (homes_body t block_start) (λ x m. further m))
