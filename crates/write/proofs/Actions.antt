-- An action: its head, and what follows by the bodies that it has. Assumes nothing.
use mathlib.Core.Path.{◌≡◌, refl, sym, ap, ◌∙◌, subst}
use Prim.Native.Nat.{ℕ, ◌+◌, ◌-◌, ◌≤◌}
use native.Mathlib.Omega.{arith}
use mathlib.Core.Bool.{Bool, true, false}
use mathlib.Core.Option.{Option, none, some}
use mathlib.Core.List.{List, ◌++◌}
use lib.ListN.{length}
use lib.Seq.{sets}
use Rattle.layout.specs.Tree.{FlatOf, Branch, Owner, OwnerOf, CatchTargetOf, ActionOf, flat, branch, owner, Try, Actions, ActionsOf, Catch, CatchOf, no_catch, catch, FinallyOf, no_finally, finally}
use Rattle.layout.specs.Read.{Text, Place, placed, Reader, got, behind, has_catch, has_finally, read_catch, read_finally, read_action}
use Rattle.layout.specs.Strings.{map_action, map_body, map_owner, map_catch, map_finally}
use Rattle.layout.specs.Payload.{owner_fields, catch_name}
use Rattle.layout.specs.Write.{bytes, size, catch_size, Position, position, moved, to_body, to_try, to_catch, to_finally, Event, payload_test, body_test, trace, trace_catch, trace_finally, finally_size}
use Rattle.layout.proofs.Lengths.{length_bytes}
use Rattle.layout.specs.Judge.{judged, far_unless}
use Rattle.layout.specs.Pack.{spelling}
use Rattle.pcode.specs.Shown.{Shown, small, goto_frame, get_url, store_register, constant_pool, wait_for_frame, set_target, goto_label, wait_for_frame2, define_function2, try, with, push, jump, get_url2, define_function, if, goto_frame2, ShowsAction, ActionReads}
use Rattle.pcode.specs.declared.Action.{Action}
use Rattle.pcode.proofs.Readings.{Gives, gives, given, then, itself, got_behind}
use Rattle.pcode.proofs.Actions.{opcode_room}
use Rattle.encode_flat.specs.Branches.{table_bits}
use Rattle.encode.specs.Heads.{head_bytes, head_of, CatchFrom, FinallyFrom, BodiesFrom, NotFar, Writable, WroteHead}
use Rattle.laws.specs.Resolved.{body_length, action_size, body_events}
use Rattle.write.specs.Bodies.{bodies_of, read_if, read_tried, length_if, length_tried, near_of, near_if, near_tried, near_action, action_of, closed, closed_tried, Room, Wrote}
use Rattle.write.specs.declared.Bodies.{Bodies}
use Rattle.write.specs.declared.Bodies.TheVariants as bodies
use Rattle.editions.specs.Allowed.{read_by}
use Rattle.editions.specs.declared.MainBody.{MainBody}
use Rattle.positions.specs.declared.Spot.{Spot}
use Rattle.std.specs.Prelude as prelude
use Rattle.write.proofs.Blocks.{length_owner, owner_closed, catch_body, finally_body, tried_of, catch_length, finally_length, length_try, try_closed, head_most}
use Rattle.laws.specs.Nears.{NoneFar}
use Rattle.laws.proofs.Nears.{near_left, near_right, near_of_lem, branch_near}
use Rattle.labels.specs.Table.{record_at}

-- ---- the bodies that an action has

-- Whether there is a catch.
abbrev is_catch : CatchOf Text ℕ → Bool
is_catch no_catch = false
is_catch (catch t x) = true

-- Whether there is a finally.
abbrev is_finally : FinallyOf Text ℕ → Bool
is_finally no_finally = false
is_finally (finally x) = true

-- The bodies that the code takes for an action are those that it has.
data Holds : prelude.Option Bodies → ActionOf Text ℕ → Type 0 where
  flat_none : {f : FlatOf Text} → Holds prelude.None (flat f)
  branch_none : {k : Branch} {l : ℕ} → Holds prelude.None (branch k l)
  one : {o : OwnerOf Text} {x : ActionsOf Text ℕ} → Holds (prelude.Some bodies.One) (owner o x)
  tried : {shape : ℕ} {x : ActionsOf Text ℕ} {c : CatchOf Text ℕ} {f : FinallyOf Text ℕ} → has_catch shape ≡ is_catch c → has_finally shape ≡ is_finally f
      → Holds (prelude.Some (bodies.OfTry shape)) (Try x c f)

module _ (m : MainBody) (inner : Reader (ActionsOf Text ℕ)) where
  -- A catch that was read is there where its bit says so.
  catch_there : (t : Bool) (x : CatchTargetOf Text) (p : Place) → Gives (λ c q. t ≡ is_catch c) (read_catch (read_by m) m.b.now inner t x p)
  unfolding read_catch
  catch_there true x p = then (itself (inner p)) (λ a q e. gives refl)
  catch_there false x p = gives refl

  -- So is a finally.
  finally_there : (t : Bool) (p : Place) → Gives (λ f q. t ≡ is_finally f) (read_finally (read_by m) m.b.now inner t p)
  unfolding read_finally
  finally_there true p = then (itself (inner p)) (λ a q e. gives refl)
  finally_there false p = gives refl

  -- For every case of an action.
  holds : {p : ℕ} {a : Action} {x : ActionOf Text ℕ} {q : Place} → Shown m inner p a x q → Holds (bodies_of a) x
  unfolding bodies_of
  holds (small e) = flat_none
  holds goto_frame = flat_none
  holds (get_url u t) = flat_none
  holds store_register = flat_none
  holds (constant_pool e) = flat_none
  holds wait_for_frame = flat_none
  holds (set_target s) = flat_none
  holds (goto_label s) = flat_none
  holds wait_for_frame2 = flat_none
  holds (define_function2 s ps l f i) = one
  holds (try e t i c f) = tried (given (catch_there _ _ _) c) (given (finally_there _ _) f)
  holds (with i) = one
  holds (push e) = flat_none
  holds (jump l) = branch_none
  holds (get_url2 v t) = flat_none
  holds (define_function s ps i) = one
  holds (if l) = branch_none
  holds (goto_frame2 k) = flat_none

-- ---- lengths

-- The length of an action that owns a body: five bytes, the fields and the body.
owner_length : (o : OwnerOf Text) (x : ActionsOf Text ℕ) → action_size (owner o x) ≡ 5 + length (owner_fields (map_owner spelling o)) + body_length x
unfolding map_action size
owner_length o x = refl

-- The length of a Try: ten bytes, the name and its bodies.
try_length : (x : ActionsOf Text ℕ) (c : CatchOf Text ℕ) (f : FinallyOf Text ℕ) → action_size (Try x c f) ≡ 10 + length (catch_name (map_catch spelling c)) + length_tried (tried_of x c f)
unfolding map_action size length_tried
try_length x c f = omega (arith, catch_length c, finally_length f)

-- The head of an action without a body is the whole action.
flat_same : (tab l : List ℕ) (f : FlatOf Text) (i : ℕ) → sets l i (head_of tab (flat f) i) ≡ sets l i (action_of tab (flat f) i)
unfolding head_of head_bytes map_action action_of bytes
flat_same tab l f i = refl

-- And has its length.
flat_long : (tab : List ℕ) (f : FlatOf Text) (i : ℕ) → i + length (head_of tab (flat f) i) ≡ i + action_size (flat f)
unfolding head_of head_bytes map_action size
flat_long tab f i = refl

-- The head of a branch is the whole action.
branch_same : (tab l : List ℕ) (k : Branch) (n i : ℕ) → sets l i (head_of tab (branch k n) i) ≡ sets l i (action_of tab (branch k n) i)
unfolding head_of head_bytes map_action action_of bytes
branch_same tab l k n i = refl

-- And has its length.
branch_long : (tab : List ℕ) (k : Branch) (n i : ℕ) → i + length (head_of tab (branch k n) i) ≡ i + action_size (branch k n)
unfolding head_of head_bytes map_action size bytes
branch_long tab k n i = ap (λ (m : ℕ). i + m) (length_bytes (table_bits tab) (branch k n) i)

-- ---- branches of which none goes too far

-- Whether a branch goes too far does not depend on its action number.
not_far : (o : Option Position) (after k : ℕ) → judged o after k ≡ none → judged o after 0 ≡ none
unfolding judged far_unless
not_far none after k e = refl
not_far (some s) after k e = rw (near_of_lem s after k e) refl

-- What is asked of a head is what is known of a branch.
head_near : (tab : List ℕ) (x : ActionOf Text ℕ) (p : ℕ) → near_action tab x p → NotFar tab x p
unfolding map_action trace
head_near tab (flat f) p h = tt
head_near tab (branch k l) p h = not_far (record_at tab l) (p + 5) (h.number + 0) (branch_near (record_at tab) l (position p h.home h.number) h.none_far)
head_near tab (owner o x) p h = tt
head_near tab (Try x c f) p h = tt

-- The branches of a catch are those of its body, if it is there.
catch_near : (tab : List ℕ) (c : CatchOf Text ℕ) (p home number : ℕ) → NoneFar (record_at tab) (trace_catch (map_catch spelling c) (position p home number)) → near_if tab (catch_body c) p
unfolding map_catch trace_catch
catch_near tab no_catch p home number h = tt
catch_near tab (catch t x) p home number h = record { home = home; number = number; none_far = h }

-- So are those of a finally.
finally_near : (tab : List ℕ) (f : FinallyOf Text ℕ) (p home number : ℕ) → NoneFar (record_at tab) (trace_finally (map_finally spelling f) (position p home number)) → near_if tab (finally_body f) p
unfolding map_finally trace_finally
finally_near tab no_finally p home number h = tt
finally_near tab (finally x) p home number h = record { home = home; number = number; none_far = h }

-- The branches of an action that owns a body are those of the body, behind the head.
owner_near : (tab : List ℕ) (o : OwnerOf Text) (x : ActionsOf Text ℕ) (p end : ℕ) → end ≡ p + (5 + length (owner_fields (map_owner spelling o))) → near_action tab (owner o x) p → near_of tab x end
unfolding map_action trace moved
owner_near tab o x p end e h =
    let o' : Owner = map_owner spelling o in
    let s : Position = position p h.home h.number in
    let y : List Event = body_events x (to_body o' s) in
    let z : List Event = body_test (body_length x) s in
    let k : NoneFar (record_at tab) (y ++ z) = near_right (record_at tab) (payload_test (length (owner_fields o') + 2) s) (y ++ z) h.none_far in
    rw e (record { home = (to_body o' s).home; number = (to_body o' s).number; none_far = near_left (record_at tab) y z k })

-- The branches of a Try are those of its bodies, one behind the other.
try_near : (tab : List ℕ) (x : ActionsOf Text ℕ) (c : CatchOf Text ℕ) (f : FinallyOf Text ℕ) (p end : ℕ) → end ≡ p + (10 + length (catch_name (map_catch spelling c)))
    → near_action tab (Try x c f) p → near_tried tab (tried_of x c f) end
unfolding map_action trace moved
try_near tab x c f p end e h =
    let x' : Actions = map_body spelling x in
    let c' : Catch = map_catch spelling c in
    let s : Position = position p h.home h.number in
    let third : end + body_length x + length_if (catch_body c) ≡ p + (10 + length (catch_name c')) + (body_length x + catch_size c') = omega (arith, e, catch_length c) in
    let y₁ : List Event = body_events x (to_try c' s) in
    let y₂ : List Event = trace_catch c' (to_catch x' c' s) in
    let y₃ : List Event = trace_finally (map_finally spelling f) (to_finally x' c' s) in
    let z : List Event = body_test (body_length x) s ++ (body_test (catch_size c') s ++ body_test (finally_size (map_finally spelling f)) s) in
    let h₁ : NoneFar (record_at tab) (y₁ ++ (y₂ ++ (y₃ ++ z))) = near_right (record_at tab) (payload_test (7 + length (catch_name c')) s) (y₁ ++ (y₂ ++ (y₃ ++ z))) h.none_far in
    let h₂ : NoneFar (record_at tab) (y₂ ++ (y₃ ++ z)) = near_right (record_at tab) y₁ (y₂ ++ (y₃ ++ z)) h₁ in
    let h₃ : NoneFar (record_at tab) (y₃ ++ z) = near_right (record_at tab) y₂ (y₃ ++ z) h₂ in (
      subst (λ (n : ℕ). near_of tab x n) (sym e) (record { home = h.home; number = (to_try c' s).number; none_far = near_left (record_at tab) y₁ (y₂ ++ (y₃ ++ z)) h₁ }),
      catch_near tab c (end + body_length x) h.home (to_catch x' c' s).number (rw e (near_left (record_at tab) y₂ (y₃ ++ z) h₂)),
      finally_near tab f (end + body_length x + length_if (catch_body c)) h.home (to_finally x' c' s).number (rw third (near_left (record_at tab) y₃ z h₃)),
    )

-- ---- reading goes on with the bodies

-- A catch is read as its body, if it is there.
catch_read : (inner : Reader (ActionsOf Text ℕ)) (t : Bool) (r : Place) (c : CatchOf Text ℕ) (s : Place) → t ≡ is_catch c → CatchFrom inner r c s → read_if t inner r ≡ got (catch_body c) s
unfolding read_if
catch_read inner t r no_catch s e h = rw (e, h) refl
catch_read inner t r (catch u x) s e h = rw (e, h) refl

-- So is a finally.
finally_read : (inner : Reader (ActionsOf Text ℕ)) (t : Bool) (r : Place) (f : FinallyOf Text ℕ) (s : Place) → t ≡ is_finally f → FinallyFrom inner r f s
    → read_if t inner r ≡ got (finally_body f) s
unfolding read_if
finally_read inner t r no_finally s e h = rw (e, h) refl
finally_read inner t r (finally x) s e h = rw (e, h) refl

-- The bodies of an action stand behind it. Where they were read, the count of the actions before them does not matter.
owned : (inner : Reader (ActionsOf Text ℕ)) (next : ℕ) (x : ActionOf Text ℕ) (q : Place) → BodiesFrom (behind 1 inner) next x q → BodiesFrom inner next x q
owned inner next (flat f) q h = h
owned inner next (branch k l) q h = h
owned inner next (owner o a) q h = got_behind 1 h
owned inner next (Try a c f) q (r, s, h, i, j) = (r, s, got_behind 1 h, owned_catch c i, owned_finally f j)
  where
    owned_catch : (c : CatchOf Text ℕ) → CatchFrom (behind 1 inner) r c s → CatchFrom inner r c s
    owned_catch no_catch i = i
    owned_catch (catch t a) i = got_behind 1 i

    owned_finally : (f : FinallyOf Text ℕ) → FinallyFrom (behind 1 inner) s f q → FinallyFrom inner s f q
    owned_finally no_finally j = j
    owned_finally (finally a) j = got_behind 1 j

-- The bodies of a Try are read one behind the other.
tried_read : (inner : Reader (ActionsOf Text ℕ)) (shape next : ℕ) (x : ActionsOf Text ℕ) (c : CatchOf Text ℕ) (f : FinallyOf Text ℕ) (q : Place)
    → has_catch shape ≡ is_catch c → has_finally shape ≡ is_finally f → BodiesFrom inner next (Try x c f) q → read_tried shape inner (placed next) ≡ got (tried_of x c f) q
unfolding read_tried
tried_read inner shape next x c f q d e h = rw (h.2, catch_read inner (has_catch shape) h.0 c h.1 d h.3, finally_read inner (has_finally shape) h.1 f q e h.4) refl

-- ---- what is asked and left

module _ (m : MainBody) (inner : Reader (ActionsOf Text ℕ)) {tab out : List ℕ} {at pos : ℕ} where
  -- There is an action to read.
  pub reads_action : Room m (read_action (read_by m) m.b.now (behind 1 inner)) action_size near_action at pos tab out → ActionReads m at
  reads_action r = record { inner = behind 1 inner; action = r.value; next = r.next; reads = r.reads }

  module _ {a : Action} (s : ShowsAction m at a) where
    -- Its head has room.
    pub head_room : Room m (read_action (read_by m) m.b.now (behind 1 inner)) action_size near_action at pos tab out → Writable m at a pos tab out
    head_room r =
        record {
          bytes = r.bytes;
          inner = behind 1 inner;
          action = r.value;
          next = r.next;
          shown = s.shows (behind 1 inner) r.value r.next r.reads;
          slots = r.slots;
          near = head_near tab r.value pos r.nearby;
          room = omega (arith, head_most tab r.value pos, r.room);
          sums = r.sums;
          places = omega (arith, opcode_room (reads_action r), r.places);
        }

    module _ {mid : List ℕ} {e : Spot} (h : WroteHead m at a pos tab out mid e) where
      -- What is known of an action that is read there, once its head is written.
      record Headed (k : prelude.Option Bodies) (x : ActionOf Text ℕ) (q : Place) : Type 0 where
        pub has : Holds k x
        pub head : mid ≡ sets out pos (head_of tab x pos)
        pub reach : e.pos.0 ≡ pos + length (head_of tab x pos)
        pub from : BodiesFrom inner e.at x q

      -- For every action that is read there.
      headed : (k : prelude.Option Bodies) → bodies_of a ≡ k → (x : ActionOf Text ℕ) (q : Place) → read_action (read_by m) m.b.now (behind 1 inner) (placed at) ≡ got x q → Headed k x q
      headed k u x q r =
          let t = s.shows (behind 1 inner) x q r in
          let w = h.wrote (behind 1 inner) x q t in
          record { has = subst (λ (j : prelude.Option Bodies). Holds j x) u (holds m (behind 1 inner) t); head = w.0; reach = w.1; from = owned inner e.at x q w.2 }

      -- An action without a body is written.
      pub none_wrote : bodies_of a ≡ prelude.None
          → Wrote (read_action (read_by m) m.b.now (behind 1 inner)) action_size (λ x. sets out pos (action_of tab x pos)) at pos mid e
      none_wrote u = record { wrote = λ x q r. (none_at x q r).0; ends = record { ended = λ x q r. (none_at x q r).1 } }
        where
          none_go : (x : ActionOf Text ℕ) (q : Place) → Holds prelude.None x → mid ≡ sets out pos (head_of tab x pos) → e.pos.0 ≡ pos + length (head_of tab x pos) → BodiesFrom inner e.at x q
              → (mid ≡ sets out pos (action_of tab x pos)) × ((e.pos.0 ≡ pos + action_size x) × (e.at ≡ q.at))
          none_go (flat f) q flat_none m k n = (m ∙ flat_same tab out f pos, (k ∙ flat_long tab f pos, ap (λ (o : Place). o.at) (sym n)))
          none_go (branch j l) q branch_none m k n = (m ∙ branch_same tab out j l pos, (k ∙ branch_long tab j l pos, ap (λ (o : Place). o.at) (sym n)))
          none_go (owner action actions) q h m k n = elim h [ ]
          none_go (Try try_body _ _) q h m k n = elim h [ ]

          none_at : (x : ActionOf Text ℕ) (q : Place) → read_action (read_by m) m.b.now (behind 1 inner) (placed at) ≡ got x q
              → (mid ≡ sets out pos (action_of tab x pos)) × ((e.pos.0 ≡ pos + action_size x) × (e.at ≡ q.at))
          none_at x q r =
              let g = headed prelude.None u x q r in
              none_go x q g.has g.head g.reach g.from

      -- The one body of an action has room, and its length stands two bytes before it.
      pub one_room : bodies_of a ≡ prelude.Some bodies.One → Room m (read_action (read_by m) m.b.now (behind 1 inner)) action_size near_action at pos tab out → length mid ≡ length out
          → Room m inner body_length near_of e.at e.pos.0 tab mid × (e.pos.0 - 2 + 2 ≤ e.pos.0)
      one_room u r l = let g = headed (prelude.Some bodies.One) u r.value r.next r.reads in one_go r.value r.next g.has g.reach g.from r.room r.nearby
        where
          one_go : (x : ActionOf Text ℕ) (q : Place) → Holds (prelude.Some bodies.One) x → e.pos.0 ≡ pos + length (head_of tab x pos) → BodiesFrom inner e.at x q → pos + action_size x ≤ length out → near_action tab x pos
              → Room m inner body_length near_of e.at e.pos.0 tab mid × (e.pos.0 - 2 + 2 ≤ e.pos.0)
          one_go (owner o x) q one k n m i =
              let h = length_owner tab o x pos in (
                record {
                  bytes = r.bytes;
                  value = x;
                  next = q;
                  reads = n;
                  slots = r.slots;
                  nearby = owner_near tab o x pos e.pos.0 (omega (arith, h, k)) i;
                  room = omega (arith, h, k, m, l, owner_length o x);
                  sums = omega (arith, r.sums, l);
                  places = r.places;
                },
                omega (arith, h, k),
              )
          one_go (flat action) q h k n m i = elim h [ ]
          one_go (branch kind label) q h k n m i = elim h [ ]
          one_go (Try try_body _ _) q h k n m i = elim h [ ]

      -- It was written with its length, and so the action is.
      pub one_wrote : bodies_of a ≡ prelude.Some bodies.One → (new : List ℕ) (r : Spot) → Wrote inner body_length (closed tab mid e.pos.0 (e.pos.0 - 2)) e.at e.pos.0 new r
          → Wrote (read_action (read_by m) m.b.now (behind 1 inner)) action_size (λ x. sets out pos (action_of tab x pos)) at pos new r
      one_wrote u new r w = record { wrote = λ x q t. (one_at x q t).0; ends = record { ended = λ x q t. (one_at x q t).1 } }
        where
          one_go : (x : ActionOf Text ℕ) (q : Place) → Holds (prelude.Some bodies.One) x → mid ≡ sets out pos (head_of tab x pos) → e.pos.0 ≡ pos + length (head_of tab x pos) → BodiesFrom inner e.at x q
              → (new ≡ sets out pos (action_of tab x pos)) × ((r.pos.0 ≡ pos + action_size x) × (r.at ≡ q.at))
          one_go (owner o x) q one m k n =
              let v = w.ends.ended x q n in
              (w.wrote x q n ∙ owner_closed tab out mid o x pos e.pos.0 m k, (omega (arith, v.0, k, length_owner tab o x pos, owner_length o x), v.1))
          one_go (flat action) q h m k n = elim h [ ]
          one_go (branch kind label) q h m k n = elim h [ ]
          one_go (Try try_body _ _) q h m k n = elim h [ ]

          one_at : (x : ActionOf Text ℕ) (q : Place) → read_action (read_by m) m.b.now (behind 1 inner) (placed at) ≡ got x q
              → (new ≡ sets out pos (action_of tab x pos)) × ((r.pos.0 ≡ pos + action_size x) × (r.at ≡ q.at))
          one_at x q t =
              let g = headed (prelude.Some bodies.One) u x q t in
              one_go x q g.has g.head g.reach g.from

      -- The bodies of a Try have room, and their lengths stand from four bytes after its start on.
      pub tried_room : (shape from : ℕ) → from ≡ pos + 4 → bodies_of a ≡ prelude.Some (bodies.OfTry shape) → Room m (read_action (read_by m) m.b.now (behind 1 inner)) action_size near_action at pos tab out → length mid ≡ length out
          → Room m (read_tried shape inner) length_tried near_tried e.at e.pos.0 tab mid × (from + 6 ≤ e.pos.0)
      tried_room shape from z u r l = let g = headed (prelude.Some (bodies.OfTry shape)) u r.value r.next r.reads in tried_go r.value r.next g.has g.reach g.from r.room r.nearby
        where
          tried_go : (x : ActionOf Text ℕ) (q : Place) → Holds (prelude.Some (bodies.OfTry shape)) x → e.pos.0 ≡ pos + length (head_of tab x pos) → BodiesFrom inner e.at x q → pos + action_size x ≤ length out → near_action tab x pos
              → Room m (read_tried shape inner) length_tried near_tried e.at e.pos.0 tab mid × (from + 6 ≤ e.pos.0)
          tried_go (Try x c f) q (tried i j) k n m d =
              let h = length_try tab x c f pos in (
                record {
                  bytes = r.bytes;
                  value = tried_of x c f;
                  next = q;
                  reads = tried_read inner shape e.at x c f q i j n;
                  slots = r.slots;
                  nearby = try_near tab x c f pos e.pos.0 (omega (arith, h, k)) d;
                  room = omega (arith, h, k, m, l, try_length x c f);
                  sums = omega (arith, r.sums, l);
                  places = r.places;
                },
                omega (arith, h, k, z),
              )
          tried_go (flat action) q h k n m d = elim h [ ]
          tried_go (branch kind label) q h k n m d = elim h [ ]
          tried_go (owner action actions) q h k n m d = elim h [ ]

      -- They were written with their lengths, and so the action is.
      pub tried_wrote : (shape from : ℕ) → from ≡ pos + 4 → bodies_of a ≡ prelude.Some (bodies.OfTry shape) → (new : List ℕ) (r : Spot) → Wrote (read_tried shape inner) length_tried (closed_tried tab mid e.pos.0 from) e.at e.pos.0 new r
          → Wrote (read_action (read_by m) m.b.now (behind 1 inner)) action_size (λ x. sets out pos (action_of tab x pos)) at pos new r
      tried_wrote shape from z u new r w = record { wrote = λ x q t. (tried_at x q t).0; ends = record { ended = λ x q t. (tried_at x q t).1 } }
        where
          tried_go : (x : ActionOf Text ℕ) (q : Place) → Holds (prelude.Some (bodies.OfTry shape)) x → mid ≡ sets out pos (head_of tab x pos) → e.pos.0 ≡ pos + length (head_of tab x pos) → BodiesFrom inner e.at x q
              → (new ≡ sets out pos (action_of tab x pos)) × ((r.pos.0 ≡ pos + action_size x) × (r.at ≡ q.at))
          tried_go (Try x c f) q (tried i j) m k n =
              let t = tried_read inner shape e.at x c f q i j n in
              let v = w.ends.ended (tried_of x c f) q t in
              (w.wrote (tried_of x c f) q t ∙ ap (λ (i : ℕ). closed_tried tab mid e.pos.0 i (tried_of x c f)) z ∙ try_closed tab out mid x c f pos e.pos.0 m k, (omega (arith, v.0, k, length_try tab x c f pos, try_length x c f), v.1))
          tried_go (flat action) q h m k n = elim h [ ]
          tried_go (branch kind label) q h m k n = elim h [ ]
          tried_go (owner action actions) q h m k n = elim h [ ]

          tried_at : (x : ActionOf Text ℕ) (q : Place) → read_action (read_by m) m.b.now (behind 1 inner) (placed at) ≡ got x q
              → (new ≡ sets out pos (action_of tab x pos)) × ((r.pos.0 ≡ pos + action_size x) × (r.at ≡ q.at))
          tried_at x q t =
              let g = headed (prelude.Some (bodies.OfTry shape)) u x q t in
              tried_go x q g.has g.head g.reach g.from
