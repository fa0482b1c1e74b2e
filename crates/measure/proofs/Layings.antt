-- What a payload's scan says of its action: laws for actions without a body and for those that own one. Assumes nothing.
use mathlib.Core.Path.{◌≡◌, refl, sym, ap, ◌∙◌}
use Prim.Native.Nat.{ℕ, ◌+◌, ◌≤◌, ◌<◌}
use native.Mathlib.Omega.{arith}
use native.Mathlib.Nat.{add-zero}
use mathlib.Core.Bool.{Bool, true, false}
use mathlib.Core.List.{List, [], ◌∷◌, ◌++◌, append-nil}
use lib.ListN.{length}
use lib.Dec.{ltb}
use borrow.Author.Tests.{ltb-true, ltb-false}
use Rattle.layout.specs.OpCode.{byte}
use Rattle.layout.specs.Answers as answers
use Rattle.layout.specs.Tree.{FlatOf, OwnerOf, With, DefineFunction, DefineFunction2, ActionOf, flat, branch, Branch, owner, ActionsOf, count, body_count}
use Rattle.layout.specs.Read.{Text, Terms, Place, placed, stop, Read, got, bad, Reader, chain, more_begun, behind}
use Rattle.layout.specs.Strings.{map_flat, map_owner, map_action, map_body}
use Rattle.layout.specs.Payload.{opcode, payload, owner_fields}
use Rattle.layout.specs.Write.{size, body_size, Position, position, Event, moved, home_in, to_body, payload_test, body_test, trace, trace_body}
use Rattle.layout.specs.Lengths.{total, owner_length}
use Rattle.layout.proofs.Lengths.{length_payload, length_framed, length-owner_fields}
use Rattle.layout.specs.Pack.{spelling}
use Rattle.labels.specs.Table.{Tables}
use Rattle.positions.specs.declared.BytePosition.{BytePosition}
use Rattle.positions.specs.Scanned.{fault_of, scanned}
use Rattle.std.specs.Prelude.{Option, Result, Ok}
use Rattle.positions.specs.declared.Spot.{Spot}
use Rattle.positions.specs.declared.Stop as code
use Rattle.measure.specs.declared.Limit.TheVariants.{ActionLen, BlockLen}
use Rattle.measure.specs.declared.Overflow.{Overflow}
use Rattle.measure.specs.declared.Laid.{Laid}
use Rattle.measure.specs.declared.Laid.TheVariants as laid
use Rattle.action_fields.specs.Fields.{flat_size, owner_size, read_caught, caught_size}
use Rattle.laws.specs.Begun.{Fields}
use Rattle.laws.specs.Resolved.{action_size, action_trace, body_length}
use Rattle.measure.specs.Walk.{State, state, overflow, noted_if, run, fault, outcome, branches, uncounted, measured, in_turn, in_bodies, body_tests, bodies_events, Onward, Owning, Laying, laid_by, branch_laid, noted_from, EndsFrom, Tried}
use Rattle.positions.proofs.Answers.{ok_not_err}
use Rattle.action_fields.proofs.Steps.{caught_out}
use Rattle.measure.proofs.Runs.{run_append, run_payload, run_body, noted_short, outcome_got, branches_append, branches_payload, branches_after, branches_body, measured_got}

-- ---- an action without a body

flat_size_lem : (f : FlatOf Text) → ltb (byte (opcode (map_flat spelling f))) 128 ≡ false → action_size (flat f) ≡ 3 + flat_size f
unfolding size map_action flat_size
flat_size_lem f h = length_framed (opcode (map_flat spelling f)) (payload (map_flat spelling f)) h ∙ ap (λ (n : ℕ). 3 + n) (length_payload (map_flat spelling f))

flat_run : (f : FlatOf Text) (s : Position) (tab : Tables) (over : Option Overflow) → run (action_trace (flat f) s) (state tab over) ≡ state tab (noted_if (overflow ActionLen (flat_size f) s.number) over)
unfolding trace map_action flat_size
flat_run f s tab over = run_payload (length (payload (map_flat spelling f))) _ tab over ∙ ap (λ (n : ℕ). state tab (noted_if (overflow ActionLen n s.number) over)) (length_payload (map_flat spelling f))

flat_branches : (f : FlatOf Text) (s : Position) → [] ≡ branches (action_trace (flat f) s)
unfolding trace map_action
flat_branches f s = sym (branches_payload (length (payload (map_flat spelling f))) _)

-- an opcode from 80 on
abbrev pub Long : FlatOf Text → Type 0
Long f = ltb (byte (opcode (map_flat spelling f))) 128 ≡ false

module _ {A : Type 0} (read : Reader (ActionsOf Text ℕ) → Read (ActionOf Text ℕ)) (g : A → FlatOf Text) (at end pos number : ℕ) (over : Option Overflow) (s : A → ℕ) (w : ℕ)
    (is-size : (a : A) → w + s a ≡ pos + 3 + flat_size (g a)) where
  abbrev Reads : Read A → Type 0
  Reads x = (inner : Reader (ActionsOf Text ℕ)) → read inner ≡ chain x (λ a q. got (flat (g a)) q)

  module _ {bound : ℕ} where
    long_got : (a : A) (q : Place) → Reads (got a q) → Long (g a)
        → Laying bound read at end pos number over (noted_from (pos + 3) number (scanned s w (got a q)) over) (laid_by laid.Flat (scanned s w (got a q)))
    unfolding scanned count
    long_got a q h l =
        Laying.flat {after = record { at = q.at; pos = record { 0 = w + s a } }}
        (λ inner tab home. outcome_got action_size count action_trace (position pos home number) (state tab over) (h inner) (omega (arith, is-size a, flat_size_lem (g a) l)) refl
        (ap (λ (n : ℕ). state tab (noted_if (overflow ActionLen n number) over)) (omega (arith, is-size a)) ∙ sym (flat_run (g a) (position pos home number) tab over)))
        (λ inner home. measured_got action_size count action_trace (position pos home number) (h inner) (omega (arith, is-size a, flat_size_lem (g a) l)) refl (flat_branches (g a) (position pos home number)))

    flat_got : (a : A) (q : Place) → Reads (got a q) → Long (g a) → flat_size (g a) ≤ 65535 → Laying bound read at end pos number over over (laid_by laid.Flat (scanned s w (got a q)))
    unfolding scanned count
    flat_got a q h l short =
        Laying.flat {after = record { at = q.at; pos = record { 0 = w + s a } }}
        (λ inner tab home. outcome_got action_size count action_trace (position pos home number) (state tab over) (h inner) (omega (arith, is-size a, flat_size_lem (g a) l)) refl
        (ap (state tab) (noted_short (overflow ActionLen (flat_size (g a)) number) over short) ∙ sym (flat_run (g a) (position pos home number) tab over)))
        (λ inner home. measured_got action_size count action_trace (position pos home number) (h inner) (omega (arith, is-size a, flat_size_lem (g a) l)) refl (flat_branches (g a) (position pos home number)))

    flat_bad : (f : answers.Fault) (q : ℕ) (over' : Option Overflow) → Reads (bad f (stop (placed q))) → Laying bound read at end pos number over over' (laid_by laid.Flat (scanned s w (bad f (stop (placed q)))))
    unfolding scanned outcome
    flat_bad f q over' h = Laying.stops {s = record { fault = fault_of f; place = q }} (λ inner t home. rw (h inner, add-zero number))

    -- its payload may be too long
    pub lay_long : {p : Place} (x : Read A) → Fields p x → Reads x → ((a : A) (q : Place) → x ≡ got a q → Long (g a)) → (over' : Option Overflow) (r : Result Spot code.Stop) (l : Result Laid code.Stop)
        → r ≡ scanned s w x → l ≡ laid_by laid.Flat r → over' ≡ noted_from (pos + 3) number r over → Laying bound read at end pos number over over' l
    lay_long {p} x i h k over' r l e m n = rw (m, n, e) (go i h k)
      where
        go : {x : Read A} → Fields p x → Reads x → ((a : A) (q : Place) → x ≡ got a q → Long (g a)) → Laying bound read at end pos number over (noted_from (pos + 3) number (scanned s w x) over) (laid_by laid.Flat (scanned s w x))
        go (Fields.read {a = a} {q = q} i) h k = long_got a q h (k a q refl)
        go (Fields.met {f = f} {n = q} i) h k = flat_bad f q _ h

    -- it never is
    pub lay_flat : {p : Place} (x : Read A) → Fields p x → Reads x → ((a : A) (q : Place) → x ≡ got a q → Long (g a) × (flat_size (g a) ≤ 65535)) → (r : Result Spot code.Stop) (l : Result Laid code.Stop)
        → r ≡ scanned s w x → l ≡ laid_by laid.Flat r → Laying bound read at end pos number over over l
    lay_flat {p} x i h k r l e m = rw (m, e) (go i h k)
      where
        go : {x : Read A} → Fields p x → Reads x → ((a : A) (q : Place) → x ≡ got a q → Long (g a) × (flat_size (g a) ≤ 65535)) → Laying bound read at end pos number over over (laid_by laid.Flat (scanned s w x))
        go (Fields.read {a = a} {q = q} i) h k = flat_got a q h (k a q refl).0 (k a q refl).1
        go (Fields.met {f = f} {n = q} i) h k = flat_bad f q over h

-- ---- a branch

module _ {bound : ℕ} (read : Reader (ActionsOf Text ℕ) → Read (ActionOf Text ℕ)) (k : Branch) (x : Read ℕ) (is_read : (inner : Reader (ActionsOf Text ℕ)) → read inner ≡ chain x (λ l q. got (branch k l) q))
    (under : (l : ℕ) (q : Place) → x ≡ got l q → l < bound) where
  pub lay_branch : {p : Place} → Fields p x → (at end pos number w : ℕ) (over : Option Overflow) (l : Result Laid code.Stop) → w ≡ pos + 3 → l ≡ branch_laid w x → Laying bound read at end pos number over over l
  lay_branch {p} i at end pos number w over l f m = rw (m, f) (go i is_read under)
    where
      go : {x : Read ℕ} → Fields p x → ((inner : Reader (ActionsOf Text ℕ)) → read inner ≡ chain x (λ l q. got (branch k l) q)) → ((l : ℕ) (q : Place) → x ≡ got l q → l < bound)
          → Laying bound read at end pos number over over (branch_laid (pos + 3) x)
      go (Fields.read {a = n} {q = q} i) h u = unfold branch_laid in Laying.to_label {after = record { at = q.at; pos = record { 0 = pos + 3 + 2 } }} {label = n} {k = k} (omega arith) (u n q refl) refl h
      go (Fields.met {f = f} {n = q} i) h u = unfold branch_laid in Laying.stops {s = record { fault = fault_of f; place = q }} (λ inner t home. unfold outcome in rw (h inner, add-zero number))

-- ---- an action that owns a body

module _ (read : Reader (ActionsOf Text ℕ) → Read (ActionOf Text ℕ)) (o : OwnerOf Text) (inner : Reader (ActionsOf Text ℕ)) (pos home number w q : ℕ) (is-size : w ≡ pos + 3 + owner_size o) where
  -- where it stands, and where its body does
  abbrev here : Position
  here = position pos home number

  abbrev pub body_start : Position
  body_start = position w (home_in (map_owner spelling o) (position w home (number + 1))) (number + 1)

  body_at : to_body (map_owner spelling o) here ≡ body_start
  unfolding owner_size moved
  body_at =
      let e : pos + (5 + length (owner_fields (map_owner spelling o))) ≡ w = omega (arith, is-size, length-owner_fields (map_owner spelling o)) in
      ap (λ (v : ℕ). position v (home_in (map_owner spelling o) (position v home (number + 1))) (number + 1)) e

  -- the events of its body and their test, after the test of its payload
  owner_run : (tab : Tables) (over : Option Overflow) (y : ActionsOf Text ℕ)
      → run (action_trace (owner o y) here) (state tab over) ≡ run (bodies_events number (y ∷ []) body_start) (state tab (noted_if (overflow ActionLen (owner_size o) number) over))
  unfolding trace map_action bodies_events in_bodies body_tests owner_size
  owner_run tab over y =
      let n : ℕ = length (owner_fields (map_owner spelling o)) + 2 in
      let u : Position = to_body (map_owner spelling o) here in
      let b = map_body spelling y in
      run_append (payload_test n here) (trace_body b u ++ body_test (body_size b) here) (state tab over)
      ∙ ap (run (trace_body b u ++ body_test (body_size b) here)) (run_payload n here tab over ∙ ap (λ (m : ℕ). state tab (noted_if (overflow ActionLen m number) over)) (length-owner_fields (map_owner spelling o)))
      ∙ run_append (trace_body b u) (body_test (body_size b) here) _
      ∙ tests (body_size b) here tested (run (trace_body b u) _) refl
      ∙ ap (λ (v : Position). run (body_test (body_size b) tested) (run (trace_body b v) (state tab (noted_if (overflow ActionLen (owner_length (map_owner spelling o)) number) over)))) body_at
      ∙ sym (run_append (trace_body b body_start) (body_test (body_size b) tested) _)
      ∙ sym (simp append-nil)
    where
      tested : Position
      tested = position body_start.at body_start.home number

      tests : (n : ℕ) (p p' : Position) (s : State) → p.number ≡ p'.number → run (body_test n p) s ≡ run (body_test n p') s
      tests n p p' s e = run_body n p s.labels s.over ∙ ap (λ (k : ℕ). state s.labels (noted_if (overflow BlockLen n k) s.over)) e ∙ sym (run_body n p' s.labels s.over)

  owner_size_lem : (y : ActionsOf Text ℕ) → pos + action_size (owner o y) ≡ w + total body_length (y ∷ [])
  unfolding size map_action total owner_size
  owner_size_lem y = omega (arith, is-size, length-owner_fields (map_owner spelling o))

  owner_count : (y : ActionsOf Text ℕ) → number + count (owner o y) ≡ number + 1 + total body_count (y ∷ [])
  unfolding count total
  owner_count y = omega arith

  owner_outcome : (tab : Tables) (over : Option Overflow) → read (behind 1 inner) ≡ chain (more_begun 1 (inner (placed q))) (λ y r. got (owner o y) r)
      → outcome action_size count action_trace here (state tab over) (read (behind 1 inner))
      ≡ outcome (total body_length) (total body_count) (bodies_events number) body_start (state tab (noted_if (overflow ActionLen (owner_size o) number) over)) (in_turn inner 1 (placed q))
  unfolding in_turn
  owner_outcome tab over e = rw e (go (inner (placed q)))
    where
      go : (y : Read (ActionsOf Text ℕ)) → outcome action_size count action_trace here (state tab over) (chain (more_begun 1 y) (λ y r. got (owner o y) r))
          ≡ outcome (total body_length) (total body_count) (bodies_events number) body_start (state tab (noted_if (overflow ActionLen (owner_size o) number) over)) (chain y (λ a u. chain (got [] u) (λ xs v. got (a ∷ xs) v)))
      go (got y r) = unfold outcome in rw (owner_size_lem y, owner_count y, owner_run tab over y)
      go (bad f r) = unfold outcome in ap (fault (fault_of f) r.at) (omega arith)

  -- and its branches are those of its body
  owner_branches : (y : ActionsOf Text ℕ) → branches (action_trace (owner o y) here) ≡ branches (in_bodies (y ∷ []) body_start)
  unfolding trace map_action in_bodies
  owner_branches y =
      let u : Position = to_body (map_owner spelling o) here in
      let b = map_body spelling y in
      branches_after _ _ (trace_body b u ++ body_test (body_size b) here)
      ∙ branches_append (trace_body b u) (body_test (body_size b) here)
      ∙ ap (λ (es : List Event). branches (trace_body b u) ++ es) (branches_body (body_size b) here)
      ∙ append-nil (branches (trace_body b u))
      ∙ ap (λ (v : Position). branches (trace_body b v)) body_at
      ∙ ap branches (sym (append-nil (trace_body b body_start)))

  owner_measured : read (behind 1 inner) ≡ chain (more_begun 1 (inner (placed q))) (λ y r. got (owner o y) r)
      → measured action_size count action_trace here (read (behind 1 inner)) ≡ measured (total body_length) (total body_count) in_bodies body_start (in_turn inner 1 (placed q))
  unfolding in_turn
  owner_measured e = rw e (go (inner (placed q)))
    where
      go : (y : Read (ActionsOf Text ℕ)) → measured action_size count action_trace here (chain (more_begun 1 y) (λ y r. got (owner o y) r))
          ≡ measured (total body_length) (total body_count) in_bodies body_start (chain y (λ a u. chain (got [] u) (λ xs v. got (a ∷ xs) v)))
      go (got y r) = unfold measured uncounted in rw (owner_size_lem y, owner_count y, owner_branches y)
      go (bad f r) = unfold measured uncounted in refl

-- what is told of an owner whose fields were read; `inside` tells its body's home from its own
module _ (read : Reader (ActionsOf Text ℕ) → Read (ActionOf Text ℕ)) (o : OwnerOf Text) (q : Place) (is_read : (inner : Reader (ActionsOf Text ℕ)) → read inner ≡ chain (inner q) (λ y r. got (owner o y) r))
    (at end pos number : ℕ) (w : BytePosition) (is-size : w.0 ≡ pos + 3 + owner_size o) (onward : Onward at end pos q.at w.0)
    (inside : ℕ → ℕ) (is-inside : (home : ℕ) → home_in (map_owner spelling o) (position w.0 home (number + 1)) ≡ inside home) where
  pub owning : (over over' : Option Overflow) → over' ≡ noted_if (overflow ActionLen (owner_size o) number) over → Owning read at end pos number over over' (record { at = q.at; pos = w }) 1 inside
  owning over over' e =
      rw e (record {
        onward = onward;
        runs = λ inner tab home. owner_outcome read o inner pos home number w.0 q.at is-size tab over (is_read (behind 1 inner))
            ∙ ap (λ (h : ℕ). outcome (total body_length) (total body_count) (bodies_events number) (position w.0 h (number + 1)) (state tab (noted_if (overflow ActionLen (owner_size o) number) over)) (in_turn inner 1 q)) (is-inside home);
        measures = λ inner home. owner_measured read o inner pos home number w.0 q.at is-size (is_read (behind 1 inner))
            ∙ ap (λ (h : ℕ). measured (total body_length) (total body_count) in_bodies (position w.0 h (number + 1)) (in_turn inner 1 q)) (is-inside home);
      })

-- the fields of a function, not of a With
abbrev pub IsFunction : OwnerOf Text → Type 0
IsFunction With = ⊥
IsFunction (DefineFunction name ps) = Unit {0}
IsFunction (DefineFunction2 name ps r f) = Unit {0}

-- a function's body has its own start as its home
function_home : (o : OwnerOf Text) → IsFunction o → (s : Position) → home_in (map_owner spelling o) s ≡ s.at
unfolding home_in map_owner
function_home With k s = absurd k
function_home (DefineFunction name ps) k s = refl
function_home (DefineFunction2 name ps r f) k s = refl

module _ {bound : ℕ} (read : Reader (ActionsOf Text ℕ) → Read (ActionOf Text ℕ)) (x : Read (OwnerOf Text))
    (is_read : (inner : Reader (ActionsOf Text ℕ)) → read inner ≡ chain x (λ o q. chain (inner q) (λ y r. got (owner o y) r)))
    (at end pos number : ℕ) (onward : (o : OwnerOf Text) (q : Place) → x ≡ got o q → IsFunction o × Onward at end pos q.at (pos + 3 + owner_size o)) where
  pub lay_function : {p : Place} → Fields p x → (over over' : Option Overflow) (r : Result Spot code.Stop) (l : Result Laid code.Stop) → r ≡ scanned owner_size (pos + 3) x → l ≡ laid_by laid.Function r → over' ≡ noted_from (pos + 3) number r over → Laying bound read at end pos number over over' l
  lay_function {p} j over over' r l e m n = rw (m, n, e) (go j is_read onward)
    where
      go : {x : Read (OwnerOf Text)} → Fields p x → ((inner : Reader (ActionsOf Text ℕ)) → read inner ≡ chain x (λ o q. chain (inner q) (λ y r. got (owner o y) r)))
          → ((o : OwnerOf Text) (q : Place) → x ≡ got o q → IsFunction o × Onward at end pos q.at (pos + 3 + owner_size o))
          → Laying bound read at end pos number over (noted_from (pos + 3) number (scanned owner_size (pos + 3) x) over) (laid_by laid.Function (scanned owner_size (pos + 3) x))
      go (Fields.read {a = o} {q = q} j) h i =
          unfold scanned in
          Laying.function {after = record { at = q.at; pos = record { 0 = pos + 3 + owner_size o } }}
          (owning read o q h at end pos number (record { 0 = pos + 3 + owner_size o }) refl (i o q refl).1 (λ home. pos + 3 + owner_size o)
          (λ home. function_home o (i o q refl).0 (position (pos + 3 + owner_size o) home (number + 1))) over _ (ap (λ (n : ℕ). noted_if (overflow ActionLen n number) over) (omega arith)))
      go (Fields.met {f = f} {n = q} j) h i = unfold scanned in Laying.stops {s = record { fault = fault_of f; place = q }} (λ inner t home. unfold outcome in rw (h inner, add-zero number))

-- ---- where a payload ends

-- at or after its start
pub ends_from : {A : Type 0} (s : A → ℕ) (from w : ℕ) (x : Read A) (r : Result Spot code.Stop) → r ≡ scanned s w x → from ≤ w → EndsFrom from r
ends_from s from w x r e h = rw e (go x)
  where
    go : (x : Read _) → EndsFrom from (scanned s w x)
    go (got a q) = unfold scanned in omega (arith, h)
    go (bad f q) = unfold scanned in tt

-- a Try whose shape was scanned has one
pub caught_inside : (terms : Terms) (b : List ℕ) (at pos : ℕ) (end : Spot) (r : Result Spot code.Stop) → r ≡ scanned caught_size pos (read_caught terms b (placed at)) → r ≡ Ok end → at < length b
unfolding scanned
caught_inside terms b at pos end r e f = go (ltb at (length b)) refl
  where
    go : (t : Bool) → ltb at (length b) ≡ t → at < length b
    go true h = ltb-true at (length b) h
    go false h = ok_not_err (sym f ∙ e ∙ ap (scanned caught_size pos) (caught_out terms b at pos (omega (arith, ltb-false at (length b) h))))

-- the scan of a Try, its length noted
pub tried : (n from action : ℕ) (over over' : Option Overflow) {end : Spot} {r r' x : Result Spot code.Stop} → r ≡ x → (r' ≡ r) × (over' ≡ noted_from from action r over) → r' ≡ Ok end
    → Tried x n from action (Ok (laid.Bodies end n)) over over'
tried n from action over over' e h f =
    record {
      is_laid = ap (laid_by (λ end. laid.Bodies end n)) (sym f ∙ h.0 ∙ e);
      is_noted = h.1 ∙ ap (λ (x : Result Spot code.Stop). noted_from from action x over) e;
    }
