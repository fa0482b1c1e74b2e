-- What is found in a body, in the bodies after a payload and in an action, by what they are made of. Assumes nothing.
use mathlib.Core.Path.{◌≡◌, refl, sym, ap, ap₂, ◌∙◌}
use Prim.Native.Nat.{ℕ, zero, suc, ◌+◌, ◌-◌, ◌*◌, ◌≤◌, ◌<◌}
use native.Mathlib.Omega.{arith}
use native.Mathlib.Nat.{add-zero}
use mathlib.Core.Bool.{Bool, true, false}
use mathlib.Core.Option.{Option, none, some}
use mathlib.Core.List.{List, [], ◌∷◌, ◌++◌}
use lib.ListN.{length, get_or}
use lib.Dec.{ltb, eqb}
use Rattle.std.specs.Prelude.{Result, Ok, Err, None}
use Rattle.std.specs.Result.{IsErrAnd}
use Rattle.std.specs.Prelude as code
use borrow.Author.Tests.{ltb-true, ltb-false}
use Rattle.layout.specs.Answers.{Refusal}
use Rattle.layout.specs.Answers as answers
use Rattle.layout.specs.Numbers.{u16_at}
use Rattle.layout.specs.OpCode.{opcode_of}
use Rattle.layout.specs.Tree.{ActionIndex, next_action, first_action, Entry, entry, ActionOf, flat, branch, owner, Try, ActionListOf, empty, more, ActionsOf, body, count, counts, body_count}
use Rattle.layout.specs.Read.{Text, Terms, Place, placed, Stop, stop, Read, got, bad, Reader, chain, more_begun, behind, repeat, read_action, read_actions, read_body, read_fields_if}
use Rattle.layout.specs.Strings.{map_action, map_actions, map_body}
use Rattle.layout.specs.Write.{size, sizes, body_size, Position, position, moved, Event, event_if, label_at, branch_at, labels_at, trace, traces, trace_body}
use Rattle.layout.specs.Judge.{or_else, judged_in, first_refused}
use Rattle.layout.specs.Lengths.{total}
use Rattle.layout.specs.Pack.{spelling}
use Rattle.laws.proofs.ReadFits.{good_got}
use Rattle.laws.specs.Books.{WordsShort}
use Rattle.laws.proofs.Shares.{action_most, body_most}
use Rattle.laws.proofs.Begun.{begins_got, body_begins, owner_begins}
use Rattle.labels.specs.Table.{tables}
use Rattle.positions.specs.declared.BytePosition.{BytePosition}
use Rattle.positions.specs.Scanned.{Roomy}
use Rattle.positions.specs.declared.Fault.{Fault}
use Rattle.positions.specs.declared.Spot.{Spot}
use Rattle.positions.specs.declared.Stop as spot
use Rattle.positions.specs.declared.Cursor.{Cursor}
use Rattle.laws.specs.Resolved.{action_size, action_trace, body_length, body_events}
use Rattle.laws.proofs.Resolved.{count_same}
use Rattle.measure.specs.Walk.{State, state, fault, outcome, in_bodies, Measure, measure, branches, measured, Owning, Laying, flat, to_label, bodies, function, stops, standing, in_turn, uncounted}
use Rattle.measure.specs.declared.Overflow.{Overflow}
use Rattle.measure.specs.declared.Laid.{Laid}
use Rattle.measure.specs.declared.Laid.TheVariants as laid
use Rattle.measure.proofs.Runs.{branches_append, branches_payload}
use Rattle.opcode.specs.Listed.{listed}
use Rattle.front.specs.Front.{Front, read_front}
use Rattle.front.proofs.Fronts.{FrontRead, front_read}
use Rattle.bodies.proofs.Walks.{body_deep, body_less, body_step, action_out, action_in, did_small, did_unknown, owned_place, ran_is, ran_bad, outcome_is}
use Rattle.judge.specs.declared.Refused.{Refused}
use Rattle.judge.specs.declared.Rules.{Rules}
use Rattle.judge.specs.Judging.{mode_of, refusal_of, record_by, refused_by, Judgeable, Judging}
use Rattle.judge.proofs.Loops.{not_refused, in_each, Looping}

-- ---- every byte read is written in at most 196,608

pub action_onward : (terms : Terms) → WordsShort terms → (b : List ℕ) (d p : ℕ) (w x : BytePosition) (a : ActionOf Text ℕ) (q : Place) → Roomy b p w → read_action terms b (behind 1 (read_body terms b d)) (placed p) ≡ got a q → x.0 ≡ w.0 + action_size a → Roomy b q.at x
action_onward terms short b d p w x a q r e f =
    let y = good_got a q (action_most terms b r.bytes short d (placed p) r.inside) e in
    record { bytes = r.bytes; inside = y.1; room = omega (arith, y.0.0, y.0.1, y.1, f, r.room, r.inside) }

pub body_onward : (terms : Terms) → WordsShort terms → (b : List ℕ) (d p : ℕ) (w x : BytePosition) (a : ActionsOf Text ℕ) (q : Place) → Roomy b p w → read_body terms b d (placed p) ≡ got a q → x.0 ≡ w.0 + body_length a → Roomy b q.at x
body_onward terms short b d p w x a q r e f =
    let y = good_got a q (body_most terms b r.bytes short d (placed p) r.inside) e in
    record { bytes = r.bytes; inside = y.1; room = omega (arith, y.0.0, y.0.1, y.1, f, r.room, r.inside) }

-- ---- and holds at most one action

pub action_passes : (terms : Terms) (b : List ℕ) (d p : ℕ) (a : ActionOf Text ℕ) (q : Place) → read_action terms b (behind 1 (read_body terms b d)) (placed p) ≡ got a q → count a + p ≤ q.at
action_passes terms b d p a q e = begins_got a q (owner_begins terms b d (placed p)) e

pub body_passes : (terms : Terms) (b : List ℕ) (d p : ℕ) (a : ActionsOf Text ℕ) (q : Place) → read_body terms b d (placed p) ≡ got a q → body_count a + p ≤ q.at
body_passes terms b d p a q e = begins_got a q (body_begins terms b d (placed p)) e

-- ---- readings that are the same but for the count at a fault

-- what is given so is given
given_so : {A : Type 0} (x : Read A) {y : Read A} {a : A} {q : Place} → uncounted x ≡ uncounted y → y ≡ got a q → x ≡ got a q
unfolding uncounted
given_so (got c r) e f = e ∙ rw f
given_so (bad g s) e f = not_refused (sym (rw f at e))

-- ---- a body is its actions, one after the other

list_of : List (ActionOf Text ℕ) → ActionListOf Text ℕ
list_of [] = empty
list_of (x ∷ xs) = more x (list_of xs)

actions_as : (terms : Terms) (b : List ℕ) (inner : Reader (ActionsOf Text ℕ)) (n : ℕ) (p : Place)
    → uncounted (read_actions terms b inner n p) ≡ uncounted (chain (repeat (read_action terms b inner) n p) (λ xs q. got (list_of xs) q))
unfolding read_actions repeat list_of uncounted
actions_as terms b inner zero p = refl
actions_as terms b inner (suc n) p = go (read_action terms b inner p) (λ q. actions_as terms b inner n q)
  where
    then : (a : ActionOf Text ℕ) (x : Read (ActionListOf Text ℕ)) (y : Read (List (ActionOf Text ℕ))) → uncounted x ≡ uncounted (chain y (λ xs q. got (list_of xs) q))
        → uncounted (chain (more_begun (count a) x) (λ xs r. got (more a xs) r)) ≡ uncounted (chain (chain y (λ xs r. got (a ∷ xs) r)) (λ xs q. got (list_of xs) q))
    then a (got ys q) (got xs r) e =
        let i : ys ≡ list_of xs = cc in
        let k : q ≡ r = cc in
        rw (i, k)
    then a (got ys q) (bad f r) e = not_refused e
    then a (bad f q) (got xs r) e = not_refused (sym e)
    then a (bad f q) (bad g r) e = e

    go : (x : Read (ActionOf Text ℕ)) → ((q : Place) → uncounted (read_actions terms b inner n q) ≡ uncounted (chain (repeat (read_action terms b inner) n q) (λ xs q. got (list_of xs) q)))
        → uncounted (chain x (λ a q. chain (more_begun (count a) (read_actions terms b inner n q)) (λ xs r. got (more a xs) r)))
        ≡ uncounted (chain (chain x (λ a q. chain (repeat (read_action terms b inner) n q) (λ xs r. got (a ∷ xs) r))) (λ xs q. got (list_of xs) q))
    go (got a q) h = then a (read_actions terms b inner n q) (repeat (read_action terms b inner) n q) (h q)
    go (bad f q) h = refl

counts_as : (xs : List (ActionOf Text ℕ)) → counts (list_of xs) ≡ total count xs
unfolding counts list_of total
counts_as [] = refl
counts_as (x ∷ xs) = omega (arith, counts_as xs)

sizes_as : (xs : List (ActionOf Text ℕ)) → sizes (map_actions spelling (list_of xs)) ≡ total action_size xs
unfolding sizes map_actions list_of total
sizes_as [] = refl
sizes_as (x ∷ xs) = omega (arith, sizes_as xs)

-- a label recorded is no branch
no_branch : (es : List Entry) (i : ActionIndex) (s : Position) → branches (labels_at es i s) ≡ []
unfolding branches labels_at event_if
no_branch [] i s = refl
no_branch (entry l j ∷ es) i s = go (eqb i.index j.index) (no_branch es i s)
  where
    go : (t : Bool) → branches (labels_at es i s) ≡ [] → branches (event_if t (label_at l s) ++ labels_at es i s) ≡ []
    go true h = h
    go false h = h

traces_as : (xs : List (ActionOf Text ℕ)) (es : List Entry) (i : ActionIndex) (s : Position) → branches (traces (map_actions spelling (list_of xs)) es i s) ≡ branches (in_each action_size count action_trace xs s)
unfolding traces map_actions list_of in_each
traces_as [] es i s = no_branch es i s ∙ (unfold branches in refl)
traces_as (x ∷ xs) es i s =
    let rest : List Event = traces (map_actions spelling (list_of xs)) es (next_action i) (moved (action_size x) (count x) s) in
    rw (count_same spelling x) (branches_append (labels_at es i s) (action_trace x s ++ rest)
    ∙ ap (λ (l : List Event). l ++ branches (action_trace x s ++ rest)) (no_branch es i s)
    ∙ branches_append (action_trace x s) rest
    ∙ ap (λ (l : List Event). branches (action_trace x s) ++ l) (traces_as xs es (next_action i) (moved (action_size x) (count x) s))
    ∙ sym (branches_append (action_trace x s) (in_each action_size count action_trace xs (moved (action_size x) (count x) s))))

-- measured so
module _ (terms : Terms) (b : List ℕ) (d : ℕ) where
  abbrev pub One : Reader (ActionOf Text ℕ)
  One = read_action terms b (behind 1 (read_body terms b d))

  abbrev pub Acting : BytePosition → Rules → (Result Cursor Refused → Type 0) → ℕ → Cursor → Type 0
  Acting = Looping terms One action_size count action_trace b

  list_each : (es : List Entry) (pos : Position) (x : Read (ActionListOf Text ℕ)) (y : Read (List (ActionOf Text ℕ))) → uncounted x ≡ uncounted (chain y (λ xs q. got (list_of xs) q))
      → measured body_length body_count body_events pos (chain x (λ xs r. got (body es xs) r)) ≡ measured (total action_size) (total count) (in_each action_size count action_trace) pos y
  unfolding measured uncounted body_size body_count trace_body map_body
  list_each es pos (got ys q) (got xs r) e =
      let i : ys ≡ list_of xs = cc in
      let k : q ≡ r = cc in
      rw (i, k, sizes_as xs, counts_as xs, traces_as xs es first_action pos)
  list_each es pos (got ys q) (bad f r) e = not_refused e
  list_each es pos (bad f q) (got xs r) e = not_refused (sym e)
  list_each es pos (bad f q) (bad g r) e =
      let i : f ≡ g = cc in
      let k : stop (placed q.at) ≡ stop (placed r.at) = cc in
      ap₂ (λ (h : answers.Fault) (s : Stop). bad h s) i k

  -- what the code knows of a body with d + 1 levels that was read
  pub record Opened (at : ℕ) : Type 0 where
    pub inside : at + 4 + 4 * u16_at b at ≤ length b
    pub each : (pos : Position)
        → measured body_length body_count body_events pos (read_body terms b (d + 1) (placed at))
        ≡ measured (total action_size) (total count) (in_each action_size count action_trace) pos (repeat One (u16_at b (at + 2 + 4 * u16_at b at)) (placed (at + 2 + 4 * u16_at b at + 2)))

  open_body : (at : ℕ) → at ≤ length b → (x : ActionsOf Text ℕ) (q : Place) → read_body terms b (d + 1) (placed at) ≡ got x q → Opened at
  open_body at h x q e = go (read_front terms b (placed at)) refl
    where
      at_end : {g : Front} (end : ℕ) → read_front terms b (placed at) ≡ got g (placed end) → FrontRead terms b at end g → Opened at
      at_end {g = g} end k f =
          let m : end ≡ at + 2 + 4 * u16_at b at + 2 = omega (arith, f.place) in
          let n : end - 2 ≡ at + 2 + 4 * u16_at b at = omega (arith, f.place) in
          let c : g.count ≡ u16_at b (at + 2 + 4 * u16_at b at) = f.counted ∙ ap (u16_at b) n in
          record {
            inside = omega (arith, f.place, f.inside);
            each = λ pos. rw (body_step terms b at d, k) (list_each g.entries pos (read_actions terms b (behind 1 (read_body terms b d)) g.count (placed end)) (repeat One g.count (placed end)) (actions_as terms b (behind 1 (read_body terms b d)) g.count (placed end)) ∙ ap₂ (λ (i j : ℕ). measured (total action_size) (total count) (in_each action_size count action_trace) pos (repeat One i (placed j))) c m);
          }

      go : (y : Read Front) → read_front terms b (placed at) ≡ y → Opened at
      go (got g p) k = at_end p.at k (front_read terms b at p.at g h k)
      go (bad f p) k =
          let y : read_body terms b (d + 1) (placed at) ≡ bad f p = body_step terms b at d ∙ rw k in
          not_refused (sym e ∙ y)

-- a measure that was made is of something that was read
module _ {A : Type 0} (s c : A → ℕ) (t : A → Position → List Event) (pos : Position) where
  measured_read : (x : Read A) {m : Measure} {q : Place} → measured s c t pos x ≡ got m q → (a : A) × (x ≡ got a q)
  unfolding measured uncounted
  measured_read (got a p) e = (a, ap (got a) (cc))
  measured_read (bad f p) e = not_refused (sym e)

  measured_of : {x : Read A} {a : A} {q : Place} → x ≡ got a q → measured s c t pos x ≡ got (measure (pos.at + s a) (pos.number + c a) (branches (t a pos))) q
  unfolding measured uncounted
  measured_of e = rw e

-- the loop over a body's actions
module _ {terms : Terms} {b : List ℕ} (d : ℕ) {from : Cursor} {rules : Rules} (j : Judgeable terms (read_body terms b d (placed from.at)) b from rules) where
  pub is_deep : 0 < d
  is_deep = go d refl
    where
      go : (n : ℕ) → d ≡ n → 0 < d
      go zero e = not_refused (sym j.reads ∙ body_deep terms b from.at d e)
      go (suc n) e = omega (arith, e)

  whole : read_body terms b (d - 1 + 1) (placed from.at) ≡ read_body terms b d (placed from.at)
  whole = body_less terms b from.at d (λ e. omega (arith, e, is_deep))

  opened : Opened terms b (d - 1) from.at
  opened = open_body terms b (d - 1) from.at j.roomy.inside j.value j.next (whole ∙ j.reads)

  pub front_inside : from.at + 4 + 4 * u16_at b from.at ≤ length b
  front_inside = opened.inside

  pub body_start : (home : BytePosition) (n front many : ℕ) → n ≡ u16_at b from.at → front ≡ from.at + 2 + 4 * n → many ≡ u16_at b front
      → Acting terms b (d - 1) home rules (λ r. Judging rules (measured body_length body_count body_events (standing from.pos home from.number) (read_body terms b d (placed from.at))) r) (many - 0) (record { at = front + 2; pos = from.pos; number = from.number })
  body_start home n front many e f g =
      let k : front ≡ from.at + 2 + 4 * u16_at b from.at = omega (arith, e, f) in
      let c : u16_at b (from.at + 2 + 4 * u16_at b from.at) ≡ many - 0 = omega (arith, g, ap (u16_at b) k) in
      let m : from.at + 2 + 4 * u16_at b from.at + 2 ≡ front + 2 = omega (arith, k) in
      let here : Position = standing from.pos home from.number in
      let all : Read (List (ActionOf Text ℕ)) = repeat (One terms b (d - 1)) (many - 0) (placed (front + 2)) in
      let i : measured body_length body_count body_events here (read_body terms b d (placed from.at)) ≡ measured (total action_size) (total count) (in_each action_size count action_trace) here all =
      ap (measured body_length body_count body_events here) (sym whole) ∙ opened.each here ∙ ap₂ (λ (i j : ℕ). measured (total action_size) (total count) (in_each action_size count action_trace) here (repeat (One terms b (d - 1)) i (placed j))) c m in
      let y = measured_read (total action_size) (total count) (in_each action_size count action_trace) here all (sym i ∙ measured_of body_length body_count body_events here j.reads) in
      record {
        rest = λ r v. rw i v;
        judgeable = record {
          roomy = record { bytes = j.roomy.bytes; inside = omega (arith, front_inside, m); room = omega (arith, j.roomy.room, j.roomy.inside, front_inside, m) };
          before = omega (arith, j.before, m);
          fitting = j.fitting;
          value = y.0;
          next = j.next;
          reads = y.1;
        };
      }

-- ---- the bodies after a payload

bodies_as : (xs : List (ActionsOf Text ℕ)) (s : Position) → in_bodies xs s ≡ in_each body_length body_count body_events xs s
unfolding in_bodies in_each
bodies_as [] s = refl
bodies_as (x ∷ xs) s = ap (λ (l : List Event). body_events x s ++ l) (bodies_as xs (moved (body_length x) (body_count x) s))

-- read in turn they are n of the same
turn_as : (one : Reader (ActionsOf Text ℕ)) (n : ℕ) (p : Place) → uncounted (in_turn one n p) ≡ uncounted (repeat one n p)
unfolding in_turn repeat uncounted
turn_as one zero p = refl
turn_as one (suc n) p = go (one p) (λ q. turn_as one n q)
  where
    then : (a : ActionsOf Text ℕ) (x y : Read (List (ActionsOf Text ℕ))) → uncounted x ≡ uncounted y
        → uncounted (chain (more_begun (body_count a) x) (λ xs r. got (a ∷ xs) r)) ≡ uncounted (chain y (λ xs r. got (a ∷ xs) r))
    then a (got xs q) y e = ap (λ (z : Read (List (ActionsOf Text ℕ))). uncounted (chain z (λ xs r. got (a ∷ xs) r))) (sym (given_so y (sym e) refl))
    then a (bad f q) (got xs r) e = not_refused (sym e)
    then a (bad f q) (bad g r) e = cc

    go : (x : Read (ActionsOf Text ℕ)) → ((q : Place) → uncounted (in_turn one n q) ≡ uncounted (repeat one n q))
        → uncounted (chain x (λ a q. chain (more_begun (body_count a) (in_turn one n q)) (λ xs r. got (a ∷ xs) r))) ≡ uncounted (chain x (λ a q. chain (repeat one n q) (λ xs r. got (a ∷ xs) r)))
    go (got a q) h = then a (in_turn one n q) (repeat one n q) (h q)
    go (bad f q) h = refl

module _ (terms : Terms) (b : List ℕ) (d : ℕ) where
  abbrev pub Inner : BytePosition → Rules → (Result Cursor Refused → Type 0) → ℕ → Cursor → Type 0
  Inner = Looping terms (read_body terms b d) body_length body_count body_events b

pub bodies_start : {terms : Terms} {b : List ℕ} (d n : ℕ) {from : Cursor} {rules : Rules} (home : BytePosition) → Judgeable terms (in_turn (read_body terms b d) n (placed from.at)) b from rules
    → Inner terms b d home rules (λ r. Judging rules (measured (total body_length) (total body_count) in_bodies (standing from.pos home from.number) (in_turn (read_body terms b d) n (placed from.at))) r) (n - 0) from
bodies_start {terms} {b} d n {from} {rules} home j = record {
  rest = λ r v. rw (same (in_turn (read_body terms b d) n (placed from.at)) ∙ alike, ← all) v;
  judgeable = record {
    roomy = j.roomy;
    before = j.before;
    fitting = j.fitting;
    value = j.value;
    next = j.next;
    reads = rw all (given_so (repeat (read_body terms b d) n (placed from.at)) (sym (turn_as (read_body terms b d) n (placed from.at))) j.reads);
  };
}
  where
    all : n - 0 ≡ n
    all = omega arith

    here : Position
    here = standing from.pos home from.number

    same : (x : Read (List (ActionsOf Text ℕ)))
        → measured (total body_length) (total body_count) in_bodies here x ≡ measured (total body_length) (total body_count) (in_each body_length body_count body_events) here x
    same (got xs q) = unfold measured uncounted in ap (λ (l : List Event). got (measure (here.at + total body_length xs) (here.number + total body_count xs) (branches l)) q) (bodies_as xs here)
    same (bad f q) = unfold measured uncounted in refl

    alike : measured (total body_length) (total body_count) (in_each body_length body_count body_events) here (in_turn (read_body terms b d) n (placed from.at))
        ≡ measured (total body_length) (total body_count) (in_each body_length body_count body_events) here (repeat (read_body terms b d) n (placed from.at))
    alike = unfold measured in rw (turn_as (read_body terms b d) n (placed from.at))

-- ---- an action

-- one branch among the events
only_one : (rule : Option Position → Position → Option Refusal) (final : ℕ → Option Position) (n : ℕ) (s : Position) → first_refused rule final (branch_at n s ∷ []) ≡ rule (final n) s
unfolding first_refused
only_one rule final n s = last (rule (final n) s)
  where
    last : (o : Option Refusal) → or_else o none ≡ o
    last none = unfold or_else in refl
    last (some r) = unfold or_else in refl

-- one that is written in one byte has no branch
one_byte : (a : ActionOf Text ℕ) (pos : Position) → action_size a ≡ 1 → branches (action_trace a pos) ≡ []
unfolding trace map_action size
one_byte (flat f) pos e = branches_payload _ _
one_byte (branch k l) pos e = absurd (omega (arith, e))
one_byte (owner o x) pos e = absurd (omega (arith, e))
one_byte (Try x c f) pos e = absurd (omega (arith, e))

module _ {terms : Terms} {b : List ℕ} (d : ℕ) {from : Cursor} {rules : Rules} (j : Judgeable terms (read_action terms b (behind 1 (read_body terms b d)) (placed from.at)) b from rules) where
  abbrev the_action : Read (ActionOf Text ℕ)
  the_action = read_action terms b (behind 1 (read_body terms b d)) (placed from.at)

  abbrev the_measure : BytePosition → Read Measure
  the_measure home = measured action_size count action_trace (standing from.pos home from.number) the_action

  pub opcode_inside : from.at < length b
  opcode_inside = go (ltb from.at (length b)) refl
    where
      go : (t : Bool) → ltb from.at (length b) ≡ t → from.at < length b
      go true e = ltb-true from.at (length b) e
      go false e = not_refused (sym j.reads ∙ action_out terms b d from.at (ltb-false from.at (length b) e))

  -- nothing else was read
  no_fault : {X : Type 0} (home : BytePosition) (s : State) {f : Fault} {p k : ℕ} → outcome action_size count action_trace (standing from.pos home from.number) s the_action ≡ fault f p k → X
  unfolding outcome
  no_fault home s e =
      let y = rw j.reads at e in
      let z : ◌≡◌ {A = ℕ} 0 1 = cc in
      absurd (omega arith)

  is_passed : (home : BytePosition) (c : Cursor) → the_measure home ≡ got (measure c.pos.0 c.number.0 []) (placed c.at) → Judging rules (the_measure home) (Ok c)
  unfolding first_refused
  is_passed home c e = rw e (refl, record { place = refl; end = refl; number = refl })

  pub small_passed : (home : BytePosition) → get_or b from.at 0 < 128 → Judging rules (the_measure home) (Ok (record { at = from.at + 1; pos = record { 0 = from.pos.0 + 1 }; number = record { 0 = from.number.0 + 1 } }))
  small_passed home h = go (listed (get_or b from.at 0)) refl
    where
      here : Position
      here = standing from.pos home from.number

      go : (t : Bool) → listed (get_or b from.at 0) ≡ t → Judging rules (the_measure home) (Ok (record { at = from.at + 1; pos = record { 0 = from.pos.0 + 1 }; number = record { 0 = from.number.0 + 1 } }))
      go true e =
          let o = outcome_is action_size count action_trace here (state (tables [] []) None) the_action (ran_is (did_small terms b d from.at from.pos home from.number (tables [] []) None opcode_inside h e) refl) in
          is_passed home _ (measured_of action_size count action_trace here o.1 ∙ rw (← o.2, ← o.3, one_byte o.0 here (omega (arith, o.2))))
      go false e = no_fault home _ (ran_bad (did_unknown terms b d from.at from.pos home from.number (tables [] []) None opcode_inside e) refl)

  -- where the walk stands after a payload
  abbrev after : Spot → Cursor
  after s = record { at = s.at; pos = s.pos; number = record { 0 = from.number.0 + 1 } }

  module _ {op : ℕ} (there : op ≡ get_or b from.at 0) (over over' : code.Option Overflow) where
    abbrev Here : Result Laid spot.Stop → Type 0
    Here r = Laying terms.label_bound (λ inner. read_fields_if terms b inner (opcode_of op) (placed from.at) (placed (from.at + 1))) from.at (length b) from.pos.0 from.number.0 over over' r

    fields : the_action ≡ read_fields_if terms b (behind 1 (read_body terms b d)) (opcode_of op) (placed from.at) (placed (from.at + 1))
    fields = rw there (action_in terms b d from.at opcode_inside)

    pub never_stops : {X : Type 0} {s : spot.Stop} → Here (Err s) → X
    never_stops (stops {s = s} g) = no_fault from.pos (state (tables [] []) over) {f = s.fault} {p = s.place} {k = from.number.0} (rw fields (g (behind 1 (read_body terms b d)) (state (tables [] []) over) from.pos.0))

    pub flat_passed : (home : BytePosition) {s : Spot} → Here (Ok (laid.Flat s)) → Judging rules (the_measure home) (Ok (after s))
    flat_passed home (flat g m) = is_passed home (after _) (rw fields (m (behind 1 (read_body terms b d)) home.0))

    -- a branch's label, and where its operand stands
    pub branch_asks : {s : Spot} {n : ℕ} → Here (Ok (laid.Branch s n)) → (n < terms.label_bound) × (from.pos.0 + 3 + 2 ≤ 1099511627776)
    branch_asks (to_label i u v g) = (u, omega (arith, i, j.roomy.room, opcode_inside))

    module _ (home : BytePosition) {s : Spot} {n : ℕ} (l : Here (Ok (laid.Branch s n))) where
      abbrev operand : Position
      operand = position (from.pos.0 + 3) home.0 from.number.0

      abbrev Seen : Read Measure
      Seen = got (measure s.pos.0 (from.number.0 + 1) (branch_at n operand ∷ [])) (placed s.at)

      is_seen : the_measure home ≡ Seen
      is_seen = go l
        where
          go : {s : Spot} → Here (Ok (laid.Branch s n)) → the_measure home ≡ got (measure s.pos.0 (from.number.0 + 1) (branch_at n operand ∷ [])) (placed s.at)
          go (to_label i u v g) = measured_of action_size count action_trace (standing from.pos home from.number) (fields ∙ g (behind 1 (read_body terms b d))) ∙ (unfold size count trace map_action branches moved in rw (i, add-zero from.number.0))

      only : refused_by rules (branch_at n operand ∷ []) ≡ judged_in (mode_of rules.mode) (record_by rules n) operand
      only = only_one (judged_in (mode_of rules.mode)) (record_by rules) n operand

      pub branch_passed : judged_in (mode_of rules.mode) (record_by rules n) operand ≡ none → Judging rules (the_measure home) (Ok (after s))
      branch_passed e = rw is_seen (only ∙ e, record { place = refl; end = refl; number = refl })

      pub branch_refused : (x : Refused) (r : Result Cursor Refused) → IsErrAnd r (λ y. y ≡ x) → judged_in (mode_of rules.mode) (record_by rules n) operand ≡ some (refusal_of x.bad x.action) → Judging rules (the_measure home) r
      branch_refused x (Ok c) p e = absurd p
      branch_refused x (Err y) p e = rw (is_seen, p) (only ∙ e, tt)

    -- bodies follow, whose home is made from the action's
    module _ {s : Spot} {n : ℕ} {inside : ℕ → ℕ}
        (o : Owning (λ inner. read_fields_if terms b inner (opcode_of op) (placed from.at) (placed (from.at + 1))) from.at (length b) from.pos.0 from.number.0 over over' s n inside) where
      owned_measures : (home : BytePosition) → the_measure home ≡ measured (total body_length) (total body_count) in_bodies (position s.pos.0 (inside home.0) (from.number.0 + 1)) (in_turn (read_body terms b d) n (placed s.at))
      owned_measures home = rw fields (o.measures (read_body terms b d) home.0)

      owned_asks : Judgeable terms (in_turn (read_body terms b d) n (placed s.at)) b (after s) rules
      owned_asks =
          let r = measured_read (total body_length) (total body_count) in_bodies _ (in_turn (read_body terms b d) n (placed s.at)) (sym (owned_measures from.pos) ∙ measured_of action_size count action_trace (standing from.pos from.pos from.number) j.reads) in
          record {
            roomy = owned_place o j.roomy;
            before = omega (arith, j.before, o.onward.beyond);
            fitting = j.fitting;
            value = r.0;
            next = j.next;
            reads = r.1;
          }

    pub bodies_asks : {s : Spot} {n : ℕ} → Here (Ok (laid.Bodies s n)) → Judgeable terms (in_turn (read_body terms b d) n (placed s.at)) b (after s) rules
    bodies_asks (bodies least o) = owned_asks o

    pub bodies_found : (home : BytePosition) {s : Spot} {n : ℕ} (r : Result Cursor Refused) → Here (Ok (laid.Bodies s n))
        → Judging rules (measured (total body_length) (total body_count) in_bodies (standing s.pos home (after s).number) (in_turn (read_body terms b d) n (placed s.at))) r → Judging rules (the_measure home) r
    bodies_found home r (bodies least o) k = rw (owned_measures o home) k

    pub function_asks : {s : Spot} → Here (Ok (laid.Function s)) → Judgeable terms (in_turn (read_body terms b d) 1 (placed s.at)) b (after s) rules
    function_asks (function o) = owned_asks o

    pub function_found : (home : BytePosition) {s : Spot} (r : Result Cursor Refused) → Here (Ok (laid.Function s))
        → Judging rules (measured (total body_length) (total body_count) in_bodies (standing s.pos s.pos (after s).number) (in_turn (read_body terms b d) 1 (placed s.at))) r → Judging rules (the_measure home) r
    function_found home r (function o) k = rw (owned_measures o home) k
