-- Laws of the walk over bodies and actions. Assumes nothing.
use mathlib.Core.Path.{◌≡◌, refl, sym, ap, ap₂, ◌∙◌}
use Prim.Native.Nat.{ℕ, zero, suc, ◌+◌, ◌-◌, ◌*◌, ◌≤◌, ◌<◌}
use native.Mathlib.Omega.{arith}
use native.Mathlib.Nat.{add-zero}
use native.Mathlib.Numerals.{sub-one, add-one}
use mathlib.Core.Bool.{Bool, true, false}
use mathlib.Core.Option.{Option, none, some}
use mathlib.Core.List.{List, [], ◌∷◌, ◌++◌, append_assoc, append-nil}
use lib.ListN.{length, get_or, take, drop}
use lib.Dec.{eqb}
use borrow.Author.Tests.{lt-ltb}
use Rattle.std.specs.Prelude as code
use Rattle.std.specs.Prelude.{Result, Ok, Err, Some, None}
use Rattle.std.specs.Option.{option_or}
use Rattle.layout.proofs.Lists.{first_with_lem}
use Rattle.layout.specs.Numbers.{u16_at}
use Rattle.layout.specs.Answers.{CutShort, UnknownCode, TooDeep}
use Rattle.layout.specs.Answers as answers
use Rattle.layout.specs.OpCode.{OpCode, SmallOpCode, byte, small_byte, opcode_of, opcodes}
use Rattle.layout.specs.Tree.{Entry, entry, ActionIndex, ActionOf, ActionListOf, ActionsOf, flat, Small, empty, more, body, count, counts, body_count}
use Rattle.layout.specs.Read.{Text, Terms, Place, placed, stop, Read, got, bad, Reader, chain, more_begun, behind, read_u16, read_entries, read_fields, read_fields_if, read_action, read_actions, read_body_with, read_body}
use Rattle.layout.specs.Strings.{map_action, map_actions, map_body, map_flat}
use Rattle.layout.specs.Payload.{opcode, payload, headed, framed}
use Rattle.layout.specs.Write.{size, sizes, body_size, Position, position, moved, Event, event_if, label_at, payload_test, body_test, labels_at, trace, traces, trace_body}
use Rattle.layout.specs.Lengths.{total}
use Rattle.layout.specs.Pack.{spelling}
use Rattle.laws.proofs.ReadFits.{good_got}
use Rattle.laws.specs.Books.{WordsShort}
use Rattle.laws.proofs.Shares.{action_most, body_most}
use Rattle.laws.proofs.Begun.{begins_got, body_begins, owner_begins}
use Rattle.labels.proofs.Labels.{length-record_all, slots_kept, any_number}
use Rattle.labels.proofs.Recording.{entries_part}
use Rattle.labels.specs.declared.EntryNumber.{EntryNumber}
use Rattle.labels.specs.declared.Tables as lent
use Rattle.labels.specs.Table.{slot_of, home_of, entries_in, entry_of, due, Rising, Slots, Tables, held, SameTables, record_all, recorded, position_of, Recordable}
use Rattle.positions.specs.declared.BytePosition.{BytePosition}
use Rattle.opcode.specs.Listed.{listed, is_some}
use Rattle.positions.specs.declared.Spot.{Spot}
use Rattle.positions.specs.declared.Stop.{Stop}
use Rattle.positions.specs.declared.ActionNumber.{ActionNumber}
use Rattle.positions.specs.declared.Cursor.{Cursor}
use Rattle.positions.specs.declared.Halt.{Halt}
use Rattle.positions.specs.declared.Fault.{Fault}
use Rattle.positions.specs.Scanned.{fault_of, scanned, walks_to, halts_at, Roomy}
use Rattle.positions.proofs.Answers.{ok_same, err_same, ok_not_err}
use Rattle.operands.proofs.Scans.{stops_is}
use Rattle.operands.proofs.Reading.{u8_in, u8_out}
use Rattle.measure.specs.declared.Laid.{Laid}
use Rattle.measure.specs.declared.Laid.TheVariants as laid
use Rattle.measure.specs.declared.Limit.TheVariants.{BlockLen}
use Rattle.measure.specs.declared.Overflow.{Overflow}
use Rattle.measure.specs.declared.Notes.{Notes}
use Rattle.laws.specs.Resolved.{action_size, action_trace, body_length, body_events}
use Rattle.laws.proofs.Resolved.{count_same}
use Rattle.measure.specs.Walk.{State, state, kept_in, SameNotes, overflow, standing, in_turn, noted_if, note_all, run, Outcome, done, fault, outcome, Ran, ran, stopped, in_bodies, body_tests, bodies_events, Owning, Laying, flat, to_label, bodies, function, stops}
use Rattle.measure.proofs.Runs.{outcome_got, run_append, run_none, run_body, noted_or}
use Rattle.front.specs.Front.{Front, read_front, Fronted}
use Rattle.front.proofs.Fronts.{front_fields, FrontRead, front_read}
use Rattle.bodies.specs.Ready.{next_after, LengthsKept, Ready}

abbrev Walked : Type 0
Walked = Result Cursor Halt

-- ---- an outcome and the code's answer

pub ran_is : {o : Outcome} {r : Walked} {s : State} {x : Cursor} → Ran o r s → r ≡ Ok x → o ≡ done x.at x.pos.0 x.number.0 s
ran_is ran e = rw (ok_same e)
ran_is stopped e = ok_not_err (sym e)

pub ran_bad : {o : Outcome} {r : Walked} {s : State} {h : Halt} → Ran o r s → r ≡ Err h → o ≡ fault h.fault h.place h.number.0
ran_bad ran e = ok_not_err e
ran_bad stopped e = rw (err_same e)

pub ran_done : {o : Outcome} {x : Cursor} {s : State} → o ≡ done x.at x.pos.0 x.number.0 s → Ran o (Ok x) s
ran_done e = rw e ran

pub ran_fault : {o : Outcome} {h : Halt} (s : State) → o ≡ fault h.fault h.place h.number.0 → Ran o (Err h) s
ran_fault s e = rw e stopped

-- ---- an outcome and the reading

module _ {A : Type 0} (sz ct : A → ℕ) (tr : A → Position → List Event) (from : Position) (s : State) where
  pub outcome_is : {q w k : ℕ} {u : State} (x : Read A) → outcome sz ct tr from s x ≡ done q w k u
      → (a : A) × (x ≡ got a (placed q)) × (w ≡ from.at + sz a) × (k ≡ from.number + ct a) × (u ≡ run (tr a from) s)
  unfolding outcome
  outcome_is (got a p) e = (a, ap (got a) (place_is p cc), cc, cc, cc)
    where
      place_is : {q : ℕ} (p : Place) → p.at ≡ q → p ≡ placed q
      place_is p h = ap placed h
  outcome_is (bad f p) e =
      let z : ◌≡◌ {A = ℕ} 0 1 = cc in
      absurd (omega arith)

  -- a fault goes past what would have followed
  pub fault_then : {B : Type 0} (sz' ct' : B → ℕ) (tr' : B → Position → List Event) (s' : State) {f : Fault} {p k : ℕ} (x : Read A) (g : A → Reader B)
      → outcome sz ct tr from s x ≡ fault f p k → outcome sz' ct' tr' from s' (chain x g) ≡ fault f p k
  unfolding outcome
  fault_then sz' ct' tr' s' (got a q) g e =
      let z : ◌≡◌ {A = ℕ} 0 1 = cc in
      absurd (omega arith)
  fault_then sz' ct' tr' s' (bad h q) g e = e

  pub outcome_no : {f : answers.Fault} {p : ℕ} {x : Read A} → x ≡ bad f (stop (placed p)) → outcome sz ct tr from s x ≡ fault (fault_of f) p from.number
  unfolding outcome
  outcome_no e = rw (e, add-zero from.number)

-- ---- what a payload's answer tells of the bodies behind it

module _ {bound : ℕ} {read : Reader (ActionsOf Text ℕ) → Read (ActionOf Text ℕ)} {at end pos number : ℕ} {over over' : code.Option Overflow} where
  pub did_bodies : {l : Result Laid Stop} {after : Spot} {n : ℕ} → Laying bound read at end pos number over over' l → l ≡ Ok (laid.Bodies after n) → Owning read at end pos number over over' after n (λ home. home)
  did_bodies {after = after} {n = n} y e = go (rw e at y)
    where
      go : Laying bound read at end pos number over over' (Ok (laid.Bodies after n)) → Owning read at end pos number over over' after n (λ home. home)
      go (bodies least o) = o

  pub did_function : {l : Result Laid Stop} {after : Spot} → Laying bound read at end pos number over over' l → l ≡ Ok (laid.Function after) → Owning read at end pos number over over' after 1 (λ home. after.pos.0)
  did_function {after = after} y e = go (rw e at y)
    where
      go : Laying bound read at end pos number over over' (Ok (laid.Function after)) → Owning read at end pos number over over' after 1 (λ home. after.pos.0)
      go (function o) = o

-- there is room for them
pub owned_place : {read : Reader (ActionsOf Text ℕ) → Read (ActionOf Text ℕ)} {b : List ℕ} {over over' : code.Option Overflow} {at n number : ℕ} {pos : BytePosition} {after : Spot} {inside : ℕ → ℕ}
    → Owning read at (length b) pos.0 number over over' after n inside → Roomy b at pos → Roomy b after.at after.pos
owned_place o r = record { bytes = r.bytes; inside = o.onward.within; room = omega (arith, r.room, r.inside, o.onward.beyond, o.onward.within, o.onward.written) }

-- ---- an action

-- an opcode that was read before is the byte that stands there
pub laid_at : (terms : Terms) (b : List ℕ) {op bound at end pos number : ℕ} {over over' : code.Option Overflow} {l : Result Laid Stop} → op ≡ get_or b at 0
    → Laying bound (λ inner. read_fields_if terms b inner (opcode_of op) (placed at) (placed (at + 1))) at end pos number over over' l
    → Laying bound (λ inner. read_fields_if terms b inner (opcode_of (get_or b at 0)) (placed at) (placed (at + 1))) at end pos number over over' l
laid_at terms b i y = rw i at y

module _ (terms : Terms) (b : List ℕ) (d at : ℕ) where
  abbrev pub the_action : Read (ActionOf Text ℕ)
  the_action = read_action terms b (behind 1 (read_body terms b d)) (placed at)

  pub action_out : length b ≤ at → the_action ≡ bad CutShort (stop (placed at))
  unfolding read_action
  action_out h = rw (u8_out b at (omega arith))

  pub action_in : at < length b → the_action ≡ read_fields_if terms b (behind 1 (read_body terms b d)) (opcode_of (get_or b at 0)) (placed at) (placed (at + 1))
  unfolding read_action
  action_in h = rw (u8_in b at (omega arith))

  module _ (pos home : BytePosition) (number : ActionNumber) (tab : Tables) (over : code.Option Overflow) where
    abbrev Out : Outcome
    Out = outcome action_size count action_trace (standing pos home number) (state tab over) the_action

    pub did_out : length b ≤ at → Ran Out (halts_at (fault_of CutShort) at number) (state tab over)
    did_out h = ran_fault _ (outcome_no action_size count action_trace (standing pos home number) _ (action_out h))

    module _ (h : at < length b) where
      -- an opcode under 80 hex is a whole action
      pub did_small : get_or b at 0 < 128 → listed (get_or b at 0) ≡ true → Ran Out (walks_to (at + 1) (record { 0 = pos.0 + 1 }) (record { 0 = number.0 + 1 })) (state tab over)
      unfolding outcome count map_action map_flat size trace opcode payload framed headed byte payload_test event_if read_fields is_some read_fields_if
      did_small l e = go (opcode_of (get_or b at 0)) refl (unfold listed in e)
        where
          of_small : (x : SmallOpCode) → small_byte x < 128 → outcome action_size count action_trace (standing pos home number) (state tab over) (got (flat (Small x)) (placed (at + 1))) ≡ done (at + 1) (pos.0 + 1) (number.0 + 1) (state tab over)
          of_small x k = rw (lt-ltb (small_byte x) 128 k) (ap (done (at + 1) (pos.0 + 1) (number.0 + 1)) (run_none (state tab over)))

          of : (x : OpCode) → byte x < 128
              → outcome action_size count action_trace (standing pos home number) (state tab over) (read_fields terms b (behind 1 (read_body terms b d)) x (placed (at + 1))) ≡ done (at + 1) (pos.0 + 1) (number.0 + 1) (state tab over)
          of (OpCode.Small x) k = of_small x k
          of OpCode.GotoFrame k = absurd (omega arith)
          of OpCode.GetUrl k = absurd (omega arith)
          of OpCode.StoreRegister k = absurd (omega arith)
          of OpCode.ConstantPool k = absurd (omega arith)
          of OpCode.WaitForFrame k = absurd (omega arith)
          of OpCode.SetTarget k = absurd (omega arith)
          of OpCode.GotoLabel k = absurd (omega arith)
          of OpCode.WaitForFrame2 k = absurd (omega arith)
          of OpCode.DefineFunction2 k = absurd (omega arith)
          of OpCode.Try k = absurd (omega arith)
          of OpCode.With k = absurd (omega arith)
          of OpCode.Push k = absurd (omega arith)
          of OpCode.Jump k = absurd (omega arith)
          of OpCode.GetUrl2 k = absurd (omega arith)
          of OpCode.DefineFunction k = absurd (omega arith)
          of OpCode.If k = absurd (omega arith)
          of OpCode.GotoFrame2 k = absurd (omega arith)

          go : (o : Option OpCode) → opcode_of (get_or b at 0) ≡ o → is_some o ≡ true → Ran Out (walks_to (at + 1) (record { 0 = pos.0 + 1 }) (record { 0 = number.0 + 1 })) (state tab over)
          go none f k =
              let z : ◌≡◌ {A = ℕ} 0 1 = cc in
              absurd (omega arith)
          go (some x) f k =
              let y : byte x ≡ get_or b at 0 = unfold opcode_of in first_with_lem byte (get_or b at 0) opcodes x f in
              ran_done (rw (action_in h, f) (of x (omega arith)))

      pub did_unknown : listed (get_or b at 0) ≡ false → Ran Out (halts_at (fault_of UnknownCode) at number) (state tab over)
      unfolding is_some read_fields_if
      did_unknown e = go (opcode_of (get_or b at 0)) refl (unfold listed in e)
        where
          go : (o : Option OpCode) → opcode_of (get_or b at 0) ≡ o → is_some o ≡ false → Ran Out (halts_at (fault_of UnknownCode) at number) (state tab over)
          go none f k = ran_fault _ (outcome_no action_size count action_trace (standing pos home number) _ (action_in h ∙ rw f))
          go (some x) f k =
              let z : ◌≡◌ {A = ℕ} 0 1 = cc in
              absurd (omega arith)

      module _ (l : Result Laid Stop) (over' : code.Option Overflow)
          (y : Laying terms.label_bound (λ inner. read_fields_if terms b inner (opcode_of (get_or b at 0)) (placed at) (placed (at + 1))) at (length b) pos.0 number.0 over over' l) where
        abbrev Here : Result Laid Stop → Type 0
        Here l = Laying terms.label_bound (λ inner. read_fields_if terms b inner (opcode_of (get_or b at 0)) (placed at) (placed (at + 1))) at (length b) pos.0 number.0 over over' l

        pub did_stops : (x : Stop) → l ≡ Err x → Ran Out (halts_at x.fault x.place number) (state tab over')
        did_stops x e = go (rw e at y)
          where
            go : Here (Err x) → Ran Out (halts_at x.fault x.place number) (state tab over')
            go (stops g) = ran_fault _ (rw (action_in h) (g (behind 1 (read_body terms b d)) (state tab over) home.0))

        pub did_flat : (after : Spot) → l ≡ Ok (laid.Flat after) → Ran Out (Ok (next_after after number)) (state tab over')
        did_flat after e = go (rw e at y)
          where
            go : Here (Ok (laid.Flat after)) → Ran Out (Ok (next_after after number)) (state tab over')
            go (flat g m) = ran_done (rw (action_in h) (g (behind 1 (read_body terms b d)) tab home.0))

        pub did_branch : (after : Spot) (n : ℕ) → l ≡ Ok (laid.Branch after n) → Ran Out (Ok (next_after after number)) (state tab over')
        did_branch after n e = go (rw e at y)
          where
            go : Here (Ok (laid.Branch after n)) → Ran Out (Ok (next_after after number)) (state tab over')
            go (to_label {k = k} i u v g) =
                ran_done (rw (action_in h, ← v) (outcome_got action_size count action_trace (standing pos home number) (state tab over) (g (behind 1 (read_body terms b d))) (unfold size map_action in i) (unfold count in refl) (unfold trace map_action run recorded record_all note_all in refl)))

      -- what its bodies come to
      pub owned_ran : {over' : code.Option Overflow} {n : ℕ} {after : Spot} {inside : ℕ → ℕ}
          → Owning (λ inner. read_fields_if terms b inner (opcode_of (get_or b at 0)) (placed at) (placed (at + 1))) at (length b) pos.0 number.0 over over' after n inside
          → {r : Walked} {s' : State} → Ran (outcome (total body_length) (total body_count) (bodies_events number.0) (position after.pos.0 (inside home.0) (number.0 + 1)) (state tab over') (in_turn (read_body terms b d) n (placed after.at))) r s' → Ran Out r s'
      owned_ran o k = rw (action_in h, o.runs (read_body terms b d) tab home.0) k

-- ---- the actions of a body, from index i on

abbrev pub outcomes : List Entry → ℕ → Position → State → Read (ActionListOf Text ℕ) → Outcome
outcomes es i w s x = outcome (λ xs. sizes (map_actions spelling xs)) counts (λ xs p. traces (map_actions spelling xs) es (record { index = i }) p) w s x

module _ (terms : Terms) (b : List ℕ) (inner : Reader (ActionsOf Text ℕ)) where
  actions_none : (n p : ℕ) → n ≤ 0 → read_actions terms b inner n (placed p) ≡ got empty (placed p)
  unfolding read_actions
  actions_none zero p h = refl
  actions_none (suc n) p h = absurd (omega arith)

  actions_more : (n p : ℕ) → 0 < n
      → read_actions terms b inner n (placed p) ≡ chain (read_action terms b inner (placed p)) (λ a q. chain (more_begun (count a) (read_actions terms b inner (n - 1) q)) (λ xs r. got (more a xs) r))
  unfolding read_actions
  actions_more zero p h = absurd (omega arith)
  actions_more (suc n) p h = simp sub-one

  module _ (es : List Entry) (i : ℕ) (w : Position) (s : State) (n p : ℕ) where
    abbrev labels : List Event
    labels = labels_at es (record { index = i }) w

    step_done : (q x j : ℕ) (u : State) → 0 < n → outcome action_size count action_trace w (run labels s) (read_action terms b inner (placed p)) ≡ done q x j u
        → outcomes es i w s (read_actions terms b inner n (placed p)) ≡ outcomes es (i + 1) (position x w.home j) u (read_actions terms b inner (n - 1) (placed q))
    unfolding outcome sizes counts traces map_actions moved
    step_done q x j u h e =
        let o = outcome_is action_size count action_trace w (run labels s) (read_action terms b inner (placed p)) e in
        go o.0 o.1 o.2 o.3 o.4 (read_actions terms b inner (n - 1) (placed q)) refl
      where
        go : (a : ActionOf Text ℕ) → read_action terms b inner (placed p) ≡ got a (placed q) → x ≡ w.at + action_size a → j ≡ w.number + count a → u ≡ run (action_trace a w) (run labels s)
            → (y : Read (ActionListOf Text ℕ)) → read_actions terms b inner (n - 1) (placed q) ≡ y
            → outcomes es i w s (read_actions terms b inner n (placed p)) ≡ outcomes es (i + 1) (position x w.home j) u (read_actions terms b inner (n - 1) (placed q))
        go a f c d g (got xs r) k =
            let l : w.at + (action_size a + sizes (map_actions spelling xs)) ≡ w.at + action_size a + sizes (map_actions spelling xs) = omega arith in
            let m : w.number + (count a + counts xs) ≡ w.number + count a + counts xs = omega arith in
            let z : List Event = traces (map_actions spelling xs) es (record { index = i + 1 }) (position (w.at + action_size a) w.home (w.number + count a)) in
            rw (actions_more n p h, f, k, c, d, g, l, m, count_same spelling a, run_append labels (action_trace a w ++ z) s, run_append (action_trace a w) z (run labels s))
        go a f c d g (bad m r) k =
            let l : w.number + (count a + r.begun) ≡ w.number + count a + r.begun = omega arith in
            rw (actions_more n p h, f, k, d, l)

    step_fault : (f : Fault) (v j : ℕ) → 0 < n → outcome action_size count action_trace w (run labels s) (read_action terms b inner (placed p)) ≡ fault f v j
        → outcomes es i w s (read_actions terms b inner n (placed p)) ≡ fault f v j
    step_fault f v j h e = rw (actions_more n p h) (fault_then action_size count action_trace w (run labels s) _ _ _ s (read_action terms b inner (placed p)) _ e)

    step_end : n ≤ 0 → outcomes es i w s (read_actions terms b inner n (placed p)) ≡ done p w.at w.number (run labels s)
    unfolding outcome sizes counts traces map_actions
    step_end h =
        rw (actions_none n p h, add-zero w.at, add-zero w.number)

-- ---- a body

pub body_deep : (terms : Terms) (b : List ℕ) (at d : ℕ) → d ≡ 0 → read_body terms b d (placed at) ≡ bad TooDeep (stop (placed at))
unfolding read_body
body_deep terms b at d e = rw e

pub body_step : (terms : Terms) (b : List ℕ) (at d : ℕ)
    → read_body terms b (d + 1) (placed at) ≡ chain (read_front terms b (placed at)) (λ f q. chain (read_actions terms b (behind 1 (read_body terms b d)) f.count q) (λ xs r. got (body f.entries xs) r))
unfolding read_body read_body_with read_front
body_step terms b at d = rw (add-one d) (go d)
  where
    go : (d : ℕ) → read_body terms b (suc d) (placed at) ≡ chain (read_front terms b (placed at)) (λ f q. chain (read_actions terms b (behind 1 (read_body terms b d)) f.count q) (λ xs r. got (body f.entries xs) r))
    go d = first (read_u16 b (placed at)) refl
      where
        rest : Reader Front
        rest p = chain {B = Front} (read_u16 b p) (λ n r. got (record { entries = []; count = n }) r)

        first : (x : Read ℕ) → read_u16 b (placed at) ≡ x
            → read_body terms b (suc d) (placed at) ≡ chain (read_front terms b (placed at)) (λ f q. chain (read_actions terms b (behind 1 (read_body terms b d)) f.count q) (λ xs r. got (body f.entries xs) r))
        first (bad f p) e = rw e
        first (got m p) e = rw e (second (read_entries terms b m 0 p))
          where
            third : (es : List Entry) (y : Read ℕ)
                → chain y (λ n r. chain (read_actions terms b (behind 1 (read_body terms b d)) n r) (λ xs r. got (body es xs) r))
                ≡ chain (chain {B = Front} y (λ n r. got (record { entries = es; count = n }) r)) (λ f q. chain (read_actions terms b (behind 1 (read_body terms b d)) f.count q) (λ xs r. got (body f.entries xs) r))
            third es (got n r) = refl
            third es (bad f r) = refl

            second : (y : Read (List Entry))
                → chain y (λ es q. chain (read_u16 b q) (λ n r. chain (read_actions terms b (behind 1 (read_body terms b d)) n r) (λ xs r. got (body es xs) r)))
                ≡ chain (chain {B = Front} y (λ es q. chain {B = Front} (read_u16 b q) (λ n r. got (record { entries = es; count = n }) r))) (λ f q. chain (read_actions terms b (behind 1 (read_body terms b d)) f.count q) (λ xs r. got (body f.entries xs) r))
            second (got es q) = third es (read_u16 b q)
            second (bad f q) = refl

-- what the code knows of a body whose front was read, and of its entries
pub record Facts (terms : Terms) (b : List ℕ) (at end d : ℕ) (es : List Entry) : Type 0 where
  pub inside : end ≤ length b
  pub place : at + 4 ≤ end
  pub rising : Rising terms.label_bound 0 es
  pub start : (pos : Position) (s : State)
      → outcomes es 0 pos s (read_actions terms b (behind 1 (read_body terms b d)) (u16_at b (end - 2)) (placed end)) ≡ outcome body_length body_count body_events pos s (read_body terms b (d + 1) (placed at))

pub facts : (terms : Terms) (b : List ℕ) (at end d : ℕ) → at ≤ length b → Fronted terms b at end → Facts terms b at end d (entries_in (take (end - 2 - (at + 2)) (drop (at + 2) b)))
unfolding outcome body_size body_count trace_body map_body
facts terms b at end d l f = go f.front f.reads (front_read terms b at end f.front l f.reads)
  where
    go : (g : Front) → read_front terms b (placed at) ≡ got g (placed end) → FrontRead terms b at end g → Facts terms b at end d (entries_in (take (end - 2 - (at + 2)) (drop (at + 2) b)))
    go g a p =
        let n : end - 2 - (at + 2) ≡ 4 * u16_at b at = omega (arith, p.place) in
        rw (n, entries_part b (u16_at b at) (at + 2) (omega (arith, p.place, p.inside))) (record {
          inside = p.inside;
          place = omega (arith, p.place);
          rising = p.rising;
          start = λ pos s. rw (body_step terms b at d, a, ← p.same, ← p.counted) (last pos s (read_actions terms b (behind 1 (read_body terms b d)) g.count (placed end)));
        })
      where
        last : (pos : Position) (s : State) (x : Read (ActionListOf Text ℕ)) → outcomes g.entries 0 pos s x ≡ outcome body_length body_count body_events pos s (chain x (λ xs r. got (body g.entries xs) r))
        last pos s (got xs r) = refl
        last pos s (bad k r) = refl

pub body_less : (terms : Terms) (b : List ℕ) (at d : ℕ) → (d ≡ 0 → ⊥) → read_body terms b (d - 1 + 1) (placed at) ≡ read_body terms b d (placed at)
body_less terms b at d h =
    let e : d - 1 + 1 ≡ d = omega arith in
    rw e

module _ (terms : Terms) (b : List ℕ) (at d : ℕ) (pos : Position) (s : State) where
  pub body_stops : (k : ActionNumber) → pos.number ≡ k.0 → (w : ℕ) (r : Result Spot Stop) (x : Stop) (s' : State) → (d ≡ 0 → ⊥) → r ≡ scanned (λ _. 0) w (read_front terms b (placed at)) → r ≡ Err x
      → Ran (outcome body_length body_count body_events pos s (read_body terms b d (placed at))) (halts_at x.fault x.place k) s'
  body_stops k i w r x s' h j e = let z = stops_is (λ _. 0) w (front_fields terms b (placed at)) j e in go z.0 z.1 z.2
    where
      go : (g : answers.Fault) → read_front terms b (placed at) ≡ bad g (stop (placed x.place)) → x.fault ≡ fault_of g → Ran (outcome body_length body_count body_events pos s (read_body terms b d (placed at))) (halts_at x.fault x.place k) s'
      go g u v = rw v (ran_fault _ (outcome_no body_length body_count body_events pos s (sym (body_less terms b at d h) ∙ body_step terms b at (d - 1) ∙ rw u) ∙ ap (fault (fault_of g) x.place) i))

-- labels note nothing
labels_quiet : (es : List Entry) (j : ActionIndex) (s : Position) (over : code.Option Overflow) → note_all (labels_at es j s) over ≡ over
unfolding labels_at note_all event_if
labels_quiet [] j s over = refl
labels_quiet (entry l k ∷ es) j s over = go (eqb j.index k.index) (labels_quiet es j s over)
  where
    go : (t : Bool) → note_all (labels_at es j s) over ≡ over → note_all (event_if t (label_at l s) ++ labels_at es j s) over ≡ over
    go true h = h
    go false h = h

-- ---- the tables

pub kept_on : {a b c : Tables} → LengthsKept a b → LengthsKept b c → LengthsKept a c
kept_on h k = record { positions = k.positions ∙ h.positions; homes = k.homes ∙ h.homes }

pub kept_recorded : (es : List Event) {a b : Tables} → b ≡ recorded es a → LengthsKept a b
unfolding recorded
kept_recorded es {a} e = rw e (record { positions = length-record_all slot_of es a.positions; homes = length-record_all home_of es a.homes })

pub same_start : {n : Notes} → SameNotes n n
same_start = record { labels = refl; tables = record { tab = refl; homes = refl } }

pub same_on : {a b c : Notes} → SameNotes a b → SameNotes b c → SameNotes a c
same_on h k = record { labels = k.labels ∙ h.labels; tables = record { tab = k.tables.tab ∙ h.tables.tab; homes = k.tables.homes ∙ h.tables.homes } }

-- with labels recorded in between
pub same_marked : {a b c : Notes} {t : lent.Tables} → SameNotes a b → SameTables b.labels.now t → SameNotes (record b { labels = record b.labels { now = t } }) c → SameNotes a c
same_marked h m k = record { labels = k.labels ∙ h.labels; tables = record { tab = k.tables.tab ∙ m.tab ∙ h.tables.tab; homes = k.tables.homes ∙ m.homes ∙ h.tables.homes } }

-- ---- the loop over a body's actions: what is left gives what the whole gives

pub record Going (terms : Terms) (b : List ℕ) (d : ℕ) (home : BytePosition) (es : List Entry) (whole : Outcome) (many : ℕ) (old : Tables) (next : code.Option EntryNumber) (i : ℕ) (here : Cursor) (s : State) : Type 0 where
  pub same : outcomes es i (standing here.pos home here.number) s (read_actions terms b (behind 1 (read_body terms b d)) (many - i) (placed here.at)) ≡ whole
  pub roomy : Roomy b here.at here.pos
  pub before : here.number.0 ≤ here.at
  pub is_due : next ≡ entry_of (due es (65536 * i))
  pub slots : Slots terms s.labels.positions
  pub kept : LengthsKept old s.labels

pub going_start : (terms : Terms) (b : List ℕ) (d : ℕ) (home : BytePosition) (es : List Entry) (from : Cursor) (end many : ℕ) (next : code.Option EntryNumber) (notes : Notes) → Facts terms b from.at end d es → Ready terms b from notes → many ≡ u16_at b (end - 2) → next ≡ entry_of (due es 0)
    → Going terms b d home es (outcome body_length body_count body_events (standing from.pos home from.number) (kept_in notes) (read_body terms b (d + 1) (placed from.at))) many (held notes.labels.now) next 0 (record { at = end; pos = from.pos; number = from.number }) (kept_in notes)
going_start terms b d home es from end many next notes f r e g =
    let l : many - 0 ≡ u16_at b (end - 2) = omega arith in
    record {
      same = rw l (f.start (standing from.pos home from.number) (kept_in notes));
      roomy = record { bytes = r.roomy.bytes; inside = f.inside; room = omega (arith, r.roomy.room, r.roomy.inside, f.inside, f.place) };
      before = omega (arith, r.before, f.place);
      is_due = g;
      slots = r.slots;
      kept = record { positions = refl; homes = refl };
    }

module _ {terms : Terms} {b : List ℕ} {d : ℕ} {home : BytePosition} {es : List Entry} {whole : Outcome} {many : ℕ} {old : Tables} {next : code.Option EntryNumber} {i : ℕ} {here : Cursor} {s : State} (g : Going terms b d home es whole many old next i here s) where
  -- at its end the index is the count
  pub going_last : i ≡ many → Going terms b d home es whole many old next many here s
  going_last e = rw e at g

  -- what recording the labels of the next action asks
  pub going_due : {at end : ℕ} → Facts terms b at end d es → i < 65536 → Recordable es next (record { index = i }) (position_of here.pos home) s.labels.positions
  going_due f h = record { terms = terms; is_due = g.is_due; rising = f.rising; slots = g.slots; index_fits = h; position_fits = omega (arith, g.roomy.room) }

  module _ {tab : Tables} (m : tab ≡ recorded (labels_at es (record { index = i }) (position_of here.pos home)) s.labels) where
    marked : state tab s.over ≡ run (labels_at es (record { index = i }) (standing here.pos home here.number)) s
    unfolding run
    marked =
        ap₂ state (m ∙ sym (any_number es (record { index = i }) here.pos.0 home.0 here.number.0 s.labels)) (sym (labels_quiet es (record { index = i }) (standing here.pos home here.number) s.over))

    pub going_kept : LengthsKept old tab
    going_kept = kept_on g.kept (kept_recorded _ m)

    pub going_slots : Slots terms tab.positions
    going_slots = slots_kept g.slots (kept_recorded _ m).positions

    module _ (h : i < many) {r : Walked} {s' : State} (o : Ran (outcome action_size count action_trace (standing here.pos home here.number) (state tab s.over) (the_action terms b d here.at)) r s') where
      pub going_bad : {x : Halt} → r ≡ Err x → Ran whole (Err x) s'
      going_bad {x} e = ran_fault _ (sym g.same ∙ step_fault terms b (behind 1 (read_body terms b d)) es i (standing here.pos home here.number) s (many - i) here.at x.fault x.place x.number.0 (omega arith) (rw marked at (ran_bad o e)))

      pub going_more : WordsShort terms → {x : Cursor} {next' : code.Option EntryNumber} → r ≡ Ok x → next' ≡ entry_of (due es (65536 * (i + 1))) → LengthsKept tab s'.labels → Going terms b d home es whole many old next' (i + 1) x s'
      going_more short {x} e a k =
          let o' = rw marked at (ran_is o e) in
          let z = outcome_is action_size count action_trace (standing here.pos home here.number) _ (the_action terms b d here.at) o' in
          let y = good_got z.0 (placed x.at) (action_most terms b g.roomy.bytes short d (placed here.at) g.roomy.inside) z.1 in
          let c = begins_got z.0 (placed x.at) (owner_begins terms b d (placed here.at)) z.1 in
          let l : many - (i + 1) ≡ many - i - 1 = omega arith in
          record {
            same = rw l (sym (step_done terms b (behind 1 (read_body terms b d)) es i (standing here.pos home here.number) s (many - i) here.at x.at x.pos.0 x.number.0 s' (omega arith) o') ∙ g.same);
            roomy = record { bytes = g.roomy.bytes; inside = y.1; room = omega (arith, y.0.0, y.0.1, y.1, z.2, g.roomy.room, g.roomy.inside) };
            before = omega (arith, z.3, c, g.before);
            is_due = a;
            slots = slots_kept going_slots k.positions;
            kept = kept_on going_kept k;
          }

    pub going_end : many ≤ i → Ran whole (Ok here) (state tab s.over)
    going_end h = ran_done (sym g.same ∙ step_end terms b (behind 1 (read_body terms b d)) es i (standing here.pos home here.number) s (many - i) here.at (omega arith) ∙ ap (done here.at here.pos.0 here.number.0) (sym marked))

-- ---- the bodies after a payload

turn_none : (one : Reader (ActionsOf Text ℕ)) (n p : ℕ) → n ≤ 0 → in_turn one n (placed p) ≡ got [] (placed p)
unfolding in_turn
turn_none one zero p h = refl
turn_none one (suc n) p h = absurd (omega arith)

turn_more : (one : Reader (ActionsOf Text ℕ)) (n p : ℕ) → 0 < n
    → in_turn one n (placed p) ≡ chain (one (placed p)) (λ x q. chain (more_begun (body_count x) (in_turn one (n - 1) q)) (λ xs r. got (x ∷ xs) r))
unfolding in_turn
turn_more one zero p h = absurd (omega arith)
turn_more one (suc n) p h = simp sub-one

or_none : (over : code.Option Overflow) → over ≡ option_or over None
or_none None = refl
or_none (Some o) = refl

-- what the bodies behind a payload come to, where `tested` is where they stand, with their owner's number
abbrev pub outcome_in : List Event → Position → Position → State → Read (List (ActionsOf Text ℕ)) → Outcome
outcome_in waiting tested from s x = outcome (total body_length) (total body_count) (λ xs q. in_bodies xs q ++ (waiting ++ body_tests xs tested)) from s x

-- the loop: `waiting` are the tests of the bodies already read, of which `long` is the first that is too long
pub record Bodying (terms : Terms) (b : List ℕ) (d : ℕ) (tested : Position) (whole : Outcome) (old : Tables) (left : ℕ) (here : Cursor) (long : code.Option Overflow) (s : State) : Type 0 where
  pub waiting : List Event
  pub same : outcome_in waiting tested (position here.pos.0 tested.home here.number.0) s (in_turn (read_body terms b d) left (placed here.at)) ≡ whole
  pub noting : (s : State) → run waiting s ≡ state s.labels (option_or s.over long)
  pub roomy : Roomy b here.at here.pos
  pub before : here.number.0 ≤ here.at
  pub slots : Slots terms s.labels.positions
  pub kept : LengthsKept old s.labels

pub bodying_start : {terms : Terms} {b : List ℕ} (d n : ℕ) {after : Spot} {owner : ActionNumber} (home : BytePosition) {notes : Notes} {left : ℕ} {here : Cursor} → left ≡ n → here ≡ next_after after owner → Ready terms b (next_after after owner) notes
    → Bodying terms b d (standing after.pos home owner) (outcome (total body_length) (total body_count) (bodies_events owner.0) (standing after.pos home (next_after after owner).number) (kept_in notes) (in_turn (read_body terms b d) n (placed after.at))) (held notes.labels.now) left here None (kept_in notes)
unfolding outcome bodies_events
bodying_start {terms} {b} d n {after} {owner} home {notes} e f r =
    rw (e, f) (record {
      waiting = [];
      same = same (in_turn (read_body terms b d) n (placed after.at));
      noting = λ s. run_none s ∙ ap (state s.labels) (or_none s.over);
      roomy = r.roomy;
      before = r.before;
      slots = r.slots;
      kept = record { positions = refl; homes = refl };
    })
  where
    same : (x : Read (List (ActionsOf Text ℕ)))
        → outcome_in [] (standing after.pos home owner) (standing after.pos home (next_after after owner).number) (kept_in notes) x ≡ outcome (total body_length) (total body_count) (bodies_events owner.0) (standing after.pos home (next_after after owner).number) (kept_in notes) x
    same (got xs q) = refl
    same (bad k q) = refl

module _ {terms : Terms} {d : ℕ} {b : List ℕ} {tested : Position} {whole : Outcome} {old : Tables} {left : ℕ} {here : Cursor} {long : code.Option Overflow} {s : State} (g : Bodying terms b d tested whole old left here long s) where
  pub bodying_end : left ≤ 0 → {over : code.Option Overflow} → over ≡ option_or s.over long → Ran whole (Ok here) (state s.labels over)
  unfolding outcome total in_bodies body_tests
  bodying_end h {over} e =
      let x = rw (turn_none (read_body terms b d) left here.at h) at g.same in
      let l : here.pos.0 + 0 ≡ here.pos.0 = omega arith in
      let m : here.number.0 + 0 ≡ here.number.0 = omega arith in
      let y : run (g.waiting ++ []) s ≡ state s.labels over = rw e (simp append-nil (g.noting s)) in
      ran_done (sym x ∙ rw (l, m, y))

  abbrev from : Position
  from = position here.pos.0 tested.home here.number.0

  module _ (h : 0 < left) {r : Walked} {s' : State} (o : Ran (outcome body_length body_count body_events from s (read_body terms b d (placed here.at))) r s') where
    pub bodying_bad : {x : Halt} → r ≡ Err x → Ran whole (Err x) s'
    bodying_bad e = ran_fault _ (sym g.same ∙ rw (turn_more (read_body terms b d) left here.at h) (fault_then body_length body_count body_events from s _ _ _ s (read_body terms b d (placed here.at)) _ (ran_bad o e)))

    -- a body ends at or after its start
    pub bodying_onward : {x : Cursor} → r ≡ Ok x → here.pos.0 ≤ x.pos.0
    bodying_onward e = omega (arith, (outcome_is body_length body_count body_events from _ (read_body terms b d (placed here.at)) (ran_is o e)).2)

    pub bodying_more : WordsShort terms → {x : Cursor} {long' : code.Option Overflow} → r ≡ Ok x → long' ≡ noted_if (overflow BlockLen (x.pos.0 - here.pos.0) tested.number) long → {left' : ℕ} → left' + 1 ≡ left → LengthsKept s.labels s'.labels
        → Bodying terms b d tested whole old left' x long' s'
    unfolding outcome total in_bodies body_tests moved
    bodying_more short {x} {long'} e k {left'} w v =
        let z = outcome_is body_length body_count body_events from _ (read_body terms b d (placed here.at)) (ran_is o e) in
        go z.0 z.1 z.2 z.3 z.4
      where
        less : left - 1 ≡ left'
        less = omega arith

        next_same : (t : ActionsOf Text ℕ) → read_body terms b d (placed here.at) ≡ got t (placed x.at) → x.pos.0 ≡ here.pos.0 + body_length t → x.number.0 ≡ here.number.0 + body_count t → s' ≡ run (body_events t from) s
            → (y : Read (List (ActionsOf Text ℕ))) → in_turn (read_body terms b d) left' (placed x.at) ≡ y
            → outcome_in (g.waiting ++ body_test (body_length t) tested) tested (position x.pos.0 tested.home x.number.0) s' y ≡ outcome_in g.waiting tested from s (in_turn (read_body terms b d) left (placed here.at))
        next_same t f i o₁ j₁ (got xs u) m =
            let l : x.pos.0 + total body_length xs ≡ here.pos.0 + (body_length t + total body_length xs) = omega arith in
            let v : (body_events t from ++ in_bodies xs (position (here.pos.0 + body_length t) tested.home (here.number.0 + body_count t))) ++ (g.waiting ++ (body_test (body_length t) tested ++ body_tests xs tested))
            ≡ body_events t from ++ (in_bodies xs (position (here.pos.0 + body_length t) tested.home (here.number.0 + body_count t)) ++ ((g.waiting ++ body_test (body_length t) tested) ++ body_tests xs tested)) = simp append_assoc in
            let k₁ : here.number.0 + (body_count t + total body_count xs) ≡ here.number.0 + body_count t + total body_count xs = omega arith in
            rw (turn_more (read_body terms b d) left here.at h, f, less, m, l, k₁, o₁, j₁, i, v, run_append (body_events t from) (in_bodies xs (position (here.pos.0 + body_length t) tested.home (here.number.0 + body_count t)) ++ ((g.waiting ++ body_test (body_length t) tested) ++ body_tests xs tested)) s)
        next_same t f i o₁ j₁ (bad k u) m =
            let k₁ : here.number.0 + (body_count t + u.begun) ≡ here.number.0 + body_count t + u.begun = omega arith in
            rw (turn_more (read_body terms b d) left here.at h, f, less, m, o₁, k₁)

        go : (t : ActionsOf Text ℕ) → read_body terms b d (placed here.at) ≡ got t (placed x.at) → x.pos.0 ≡ here.pos.0 + body_length t → x.number.0 ≡ here.number.0 + body_count t → s' ≡ run (body_events t from) s
            → Bodying terms b d tested whole old left' x long' s'
        go t f i o₁ j₁ =
            let y = good_got t (placed x.at) (body_most terms b g.roomy.bytes short d (placed here.at) g.roomy.inside) f in
            let m : x.pos.0 - here.pos.0 ≡ body_length t = omega arith in
            let c = begins_got t (placed x.at) (body_begins terms b d (placed here.at)) f in
            let k' : long' ≡ noted_if (overflow BlockLen (body_length t) tested.number) long = rw m at k in
            record {
              waiting = g.waiting ++ body_test (body_length t) tested;
              same = next_same t f i o₁ j₁ (in_turn (read_body terms b d) left' (placed x.at)) refl ∙ g.same;
              noting = λ s. run_append g.waiting (body_test (body_length t) tested) s ∙ ap (run (body_test (body_length t) tested)) (g.noting s) ∙ run_body (body_length t) tested s.labels (option_or s.over long) ∙ ap (state s.labels) (noted_or (overflow BlockLen (body_length t) tested.number) s.over long ∙ ap (option_or s.over) (sym k'));
              roomy = record { bytes = g.roomy.bytes; inside = y.1; room = omega (arith, y.0.0, y.0.1, y.1, i, g.roomy.room, g.roomy.inside) };
              before = omega (arith, o₁, c, g.before);
              slots = slots_kept g.slots v.positions;
              kept = kept_on g.kept v;
            }
