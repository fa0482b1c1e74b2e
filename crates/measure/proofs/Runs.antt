-- Laws of the state that a walk keeps, and of its outcomes. Assumes nothing.
use mathlib.Core.Path.{◌≡◌, refl, ap, ap₂, ◌∙◌}
use Prim.Native.Nat.{ℕ, ◌+◌, ◌≤◌, ◌<◌}
use mathlib.Core.Bool.{Bool, true, false}
use mathlib.Core.List.{List, [], ◌∷◌, ◌++◌}
use Rattle.std.specs.Prelude.{Option, Some, None}
use Rattle.std.specs.Option.{option_or}
use lib.Dec.{ltb}
use borrow.Author.Tests.{lt-ltb, le-ltb}
use Rattle.layout.specs.Lists.{pick}
use Rattle.layout.specs.Read.{placed, Read, got}
use Rattle.layout.specs.Write.{Position, Event, label_at, branch_at, payload_too_long, body_too_long, event_if, payload_test, body_test}
use Rattle.labels.specs.Table.{Tables, record_all, recorded}
use Rattle.labels.proofs.Labels.{recorded_append}
use Rattle.measure.specs.declared.Limit.TheVariants.{ActionLen, BlockLen}
use Rattle.measure.specs.declared.Overflow.{Overflow}
use Rattle.measure.specs.Walk.{State, state, overflow, noted, noted_if, note_all, run, done, outcome, branches, measure, uncounted, measured}

note_all-append : (xs ys : List Event) (over : Option Overflow) → note_all (xs ++ ys) over ≡ note_all ys (note_all xs over)
unfolding note_all
note_all-append [] ys over = refl
note_all-append (label_at l s ∷ xs) ys over = note_all-append xs ys over
note_all-append (branch_at l s ∷ xs) ys over = note_all-append xs ys over
note_all-append (payload_too_long n s ∷ xs) ys over = note_all-append xs ys (noted (overflow ActionLen n s.number) over)
note_all-append (body_too_long n s ∷ xs) ys over = note_all-append xs ys (noted (overflow BlockLen n s.number) over)

-- one list of events after another
pub run_append : (xs ys : List Event) (s : State) → run (xs ++ ys) s ≡ run ys (run xs s)
unfolding run
run_append xs ys s = ap₂ state (recorded_append xs ys s.labels) (note_all-append xs ys s.over)

pub run_none : (s : State) → run [] s ≡ s
unfolding run recorded record_all note_all
run_none s = refl

-- the two tests
pub run_payload : (n : ℕ) (p : Position) (tab : Tables) (over : Option Overflow) → run (payload_test n p) (state tab over) ≡ state tab (noted_if (overflow ActionLen n p.number) over)
unfolding payload_test noted_if
run_payload n p tab over = go (ltb 65535 n)
  where
    go : (t : Bool) → run (event_if t (payload_too_long n p)) (state tab over) ≡ state tab (pick t (noted (overflow ActionLen n p.number) over) over)
    go true = unfold run event_if recorded record_all note_all pick in refl
    go false = unfold run event_if recorded record_all note_all pick in refl

pub run_body : (n : ℕ) (p : Position) (tab : Tables) (over : Option Overflow) → run (body_test n p) (state tab over) ≡ state tab (noted_if (overflow BlockLen n p.number) over)
unfolding body_test noted_if
run_body n p tab over = go (ltb 65535 n)
  where
    go : (t : Bool) → run (event_if t (body_too_long n p)) (state tab over) ≡ state tab (pick t (noted (overflow BlockLen n p.number) over) over)
    go true = unfold run event_if recorded record_all note_all pick in refl
    go false = unfold run event_if recorded record_all note_all pick in refl

-- ---- what `note_long` leaves

pub noted_short : (found : Overflow) (over : Option Overflow) → found.len ≤ 65535 → over ≡ noted_if found over
unfolding noted_if pick
noted_short found over h = rw (le-ltb 65535 found.len h)

pub noted_long : (found : Overflow) (over : Option Overflow) → 65535 < found.len → noted found over ≡ noted_if found over
unfolding noted_if pick
noted_long found over h = rw (lt-ltb 65535 found.len h)

-- what is noted behind others is noted behind their first
pub noted_or : (found : Overflow) (over long : Option Overflow) → noted_if found (option_or over long) ≡ option_or over (noted_if found long)
unfolding noted_if pick
noted_or found over long = go (ltb 65535 found.len) over
  where
    go : (t : Bool) (over : Option Overflow) → pick t (noted found (option_or over long)) (option_or over long) ≡ option_or over (pick t (noted found long) long)
    go true None = refl
    go true (Some o) = refl
    go false None = refl
    go false (Some o) = refl

-- ---- the branches among events

pub branches_append : (xs ys : List Event) → branches (xs ++ ys) ≡ branches xs ++ branches ys
unfolding branches
branches_append [] ys = refl
branches_append (label_at l s ∷ xs) ys = branches_append xs ys
branches_append (branch_at l s ∷ xs) ys = ap (λ (es : List Event). branch_at l s ∷ es) (branches_append xs ys)
branches_append (payload_too_long n s ∷ xs) ys = branches_append xs ys
branches_append (body_too_long n s ∷ xs) ys = branches_append xs ys

pub branches_none : branches [] ≡ []
unfolding branches
branches_none = refl

-- neither test is one
pub branches_payload : (n : ℕ) (p : Position) → branches (payload_test n p) ≡ []
unfolding payload_test
branches_payload n p = go (ltb 65535 n)
  where
    go : (t : Bool) → branches (event_if t (payload_too_long n p)) ≡ []
    go true = unfold event_if branches in refl
    go false = unfold event_if branches in refl

pub branches_after : (n : ℕ) (p : Position) (es : List Event) → branches (payload_test n p ++ es) ≡ branches es
branches_after n p es = branches_append (payload_test n p) es ∙ ap (λ (xs : List Event). xs ++ branches es) (branches_payload n p)

pub branches_body : (n : ℕ) (p : Position) → branches (body_test n p) ≡ []
unfolding body_test
branches_body n p = go (ltb 65535 n)
  where
    go : (t : Bool) → branches (event_if t (body_too_long n p)) ≡ []
    go true = unfold event_if branches in refl
    go false = unfold event_if branches in refl

-- ---- a measure and an outcome, from the reading

module _ {A : Type 0} (size count : A → ℕ) (trace : A → Position → List Event) (from : Position) where
  pub measured_got : {a : A} {q w k : ℕ} {es : List Event} {x : Read A} → x ≡ got a (placed q) → w ≡ from.at + size a → k ≡ from.number + count a → es ≡ branches (trace a from)
      → measured size count trace from x ≡ got (measure w k es) (placed q)
  unfolding measured uncounted
  measured_got e f i g = rw (e, f, i, g)

module _ {A : Type 0} (size count : A → ℕ) (trace : A → Position → List Event) (from : Position) (s : State) where
  pub outcome_got : {a : A} {q w k : ℕ} {u : State} {x : Read A} → x ≡ got a (placed q) → w ≡ from.at + size a → k ≡ from.number + count a → u ≡ run (trace a from) s
      → outcome size count trace from s x ≡ done q w k u
  unfolding outcome
  outcome_got e f i g = rw (e, f, i, g)
