-- What is found in things that follow each other: a loop that judges each and stops at the first that is refused. Assumes nothing.
use mathlib.Core.Path.{◌≡◌, refl, sym, ap, ◌∙◌}
use Prim.Native.Nat.{ℕ, zero, suc, ◌+◌, ◌-◌, ◌≤◌, ◌<◌}
use native.Mathlib.Numerals.{add-one}
use native.Mathlib.Omega.{arith}
use mathlib.Core.List.{List, [], ◌∷◌, ◌++◌}
use Rattle.std.specs.Prelude.{Result, Ok, Err}
use Rattle.std.specs.Result.{IsErrAnd}
use Rattle.layout.specs.Answers.{Fault}
use Rattle.layout.specs.Read.{Terms, Place, placed, Stop, Read, got, bad, Reader, chain, repeat}
use Rattle.layout.specs.Write.{Position, position, moved, Event}
use Rattle.layout.specs.Judge.{or_else, judged_in, first_refused}
use Rattle.layout.specs.Lengths.{total}
use Rattle.laws.proofs.Branches.{refused_append}
use Rattle.positions.specs.declared.BytePosition.{BytePosition}
use Rattle.positions.specs.declared.Cursor.{Cursor}
use Rattle.positions.specs.Scanned.{Roomy}
use Rattle.measure.specs.Walk.{standing, Measure, measure, branches, uncounted, measured}
use Rattle.measure.proofs.Runs.{branches_append}
use Rattle.judge.specs.declared.Refused.{Refused}
use Rattle.judge.specs.declared.Rules.{Rules}
use Rattle.judge.specs.Judging.{mode_of, record_by, refused_by, Judgeable, Judging}

-- what is found depends on the end and on the first that is refused
judging_as : (rules : Rules) (m m' : Measure) (q : Place) (r : Result Cursor Refused) → m.end ≡ m'.end → m.number ≡ m'.number → refused_by rules m.branching ≡ refused_by rules m'.branching → Judging rules (got m q) r → Judging rules (got m' q) r
judging_as rules m m' q (Ok c) e i f (h, k) = (sym f ∙ h, record { place = k.place; end = k.end ∙ e; number = k.number ∙ i })
judging_as rules m m' q (Err x) e i f (h, k) = (sym f ∙ h, tt)

-- what was given was not refused
pub not_refused : {A X : Type 0} {a : A} {q : Place} {f : Fault} {p : Stop} → got a q ≡ bad f p → X
not_refused e =
    let z : ◌≡◌ {A = ℕ} 0 1 = cc in
    absurd (omega arith)

-- ---- n of the same, one after the other

repeat_none : {A : Type 0} (one : Reader A) (n p : ℕ) → n ≤ 0 → repeat one n (placed p) ≡ got [] (placed p)
unfolding repeat
repeat_none one zero p h = refl
repeat_none one (suc n) p h = absurd (omega arith)

repeat_more : {A : Type 0} (one : Reader A) (n p : ℕ) → repeat one (n + 1) (placed p) ≡ chain (one (placed p)) (λ a q. chain (repeat one n q) (λ xs r. got (a ∷ xs) r))
unfolding repeat
repeat_more one n p = rw (add-one n) refl

-- the events of each, from a position on
unfoldable pub in_each : {A : Type 0} → (A → ℕ) → (A → ℕ) → (A → Position → List Event) → List A → Position → List Event
in_each size count trace [] s = []
in_each size count trace (x ∷ xs) s = trace x s ++ in_each size count trace xs (moved (size x) (count x) s)

module _ {A : Type 0} (terms : Terms) (one : Reader A) (size count : A → ℕ) (trace : A → Position → List Event) (b : List ℕ) (home : BytePosition) (rules : Rules) where
  abbrev pub Each : ℕ → Cursor → Read Measure
  Each n c = measured (total size) (total count) (in_each size count trace) (standing c.pos home c.number) (repeat one n (placed c.at))

  -- the loop: `left` of them are left, and what is found in those is what is found in all
  pub record Looping (goal : Result Cursor Refused → Type 0) (left : ℕ) (c : Cursor) : Type 0 where
    pub rest : (r : Result Cursor Refused) → Judging rules (Each left c) r → goal r
    pub judgeable : Judgeable terms (repeat one left (placed c.at)) b c rules

-- the first of those left, and the others
record First {A : Type 0} (one : Reader A) (n p : ℕ) : Type 0 where
  pub first : A
  pub place : Place
  pub is_first : one (placed p) ≡ got first place
  pub others : List A
  pub last : Place
  pub are_others : repeat one n place ≡ got others last
  pub are_all : repeat one (n + 1) (placed p) ≡ got (first ∷ others) last

split : {A : Type 0} (one : Reader A) (n p : ℕ) (xs : List A) (u : Place) → repeat one (n + 1) (placed p) ≡ got xs u → First one n p
split {A} one n p xs u e = go (one (placed p)) refl
  where
    go : (x : Read A) → one (placed p) ≡ x → First one n p
    go (bad f q) g =
        let y : repeat one (n + 1) (placed p) ≡ bad f q = repeat_more one n p ∙ rw g in
        not_refused (sym e ∙ y)
    go (got a q) g = then (repeat one n q) refl
      where
        then : (y : Read (List A)) → repeat one n q ≡ y → First one n p
        then (got ys v) k = record { first = a; place = q; is_first = g; others = ys; last = v; are_others = k; are_all = repeat_more one n p ∙ rw (g, k) }
        then (bad f v) k =
            let y : repeat one (n + 1) (placed p) ≡ bad f v = repeat_more one n p ∙ rw (g, k) in
            not_refused (sym e ∙ y)

-- `i` of n are judged
module _ {A : Type 0} {terms : Terms} {one : Reader A} {size count : A → ℕ} {trace : A → Position → List Event} {b : List ℕ} {home : BytePosition} {rules : Rules} {goal : Result Cursor Refused → Type 0} {c : Cursor} (n i : ℕ) where
  pub loop_end : n ≤ i → Looping terms one size count trace b home rules goal (n - i) c → goal (Ok c)
  unfolding measured uncounted total in_each branches first_refused
  loop_end h g =
      let e : Each terms one size count trace b home rules (n - i) c ≡ got (measure (c.pos.0 + 0) (c.number.0 + 0) []) (placed c.at) = rw (repeat_none one (n - i) c.at (omega (arith, h))) in
      g.rest (Ok c) (rw e (refl, record { place = refl; end = omega arith; number = omega arith }))

  module _ (h : i < n) (g : Looping terms one size count trace b home rules goal (n - i) c) where
    abbrev Here : Result Cursor Refused → Type 0
    Here r = Judging rules (measured size count trace (standing c.pos home c.number) (one (placed c.at))) r

    left : n - i ≡ n - (i + 1) + 1
    left = omega (arith, h)

    next : First one (n - (i + 1)) c.at
    next = split one (n - (i + 1)) c.at g.judgeable.value g.judgeable.next (ap (λ (m : ℕ). repeat one m (placed c.at)) (sym left) ∙ g.judgeable.reads)

    pub loop_one : Judgeable terms (one (placed c.at)) b c rules
    loop_one = record { roomy = g.judgeable.roomy; before = g.judgeable.before; fitting = g.judgeable.fitting; value = next.first; next = next.place; reads = next.is_first }

    after : Position
    after = position (c.pos.0 + size next.first) home.0 (c.number.0 + count next.first)

    first_events : List Event
    first_events = trace next.first (standing c.pos home c.number)

    other_events : List Event
    other_events = in_each size count trace next.others after

    all_of : Each terms one size count trace b home rules (n - i) c
        ≡ got (measure (c.pos.0 + (size next.first + total size next.others)) (c.number.0 + (count next.first + total count next.others)) (branches (first_events ++ other_events))) next.last
    unfolding measured uncounted total in_each moved after first_events other_events
    all_of = ap (λ (m : ℕ). Each terms one size count trace b home rules m c) left ∙ rw next.are_all

    first_of : refused_by rules (branches (first_events ++ other_events)) ≡ or_else (refused_by rules (branches first_events)) (refused_by rules (branches other_events))
    first_of = ap (refused_by rules) (branches_append first_events other_events) ∙ refused_append (judged_in (mode_of rules.mode)) (record_by rules) (branches first_events) (branches other_events)

    here : (r : Result Cursor Refused) → Here r → Judging rules (got (measure (c.pos.0 + size next.first) (c.number.0 + count next.first) (branches first_events)) next.place) r
    unfolding measured uncounted first_events
    here r j = rw next.is_first at j

    pub loop_bad : (x : Refused) (r : Result Cursor Refused) → IsErrAnd r (λ y. y ≡ x) → Here (Err x) → goal r
    unfolding or_else
    loop_bad x (Ok d) e j = absurd e
    loop_bad x (Err y) e j = rw e (g.rest (Err x) (rw all_of (first_of ∙ rw (here (Err x) j).0, tt)))

    -- what was read is written within the room, and holds at most an action for each byte
    module _ (onward : (p : ℕ) (w x : BytePosition) (a : A) (q : Place) → Roomy b p w → one (placed p) ≡ got a q → x.0 ≡ w.0 + size a → Roomy b q.at x)
        (passes : (p : ℕ) (a : A) (q : Place) → one (placed p) ≡ got a q → count a + p ≤ q.at) where
      pub loop_more : (d : Cursor) → Here (Ok d) → Looping terms one size count trace b home rules goal (n - (i + 1)) d
      unfolding or_else measured uncounted after other_events
      loop_more d j =
          let k = here (Ok d) j in
          let e : repeat one (n - (i + 1)) (placed d.at) ≡ got next.others next.last = ap (λ (v : ℕ). repeat one (n - (i + 1)) (placed v)) k.1.place ∙ next.are_others in
          let f : refused_by rules (branches (in_each size count trace next.others (standing d.pos home d.number))) ≡ refused_by rules (branches (first_events ++ other_events)) = rw (k.1.end, k.1.number) (sym (first_of ∙ rw k.0)) in
          record {
            rest = λ r v. g.rest r (rw all_of (judging_as rules _ _ next.last r (omega (arith, k.1.end)) (omega (arith, k.1.number)) f (rw e at v)));
            judgeable = record {
              roomy = rw k.1.place (onward c.at c.pos d.pos next.first next.place g.judgeable.roomy next.is_first k.1.end);
              before = omega (arith, k.1.number, k.1.place, passes c.at next.first next.place next.is_first, g.judgeable.before);
              fitting = g.judgeable.fitting;
              value = next.others;
              next = next.last;
              reads = e;
            };
          }
