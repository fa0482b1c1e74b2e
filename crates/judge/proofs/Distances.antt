-- A branch judged by the mode and by its distance's bits. Assumes nothing.
use mathlib.Core.Path.{◌≡◌, refl, sym, ap, ◌∙◌}
use Prim.Native.Nat.{ℕ, zero, suc, ◌+◌, ◌-◌, ◌≤◌, ◌<◌}
use native.Mathlib.Omega.{arith}
use mathlib.Core.Bool.{Bool, true, false, not, ◌&&◌}
use mathlib.Core.Option.{Option, none, some}
use lib.ListN.{get_or}
use lib.Dec.{leb, eqb}
use lib.IntN.{pos, negsuc, sub_ℕ}
use borrow.Author.Tests.{leb-true, leb-false}
use Rattle.layout.specs.Numbers.{bits64}
use Rattle.layout.specs.Answers.{Refusal, NeverRecorded, StrayBranch}
use Rattle.layout.specs.Write.{Position}
use Rattle.layout.specs.Order.{zero_up, below, signed64}
use Rattle.layout.proofs.Order.{bits_back}
use Rattle.layout.specs.Judge.{Mode, distance, far_unless, or_else, refusal_if, barred, judged_in}
use Rattle.laws.proofs.Demands.{sub_up, sub_down}
use Rattle.labels.specs.Table.{record_of, record_at, is_recorded, is_at_home, homed, is_far}
use Rattle.labels.proofs.Labels.{homed_judged, judged_by}
use Rattle.positions.specs.declared.ActionNumber.{ActionNumber}
use Rattle.positions.specs.declared.BytePosition.{BytePosition}
use Rattle.measure.specs.Walk.{standing}
use Rattle.judge.specs.declared.BadBranch.TheVariants as branch
use Rattle.judge.specs.declared.Rules.{Rules}
use Rattle.judge.specs.Judging.{mode_of, refusal_of, record_by, Small}

-- a distance between two positions is what an i64 can hold
signed_sub : (to after : ℕ) → to < 9223372036854775808 → after < 9223372036854775808 → signed64 (bits64 (sub_ℕ to after)) ≡ sub_ℕ to after
signed_sub to after h k = go (leb after to) refl
  where
    go : (t : Bool) → leb after to ≡ t → signed64 (bits64 (sub_ℕ to after)) ≡ sub_ℕ to after
    go true e = rw (sub_up to after (leb-true after to e)) (bits_back (pos (to - after)) (zero_up (omega (arith, h))))
    go false e =
        let l : to < after = leb-false after to e in
        rw (sub_down to after l) (bits_back (negsuc (after - suc to)) (below (omega (arith, k, l))))

signed_distance : (slot after : ℕ) → slot < 9223372036854775808 → after < 9223372036854775808 → signed64 (bits64 (distance (record_of slot) after)) ≡ distance (record_of slot) after
unfolding record_of distance
signed_distance zero after h k = bits_back (pos 0) (zero_up (omega arith))
signed_distance (suc n) after h k = signed_sub n after (omega (arith, h)) k

-- ---- what the mode alone refuses

-- by its two tests, of which at most one holds
barred_by : (mode : Mode) (o : Option Position) (s : Position)
    → barred mode o s
    ≡ or_else (refusal_if (mode.strict && not (is_recorded o)) (NeverRecorded s.at s.number)) (refusal_if (mode.contained && not (is_at_home s.home o)) (StrayBranch s.at s.number))
unfolding barred is_recorded is_at_home or_else refusal_if
barred_by mode none s = go mode.strict mode.contained
  where
    go : (t u : Bool) → refusal_if t (NeverRecorded s.at s.number) ≡ or_else (refusal_if (t && true) (NeverRecorded s.at s.number)) (refusal_if (u && false) (StrayBranch s.at s.number))
    go true u = refl
    go false true = refl
    go false false = refl
barred_by mode (some r) s = go mode.strict
  where
    go : (t : Bool) → refusal_if (mode.contained && not (eqb r.home s.home)) (StrayBranch s.at s.number)
        ≡ or_else (refusal_if (t && false) (NeverRecorded s.at s.number)) (refusal_if (mode.contained && not (eqb r.home s.home)) (StrayBranch s.at s.number))
    go true = refl
    go false = refl

-- whether there is a record does not ask for its home
homed_recorded : (home : ℕ) (o : Option Position) → is_recorded (homed home o) ≡ is_recorded o
unfolding homed is_recorded
homed_recorded home none = refl
homed_recorded home (some s) = refl

module _ (rules : Rules) (label : ℕ) (operand home : BytePosition) (action : ActionNumber) (unrecorded : Bool)
    (i : unrecorded ≡ (rules.mode.strict && not (is_recorded (record_at rules.tab.now label)))) where
  abbrev o : Option Position
  o = record_by rules label

  abbrev here : Position
  here = standing operand home action

  abbrev Found : Option Refusal → Type 0
  Found x = judged_in (mode_of rules.mode) o here ≡ x

  is_unrecorded : (rules.mode.strict && not (is_recorded o)) ≡ unrecorded
  is_unrecorded = ap (λ t. rules.mode.strict && not t) (homed_recorded (get_or rules.homes.now label 0) (record_at rules.tab.now label)) ∙ sym i

  pub branch_unrecorded : unrecorded ≡ true → Found (some (refusal_of (branch.NeverRecorded operand) action))
  unfolding judged_in or_else refusal_if refusal_of
  branch_unrecorded e = rw (barred_by (mode_of rules.mode) o here, is_unrecorded, e)

  module _ (e : unrecorded ≡ false) (stray : Bool) (j : stray ≡ (rules.mode.contained && not (is_at_home home.0 o))) where
    is_barred : barred (mode_of rules.mode) o here ≡ refusal_if stray (StrayBranch operand.0 action.0)
    unfolding or_else refusal_if
    is_barred = barred_by (mode_of rules.mode) o here ∙ rw (is_unrecorded, e, j)

    pub branch_stray : stray ≡ true → Found (some (refusal_of (branch.StrayBranch operand) action))
    unfolding judged_in or_else refusal_if refusal_of
    branch_stray f = rw (is_barred, f)

    -- ---- a branch that it takes, by its distance's bits
    module _ (f : stray ≡ false) (bits : ℕ) (far : Bool) (small : Small rules.tab.now) (h : operand.0 + 2 ≤ 1099511627776)
        (k : bits ≡ bits64 (distance (record_at rules.tab.now label) (operand.0 + 2))) (l : far ≡ is_far bits) where
      slot : ℕ
      slot = get_or rules.tab.now label 0

      is_judged : Found (far_unless (not far) (distance (record_of slot) (operand.0 + 2)) action.0)
      unfolding judged_in or_else refusal_if slot
      is_judged =
          rw (is_barred, f) (homed_judged (get_or rules.homes.now label 0) (record_of slot) (operand.0 + 2) action.0
          ∙ judged_by slot (operand.0 + 2) action.0 (omega (arith, small label)) (omega (arith, h)) l k)

      pub branch_far : far ≡ true → Found (some (refusal_of (branch.Far bits) action))
      unfolding far_unless refusal_of slot
      branch_far g =
          let s : signed64 bits ≡ distance (record_of slot) (operand.0 + 2) = ap signed64 k ∙ signed_distance slot (operand.0 + 2) (omega (arith, small label)) (omega (arith, h)) in
          is_judged ∙ rw (g, s)

      pub branch_near : far ≡ false → Found none
      unfolding far_unless
      branch_near g = is_judged ∙ ap (λ (t : Bool). far_unless (not t) (distance (record_of slot) (operand.0 + 2)) action.0) g
