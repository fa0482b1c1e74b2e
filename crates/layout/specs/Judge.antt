-- What is wrong with a tree that was read: 8 and 9, "the first met in writing order; then 10, branches in writing order"; and
-- what a mode refuses besides, 14 and 15, which are "judged with 10". Assumes nothing.
use Rattle.std.specs.Prelude.{ℕ, ◌+◌, Bool, true, false, ◌&&◌, not, List, [], ◌∷◌, ℤ, pos, leb, eqb}
use Rattle.std.proofs.Math.Option.{Option, none, some}
use Rattle.std.proofs.Math.IntN.{sub_ℕ}
use Rattle.layout.specs.Answers.{Refusal, ActionLenOverflow, BlockLenOverflow, JumpOffsetOverflow, NeverRecorded, StrayBranch}
use Rattle.layout.specs.Tree.{Actions}
use Rattle.layout.specs.Write.{Position, Event, label_at, branch_at, payload_too_long, body_too_long, lookup, events}

-- the first payload or body that is too long
unfoldable pub too_long : List Event → Option Refusal
too_long [] = none
too_long (label_at l s ∷ es) = too_long es
too_long (branch_at l s ∷ es) = too_long es
too_long (payload_too_long n s ∷ es) = some (ActionLenOverflow n s.number)
too_long (body_too_long n s ∷ es) = some (BlockLenOverflow n s.number)

-- a branch's distance, signed, from the position after its operand to its label's record; 0 without one
unfoldable pub distance : Option Position → ℕ → ℤ
distance none after = pos 0
distance (some s) after = sub_ℕ s.at after

-- "outside -32,768 to 32,767" or not, for a branch to position `to`
unfoldable pub is_near : ℕ → ℕ → Bool
is_near to after = leb to (after + 32767) && leb after (to + 32768)

unfoldable pub far_unless : Bool → ℤ → ℕ → Option Refusal
far_unless true distance action = none
far_unless false distance action = some (JumpOffsetOverflow distance action)

-- one branch, by its label's record, the position after its operand, and its own number
unfoldable pub judged : Option Position → ℕ → ℕ → Option Refusal
judged none after action = none
judged (some s) after action = far_unless (is_near s.at after) (distance (some s) after) action

-- the first of two
unfoldable pub or_else : Option Refusal → Option Refusal → Option Refusal
or_else none o = o
or_else (some r) o = some r

-- ---- the mode

-- document 02: "a strict mode beside the plain one", and "a contained mode, usable with or without strict"
pub record Mode : Type 0 where
  pub strict : Bool
  pub contained : Bool

-- document 01's
abbrev pub plain_mode : Mode
plain_mode = record { strict = false; contained = false }

-- a refusal, where a test holds
unfoldable pub refusal_if : Bool → Refusal → Option Refusal
refusal_if true r = some r
refusal_if false r = none

-- what the mode alone refuses in one branch, by its label's record and its operand's position: in strict mode "a branch whose
-- label has no record stops the build", by 14; a contained mode "refuses a branch whose final label record is in another function
-- body", by 15, and "an unrecorded label is left to strict mode". The value of both is "the byte position of the operand", and the
-- action is the branch
unfoldable pub barred : Mode → Option Position → Position → Option Refusal
barred mode none s = refusal_if mode.strict (NeverRecorded s.at s.number)
barred mode (some r) s = refusal_if (mode.contained && not (eqb r.home s.home)) (StrayBranch s.at s.number)

-- what is wrong with one branch, by the same: "for one branch 15 before 10"
unfoldable pub judged_in : Mode → Option Position → Position → Option Refusal
judged_in mode o s = or_else (barred mode o s) (judged o (s.at + 2) s.number)

-- ---- the branches

-- "first branch in writing order": of the branches among the events, the first that a rule refuses. `final` gives a label's final
-- record; the rule is given that and the position of the branch's operand
unfoldable pub first_refused : (Option Position → Position → Option Refusal) → (ℕ → Option Position) → List Event → Option Refusal
first_refused rule final [] = none
first_refused rule final (label_at l s ∷ es) = first_refused rule final es
first_refused rule final (branch_at l s ∷ es) = or_else (rule (final l) s) (first_refused rule final es)
first_refused rule final (payload_too_long n s ∷ es) = first_refused rule final es
first_refused rule final (body_too_long n s ∷ es) = first_refused rule final es

-- by the plain rule: the first that goes too far
abbrev pub far_by : (ℕ → Option Position) → List Event → Option Refusal
far_by final es = first_refused (λ o s. judged o (s.at + 2) s.number) final es

-- by a mode's rule
abbrev pub bad_by : Mode → (ℕ → Option Position) → List Event → Option Refusal
bad_by mode final es = first_refused (judged_in mode) final es

-- the same, where `all` holds every label record
abbrev pub too_far : List Event → List Event → Option Refusal
too_far all es = far_by (λ l. lookup l all) es

abbrev pub bad_branch : Mode → List Event → List Event → Option Refusal
bad_branch mode all es = bad_by mode (λ l. lookup l all) es

-- 8 and 9 before 10, 14 and 15
unfoldable pub judge : Mode → Actions → Option Refusal
judge mode t = or_else (too_long (events t)) (bad_branch mode (events t) (events t))
